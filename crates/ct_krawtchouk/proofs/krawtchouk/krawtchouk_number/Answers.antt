-- The first number is 1.
use Rattle.std.proofs.Common.{refl, sym}
use Rattle.ct_krawtchouk.specs.Hamming.{krawtchouk-first}
use Rattle.ct_krawtchouk.proofs.krawtchouk.krawtchouk_number.Goals as goal

pub loop-j-init : goal.loop-j-init
loop-j-init c = (sym (krawtchouk-first c.args.n c.args.i), refl)
