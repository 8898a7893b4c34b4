-- The two numbers are those of j and before it.
use Rattle.std.proofs.Common.{◌≡◌}
use Rattle.ct_words.specs.Numbers.{krawtchouk}
use Rattle.ct_krawtchouk.specs.Krawtchouk.{krawtchouk_before}
use Rattle.ct_krawtchouk.proofs.krawtchouk.krawtchouk_number.Given as goal

abbrev pub invariant-loop-j : goal.invariant-loop-j
invariant-loop-j l = (l.number ≡ krawtchouk l.n l.j l.i) × (l.before ≡ krawtchouk_before l.n l.j l.i)
