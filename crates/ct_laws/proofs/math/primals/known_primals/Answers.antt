use Rattle.std.proofs.Common.{refl}
use Rattle.ct_words.specs.Numbers.{krawtchouk, johnson}
use Rattle.ct_primal.specs.Primal.{primal_fault, primal_value}
use Rattle.ct_laws.proofs.math.primals.known_primals.Goals as goal

pub returns : goal.returns
unfolding primal_fault primal_value krawtchouk johnson
returns c = record {
  accepted = refl;
  value = refl;
  below = refl;
  scale = refl;
  nordstrom_robinson = refl;
  its_size = refl;
  one_more = refl;
  rounded_down = refl;
}
