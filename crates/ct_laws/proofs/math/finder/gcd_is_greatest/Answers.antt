use Rattle.ct_finder.proofs.Divisors.{gcd-is}
use Rattle.ct_laws.proofs.math.finder.gcd_is_greatest.Goals as goal

pub returns : goal.returns
returns c = gcd-is
