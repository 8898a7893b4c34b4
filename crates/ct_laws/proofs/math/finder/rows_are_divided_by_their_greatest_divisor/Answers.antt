use Rattle.std.specs.Prelude.{unsigned_abs}
use Rattle.std.specs.Int.{◌∣◌}
use Rattle.std.proofs.lemmas.List.Elements.{All-from_recursion}
use Rattle.ct_finder.specs.Divisor.{divisor}
use Rattle.ct_finder.proofs.Divisors.{divisor-divides, divisor-greatest, divisor-zeros, reduced-exact}
use Rattle.ct_laws.proofs.math.finder.rows_are_divided_by_their_greatest_divisor.Goals as goal

pub returns-clause-divides : goal.returns-clause-divides
returns-clause-divides c = λ row. All-from_recursion (λ z. divisor row ∣ unsigned_abs z) row (divisor-divides row)

pub returns-clause-greatest : goal.returns-clause-greatest
returns-clause-greatest c = divisor-greatest

pub returns-clause-zeros : goal.returns-clause-zeros
returns-clause-zeros c = divisor-zeros

pub returns-clause-exact : goal.returns-clause-exact
returns-clause-exact c = reduced-exact
