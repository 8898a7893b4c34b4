-- Euclid's algorithm finds the greatest common divisor.
use Rattle.std.proofs.Common.{sym, subst, arith}
use Rattle.std.specs.Int.{IsGcd}
use Rattle.std.proofs.lemmas.Nat.Gcd.{IsGcd-from_zero, IsGcd-from_mod, same_from_IsGcd, dvd-zero, dvd_refl}
use Rattle.ct_finder.specs.Divisor.{gcd as gcd_of_both}
use Rattle.ct_finder.proofs.Divisors.{gcd-is}
use Rattle.ct_finder.proofs.arithmetic.gcd.Goals as goal

pub loop-rest-preserved : goal.loop-rest-preserved
loop-rest-preserved c = (
  (λ g h. c.loop-rest.invariant.0 g (IsGcd-from_mod _ _ g (subst (λ m. IsGcd c.loop-rest.rest m g) c.remainder-next.ensures h))),
  (λ p q. let both = c.loop-rest.invariant.1 p q in (both.1, omega (arith, both.1, c.remainder-next.ensures))),
)

pub returns-then-a-eq0-clause-value : goal.returns-then-a-eq0-clause-value
returns-then-a-eq0-clause-value c =
    let zero_left : IsGcd c.args.a c.args.b c.args.b = subst (λ m. IsGcd m c.args.b c.args.b) (sym c.if-a-eq0.true) (dvd-zero c.args.b, dvd_refl c.args.b, λ d p q. q) in
    same_from_IsGcd c.args.a c.args.b c.args.b (gcd_of_both c.args.a c.args.b) zero_left (gcd-is c.args.a c.args.b)

pub returns-clause-value : goal.returns-clause-value
returns-clause-value c =
    same_from_IsGcd c.args.a c.args.b c.loop-rest.divisor (gcd_of_both c.args.a c.args.b)
    (c.loop-rest.invariant.0 c.loop-rest.divisor (IsGcd-from_zero c.loop-rest.divisor c.loop-rest.rest (omega arith)))
    (gcd-is c.args.a c.args.b)

pub returns-clause-small : goal.returns-clause-small
returns-clause-small c = λ p q. (c.loop-rest.invariant.1 p q).0
