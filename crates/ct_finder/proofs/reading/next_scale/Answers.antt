-- The divisor is at least 1, and so is the multiple.
use Rattle.std.proofs.Common.{◌≡◌, ◌<◌, ◌≤◌, ◌^◌, ◌*◌, ◌/◌, ℕ, sym, ap, ap₂, ◌∙◌, subst, arith}
use Rattle.std.proofs.Math.Nat.{div-le_self}
use Rattle.ct_finder.specs.Divisor.{gcd}
use Rattle.ct_finder.proofs.RunScales.{next-multiple}
use Rattle.ct_finder.proofs.ReadingLemmas.{gcd-some, product_small}
use Rattle.ct_finder.proofs.reading.next_scale.Goals as goal

pub nonzero_div-result : goal.nonzero_div-result
nonzero_div-result c =
    let value : c.gcd-divisor.result ≡ gcd c.args.q c.args.entry = c.gcd-divisor.ensures.value ∙ ap₂ gcd c.from.ensures c.from-2.ensures in
    omega (arith, value, gcd-some c.args.q c.args.entry c.requires.some.0)

pub returns-clause-some_of : goal.returns-clause-some_of
returns-clause-some_of c =
    let q = c.args.q in
    let b = c.args.entry in
    let value : c.gcd-divisor.result ≡ gcd q b = c.gcd-divisor.ensures.value ∙ ap₂ gcd c.from.ensures c.from-2.ensures in
    let whole : c.from-3.result / c.gcd-divisor.result * c.from-4.result ≡ q / gcd q b * b =
    ap (λ (x : ℕ). x / c.gcd-divisor.result * c.from-4.result) c.from-3.ensures ∙ ap₂ (λ (g y : ℕ). q / g * y) value c.from-4.ensures in
    subst (λ (n : ℕ). 1 ≤ n) (sym whole) (next-multiple q b c.requires.some.0 c.requires.some.1).2

pub returns-clause-small_of : goal.returns-clause-small_of
returns-clause-small_of c =
    let part = c.args.q / c.gcd-divisor.result in
    subst (λ (n : ℕ). n < 2 ^ 126) (sym (ap₂ (λ (a b : ℕ). a / c.gcd-divisor.result * b) c.from-3.ensures c.from-4.ensures))
    (product_small part c.args.entry c.args.q (div-le_self c.args.q c.gcd-divisor.result) c.requires.small.0 c.requires.small.1)
