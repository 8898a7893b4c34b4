-- Where w is above n, no word has the weight; else the quotient is that of the definition.
use Rattle.std.proofs.Common.{◌≡◌, ℕ, ◌-◌, ◌*◌, ◌/◌, ◌%◌, ◌^◌, ◌<◌, ap, ap₂, sym, ◌∙◌, arith}
use Rattle.std.proofs.Math.Nat.{div-zero}
use Rattle.std.proofs.lemmas.Nat.{one_shl}
use Rattle.ct_words.specs.Counting.Binomials.{choose}
use Rattle.ct_words.proofs.Counting.Binomials.{one-le-choose, choose_past}
use Rattle.ct_johnson.specs.Bounds.{average}
use Rattle.ct_johnson.proofs.unrestricted.average.Goals as goal

-- no word is heavier than it is long
none_heavier : (n w u : ℕ) → n < w → average n w u ≡ 0
none_heavier n w u heavy = ap (λ z. 2 ^ (n - 1) * u / z) (choose_past n w heavy) ∙ div-zero (2 ^ (n - 1) * u)

-- what the code computes is the average
value_is : (n w u v b : ℕ) → n - 1 < 64 → v ≡ u → b ≡ choose n w → 1 * 2 ^ (n - 1) % 2 ^ 64 * v / b ≡ average n w u
value_is n w u v b small same size =
    ap (λ z. z * v / b) (one_shl (n - 1) 64 small) ∙ ap₂ (λ (x y : ℕ). 2 ^ (n - 1) * x / y) same size

pub returns-then-n-w : goal.returns-then-n-w
returns-then-n-w c = sym (none_heavier c.args.n c.args.w c.args.u c.if-n-w.true)

pub nonzero_div-result : goal.nonzero_div-result
nonzero_div-result c =
    let some = one-le-choose c.args.n c.args.w c.if-n-w.false in
    let size = c.binomial.ensures in
    omega arith

pub returns : goal.returns
returns c =
    value_is c.args.n c.args.w c.args.u c.from.result c.binomial.result (omega arith) c.from.ensures c.binomial.ensures
