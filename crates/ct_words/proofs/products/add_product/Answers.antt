-- A sum below 2^116 and a product of at most 2^110 in size add up to less than 2^127.
use Rattle.std.proofs.Common.{ℤ, ap, ap₂, sym, subst, ◌∙◌, ◌≡◌, ◌≤◌, ◌<◌, ◌+◌, ◌^◌, arith}
use Rattle.std.specs.Prelude.{◌+ℤ◌, ◌*ℤ◌, unsigned_abs}
use Rattle.std.proofs.lemmas.Int.{to_z-of_z, fits_signed_from_abs}
use Rattle.ct_words.proofs.Counting.Alternating.{unsigned_abs-add}
use mir.Val.{SFits, to_z, of_z}
use mir.Syntax.{w64, w128}
use Rattle.ct_words.proofs.products.add_product.Goals as goal

size_of_sum : (a b : ℤ) → unsigned_abs b ≤ 2 ^ 110 → unsigned_abs (a +ℤ b) ≤ unsigned_abs a + 2 ^ 110
size_of_sum a b small = let most = unsigned_abs-add a b in omega arith

sum_fits : (a b : ℤ) → unsigned_abs a < 2 ^ 116 → unsigned_abs b ≤ 2 ^ 110 → SFits w128 (a +ℤ b)
sum_fits a b first second = let most = size_of_sum a b second in fits_signed_from_abs w128 (a +ℤ b) (omega arith)

-- both terms as they are read
terms : (a b : ℤ) → SFits w128 a → SFits w128 b → to_z w128 (of_z w128 a) +ℤ to_z w128 (of_z w128 b) ≡ a +ℤ b
terms a b first second = ap₂ (λ x y. x +ℤ y) (to_z-of_z w128 a first) (to_z-of_z w128 b second)

pub overflow_add-result : goal.overflow_add-result
overflow_add-result c =
    let a = c.args.sum in
    let b = c.product.result in
    let whole : SFits w128 b = record { sfits = c.product.type_inv } in
    subst (λ z. SFits w128 z) (sym (terms a b c.ranges.sum whole)) (sum_fits a b c.requires.sum c.product.ensures.small)

pub returns : goal.returns
returns c =
    let a = c.args.sum in
    let b = c.product.result in
    let whole : SFits w128 b = record { sfits = c.product.type_inv } in
    let small = c.product.ensures.small in
    let is = ap (λ z. to_z w128 (of_z w128 z)) (terms a b c.ranges.sum whole) ∙ to_z-of_z w128 (a +ℤ b) (sum_fits a b c.requires.sum small) in
    let factors = ap₂ (λ m n. m *ℤ n) (to_z-of_z w64 c.args.multiplier c.ranges.multiplier) (to_z-of_z w128 c.args.number c.ranges.number) in
    record {
      value = is ∙ ap (λ z. a +ℤ z) (c.product.ensures.value ∙ factors);
      small = subst (λ z. unsigned_abs z ≤ unsigned_abs a + 2 ^ 110) (sym is) (size_of_sum a b small);
    }
