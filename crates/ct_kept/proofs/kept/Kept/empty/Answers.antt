use Rattle.std.proofs.Common.{◌≡◌, ◌*◌, ◌++◌, ℕ, List, length, replicate, ap, ap₂, ◌∙◌}
use Rattle.std.proofs.lemmas.List.{length-replicate}
use Rattle.ct_rules.specs.Derivation.{LineValue}
use Rattle.ct_slots.specs.Number.{side_size}
use Rattle.ct_kept.proofs.kept.Kept.empty.Goals as goal

all_zeros : (n : ℕ) (xs : List ℕ) → xs ≡ replicate n 0 → length xs ≡ n
all_zeros n xs same = ap length same ∙ length-replicate n 0

pub invariant_of-result : goal.invariant_of-result
invariant_of-result c = all_zeros (2 * side_size) c.in_ok-vec.field-0.items (c.in_ok-vec.ensures.items_if_clones_equal (λ y same. same))

pub returns-clause-bounds : goal.returns-clause-bounds
returns-clause-bounds c = all_zeros (2 * side_size) c.in_ok-zero.field-0 c.in_ok-zero.ensures

pub returns-clause-reasons : goal.returns-clause-reasons
returns-clause-reasons c = all_zeros (2 * side_size) c.in_ok-vec.field-0.items (c.in_ok-vec.ensures.items_if_clones_equal (λ y same. same))

pub returns-clause-lines : goal.returns-clause-lines
returns-clause-lines c = ap₂ (λ (xs ys : List LineValue). xs ++ ys) c.new.ensures.items c.new-2.ensures.items

pub returns-clause-base : goal.returns-clause-base
returns-clause-base c = ap length c.new.ensures.items
