use Rattle.std.proofs.Common.{◌≡◌, ℕ, List, [], ◌∷◌, Global, refl, sym, ap, subst, ◌∙◌}
use Rattle.std.specs.Prelude.{Vec}
use Rattle.std.specs.Vec.{vec_len}
use Rattle.std.specs.List.{AllZip}
use Rattle.ct_classes.specs.Partition.{word_lists, PartitionValue, IsSoundPartition}
use Rattle.ct_classes.proofs.stated.StatedPartition.copied.Goals as goal

-- clones of numbers are these
same_numbers : (xs ys : List ℕ) → AllZip (λ x y. y ≡ x) xs ys → ys ≡ xs
same_numbers [] [] clones = refl
same_numbers [] (y ∷ ys) clones = absurd clones
same_numbers (x ∷ xs) [] clones = absurd clones
same_numbers (x ∷ xs) (y ∷ ys) (first, rest) = λ i. first i ∷ same_numbers xs ys rest i

-- clones of lists of words are the same lists of words
same_lists : (classes copies : List (Vec ℕ Global)) → AllZip (λ v w. AllZip (λ x y. y ≡ x) v.items w.items × (vec_len w ≡ vec_len v)) classes copies
    → word_lists copies ≡ word_lists classes
same_lists [] [] clones = refl
same_lists [] (copy ∷ copies) clones = absurd clones
same_lists (class ∷ classes) [] clones = absurd clones
same_lists (class ∷ classes) (copy ∷ copies) (first, rest) = λ i. same_numbers class.items copy.items first.0 i ∷ same_lists classes copies rest i

pub from_classes-requires : goal.from_classes-requires
from_classes-requires c =
    let inside = c.self.inside in
    let seen : c.args.self.now ≡ record { entry = inside.entry; between = inside.between; classes = word_lists inside.classes.now } = cc in
    record { partition = rw (same_lists _ _ c.in_ok-classes.ensures.items) (subst IsSoundPartition seen c.requires) }

pub returns : goal.returns
returns c =
    let inside = c.self.inside in
    let seen : c.args.self.now ≡ record { entry = inside.entry; between = inside.between; classes = word_lists inside.classes.now } = cc in
    let of_lists : List (List ℕ) → PartitionValue = λ lists. record { entry = inside.entry; between = inside.between; classes = lists } in
    c.from_classes.ensures.value
    ∙ ap of_lists (same_lists inside.classes.now c.in_ok-classes.classes.items c.in_ok-classes.ensures.items)
    ∙ sym seen
