-- Classes whose words have the length of a partition.
use Rattle.std.proofs.Common.{ℕ, ◌^◌, ◌<◌, List, [], ◌∷◌, ◌++◌}
use Rattle.std.specs.Prelude.{All}
use Rattle.std.proofs.lemmas.List.Elements.{All-nil, All-cons, All-head, All-tail}
use Rattle.ct_classes.specs.Partition.{words_of_classes}

-- what holds of two lists, one after the other, holds of each
All-append_parts : (P : ℕ → Type 0) (xs ys : List ℕ) → All P (xs ++ ys) → All P xs × All P ys
All-append_parts P [] ys each = (All-nil P, each)
All-append_parts P (x ∷ xs) ys each =
    let rest = All-append_parts P xs ys (All-tail P x (xs ++ ys) each) in
    (All-cons P x xs (All-head P x (xs ++ ys) each) rest.0, rest.1)

-- if all words have the length, those of each class have it
pub short_classes : (n : ℕ) (classes : List (List ℕ)) → All (λ x. x < 2 ^ n) (words_of_classes classes) → All (λ words. All (λ x. x < 2 ^ n) words) classes
short_classes n [] short = All-nil (λ words. All (λ x. x < 2 ^ n) words)
short_classes n (words ∷ classes) short =
    let both = All-append_parts (λ x. x < 2 ^ n) words (words_of_classes classes) short in
    All-cons (λ words. All (λ x. x < 2 ^ n) words) words classes both.0 (short_classes n classes both.1)
