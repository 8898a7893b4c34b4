-- All places of a list, and tests of them.
use Rattle.std.proofs.Common.{◌≡◌, ℕ, ◌<◌, ◌^◌, Bool, nat_lt, List, length, get_or, None, All, ap, ap₂, ◌∙◌, arith}
use Rattle.std.proofs.lemmas.List.Elements.{All-from_get_or}
use Rattle.ct_words.proofs.TextLemmas.{length-tabulate, get_or-tabulate}
use Rattle.ct_words.proofs.WordLemmas.{distance_any_length}
use Rattle.ct_words.specs.PairProducts.{all_places}
use Rattle.ct_words.specs.Pairs.{least_pair}
use Rattle.ct_words.proofs.PairLemmas.{least_pair-none}
use Rattle.ct_classes.specs.Partition.{words_of_classes}
use Rattle.ct_partitions.specs.Check.{is_close, need}
use Rattle.ct_partitions.specs.Inside.Rows.{NoneFrom}

-- a place of all places is itself
pub place_is : (total k : ℕ) → k < total → get_or (all_places total) k 0 ≡ k
place_is total k within = get_or-tabulate (λ p. p) total k within

-- where no pair passes, there is no least
pub least_from_none : (test : ℕ → ℕ → Bool) (total : ℕ) → NoneFrom test 0 total total → least_pair test (all_places total) ≡ None
least_from_none test total none =
    let long = length-tabulate (λ p. p) total in
    least_pair-none test (all_places total) (λ k m order within.
    ap₂ test (place_is total k (omega arith)) (place_is total m (omega arith)) ∙ none k m (omega arith) (omega arith) order (omega arith))

-- words that are too close are so whatever the length that they are read at
pub close_any_length : (n d between : ℕ) (classes : List (List ℕ)) → All (λ x. x < 2 ^ n) (words_of_classes classes)
    → All (λ x. x < 2 ^ 32) (words_of_classes classes)
    → (i j : ℕ) → i < length (words_of_classes classes) → j < length (words_of_classes classes)
    → is_close n d between classes i j ≡ is_close 32 d between classes i j
close_any_length n d between classes below fits i j h l =
    ap (λ e. nat_lt e (need d between classes i j))
    (distance_any_length n 32 (get_or (words_of_classes classes) i 0) (get_or (words_of_classes classes) j 0) (below i 0 h) (below j 0 l)
    (fits i 0 h) (fits j 0 l))

-- the places are below their number
pub places_below : (total : ℕ) → All (λ k. k < total) (all_places total)
places_below total =
    All-from_get_or (λ k. k < total) (all_places total) 0 (λ k within.
    let long = length-tabulate (λ p. p) total in
    let at = place_is total k (omega arith) in
    omega arith)
