use Rattle.std.proofs.Common.{ℕ, ◌-◌, ◌<◌, [], ◌∷◌, length}
use Rattle.ct_words.specs.Constructions.Shortened.{shortened}
use Rattle.ct_rule_codes.proofs.left_at_place.place_with.Given as goal

abbrev pub invariant-loop-place : goal.invariant-loop-place
invariant-loop-place l =
    (l.place < l.fn.part.n)
    × ((p : ℕ) → p < l.place → length (shortened l.fn.part.n (p ∷ []) (l.fn.digit ∷ []) l.fn.part.words) < l.fn.least)

abbrev pub decreases-loop-place : goal.decreases-loop-place
decreases-loop-place l = l.fn.part.n - l.place
