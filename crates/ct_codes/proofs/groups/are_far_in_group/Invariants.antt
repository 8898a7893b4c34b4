use Rattle.std.proofs.Common.{◌≡◌, ℕ, ◌<◌, ◌≤◌, length}
use Rattle.std.specs.Prelude.{slice_index}
use Rattle.std.specs.List.Sorted.{IsNonDecreasingBy}
use Rattle.ct_words.specs.Word.{distance}
use Rattle.ct_codes.specs.Inside.Groups.{group_digits}
use Rattle.ct_codes.proofs.groups.are_far_in_group.Given as goal

-- each word so far is far from the later ones with its digits
abbrev pub invariant-loop-place : goal.invariant-loop-place
invariant-loop-place l = IsNonDecreasingBy (group_digits l.shift l.width) l.words → (k m : ℕ) → k < l.place → k < m → m < length l.words
    → group_digits l.shift l.width (slice_index l.words k) ≡ group_digits l.shift l.width (slice_index l.words m)
    → l.d ≤ distance 32 (slice_index l.words k) (slice_index l.words m)
