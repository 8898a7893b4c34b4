use Rattle.std.proofs.Common.{ℕ, ◌<◌, ◌≤◌}
use Rattle.std.specs.Prelude.{slice_index}
use Rattle.ct_words.specs.Word.{distance}
use Rattle.ct_codes.proofs.groups.is_far_in_group.Given as goal

-- the word is far from each later one so far
abbrev pub invariant-loop-other : goal.invariant-loop-other
invariant-loop-other l = (m : ℕ) → l.place < m → m < l.other → l.d ≤ distance 32 (slice_index l.words l.place) (slice_index l.words m)
