-- The places before this one have their bounds.
use Rattle.std.proofs.Common.{◌≡◌, ℕ, ◌<◌, ◌≤◌, length, get_or}
use Rattle.std.specs.List.{All}
use Rattle.ct_words.specs.declared.limits.TheConstants.{MAX_BOUND}
use Rattle.ct_doubly.specs.Inside.Tables.{IsBoundAt}
use Rattle.ct_doubly.proofs.rounds.counted_bounds.Given as goal

abbrev pub invariant-loop-place : goal.invariant-loop-place
invariant-loop-place l = record {
  room : length l.table ≡ 256;
  bounds : (k : ℕ) → k < l.place → IsBoundAt 0 l.parts l.d k (get_or l.table k 0);
  low : All (λ v. v ≤ MAX_BOUND) l.table;
}
