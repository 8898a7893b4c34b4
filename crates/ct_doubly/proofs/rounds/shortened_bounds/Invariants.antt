-- The places before this one have their bounds.
use Rattle.std.proofs.Common.{◌≡◌, ℕ, suc, ◌<◌, ◌≤◌, length, get_or}
use Rattle.std.specs.List.{All}
use Rattle.ct_words.specs.declared.limits.TheConstants.{MAX_BOUND}
use Rattle.ct_doubly.specs.Inside.Tables.{IsBoundAt, IsTable}
use Rattle.ct_doubly.proofs.rounds.shortened_bounds.Given as goal

abbrev pub invariant-loop-place : goal.invariant-loop-place
invariant-loop-place l = record {
  room : length l.next ≡ 256;
  bounds : (k : ℕ) → k < l.place → (s d : ℕ) → IsTable s l.parts d l.table → IsBoundAt (suc s) l.parts d k (get_or l.next k 0);
  low : All (λ v. v ≤ MAX_BOUND) l.next;
}
