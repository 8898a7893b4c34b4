-- No place comes before the first, and the table is one of zeros.
use Rattle.std.proofs.Common.{◌≤◌, refl, arith}
use Rattle.std.proofs.lemmas.List.Elements.{All-replicate}
use Rattle.ct_words.specs.declared.limits.TheConstants.{MAX_BOUND}
use Rattle.ct_doubly.proofs.rounds.counted_bounds.Goals as goal

pub loop-place-init : goal.loop-place-init
loop-place-init c = record {
  room = refl;
  bounds = λ k h. absurd (omega arith);
  low = All-replicate (λ v. v ≤ MAX_BOUND) 256 0 (omega arith);
}
