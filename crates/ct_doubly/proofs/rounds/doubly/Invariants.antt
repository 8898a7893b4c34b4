-- The table after so many rounds.
use Rattle.std.proofs.Common.{◌≤◌}
use Rattle.std.specs.List.{All}
use Rattle.ct_words.specs.declared.limits.TheConstants.{MAX_BOUND}
use Rattle.ct_doubly.specs.Inside.Tables.{IsTable}
use Rattle.ct_doubly.proofs.rounds.doubly.Given as goal

abbrev pub invariant-loop-round : goal.invariant-loop-round
invariant-loop-round l = record {
  bounds : IsTable l._round l.parts l.d l.table;
  low : All (λ v. v ≤ MAX_BOUND) l.table;
}
