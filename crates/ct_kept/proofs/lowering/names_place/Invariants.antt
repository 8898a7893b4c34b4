use Rattle.std.proofs.Common.{◌≡◌, false, take, All}
use Rattle.ct_rules.specs.Derivation.{LineValue}
use Rattle.ct_rules.specs.Rule.{named_place}
use Rattle.ct_rules.specs.Removal.{names_one, marked}
use Rattle.ct_kept.proofs.lowering.names_place.Given as goal

-- the lines so far do not name it
abbrev pub invariant-loop-line : goal.invariant-loop-line
invariant-loop-line l = All (λ (k : LineValue). names_one (marked l.gone) (named_place k.rule) ≡ false) (take l.line-index l.lines)
