use Rattle.std.proofs.Common.{◌≡◌, Option, Some, None, refl, subst, option_map}
use Rattle.std.specs.Prelude.{slice_get}
use Rattle.ct_words.specs.declared.claim.Claim.{Claim}
use Rattle.ct_rule_parts.specs.Slot.{Slot}
use Rattle.ct_rules.specs.Derivation.{LineValue}
use Rattle.ct_kept.specs.Kept.{IsGroundBound}
use Rattle.ct_table.specs.Table.{reason_at}
use Rattle.ct_laws.proofs.tables.tables_hold_reasons.Goals as goal

-- a line whose claim is known
line_of_claim : (found : Option LineValue) (claim : Claim) → option_map (λ (l : LineValue). l.claim) found ≡ Some claim
    → (l : LineValue) × (found ≡ Some l) × (l.claim ≡ claim)
line_of_claim None claim is = absurd cc
line_of_claim (Some l) claim is = (l, refl, let same : l.claim ≡ claim = cc in same)

pub returns-clause-reasoned : goal.returns-clause-reasoned
returns-clause-reasoned c = λ table s shown entry. line_of_claim (slice_get table.lines (reason_at table s)) _ (shown.reasoned s entry)

pub returns-clause-last : goal.returns-clause-last
returns-clause-last c = λ table i line shown there. shown.last i line there

pub returns-clause-grounded : goal.returns-clause-grounded
returns-clause-grounded c = λ table s shown entry.
    let at = shown.grounded s entry in (
      at.0,
      at.1,
      at.2,
      at.3,
      at.4.no_lines,
      at.4.no_support,
      subst (λ (t : Slot). IsGroundBound t at.1.claim.value) at.3 at.4.best,
    )
