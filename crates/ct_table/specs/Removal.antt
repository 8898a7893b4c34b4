-- What a table keeps once supports are taken out.
use Rattle.std.specs.Prelude.{◌≡◌, slice_get, option_map}
use Rattle.ct_words.specs.Entry.{IsEntry}
use Rattle.ct_words.specs.declared.claim.Claim.{Claim}
use Rattle.ct_rule_parts.specs.Slot.{Slot}
use Rattle.ct_rules.specs.declared.rule.Rule.{Rule}
use Rattle.ct_rules.specs.Derivation.{LineValue}
use Rattle.ct_rules.specs.Removal.{Places, lowered, RestsOnPlaces}
use Rattle.ct_table.specs.Table.{TableValue, reason_at}

-- the claim and the rule of a line
abbrev pub claim_and_rule : LineValue → Claim × Rule
claim_and_rule l = (l.claim, l.rule)

-- and with its rule as it is over the supports that are left
abbrev pub claim_and_lowered_rule : Places → LineValue → Claim × Rule
claim_and_lowered_rule gone l = (l.claim, lowered gone l.rule)

-- each slot whose reason did not rest on a support of the set keeps the claim and the rule of its reason
abbrev pub KeepsReasons : Places → TableValue → TableValue → Type 0
KeepsReasons gone old new = (s : Slot) → IsEntry s.1 → ¬ (RestsOnPlaces old.lines gone (reason_at old s)) →
    option_map claim_and_rule (slice_get new.lines (reason_at new s))
    ≡ option_map (claim_and_lowered_rule gone) (slice_get old.lines (reason_at old s))
