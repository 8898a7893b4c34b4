-- Lists that have each entry of the table, each slot, and each rule with an entry where it is defined.
use Rattle.std.proofs.Common.{◌≡◌, ℕ, true, List, ◌++◌, length, map, Contains, flat_map}
use Rattle.std.proofs.lemmas.List.Elements.{Contains-append_left, Contains-append_right}
use Rattle.ct_words.proofs.Counting.Words.{Contains-map}
use Rattle.ct_words.specs.declared.entry.Entry.{Entry}
use Rattle.ct_words.specs.declared.claim.Side.TheVariants.{Lower, Upper}
use Rattle.ct_words.specs.Entry.{IsEntry}
use Rattle.ct_words.specs.TableEntries.{table_entries}
use Rattle.ct_words.proofs.InLists.{Contains-flat_map}
use Rattle.ct_words.proofs.ListedEntries.{listed}
use Rattle.ct_rules.specs.declared.rule.Rule.{Rule}
use Rattle.ct_rule_parts.specs.declared.support.Support.{Support}
use Rattle.ct_rules.specs.Rule.{rule_side, parts_over, applies}
use Rattle.ct_rules.proofs.Applied.{defined}
use Rattle.ct_rule_parts.specs.Slot.{Slot}
use Rattle.ct_rules.specs.Inside.AllRules.{rules_at}
use Rattle.ct_rules.proofs.RuleLists.{rules_at-complete}

-- all slots of the table
pub table_slots : List Slot
table_slots = map (λ e. (Lower, e)) table_entries ++ map (λ e. (Upper, e)) table_entries

pub table_slots-complete : (s : Slot) → IsEntry s.1 → Contains table_slots s
unfolding table_slots
table_slots-complete (Lower, e) entry =
    Contains-append_left (map (λ e. (Lower, e)) table_entries) (map (λ e. (Upper, e)) table_entries) (Lower, e)
    (Contains-map (λ f. (Lower, f)) table_entries e (listed e entry))
table_slots-complete (Upper, e) entry =
    Contains-append_right (map (λ e. (Lower, e)) table_entries) (map (λ e. (Upper, e)) table_entries) (Upper, e)
    (Contains-map (λ f. (Upper, f)) table_entries e (listed e entry))

-- a rule at an entry
abbrev pub Instance : Type 0
Instance = Rule × Entry

-- all rules over so many supports at the slots where they can be defined
pub table_instances : ℕ → List Instance
table_instances count = flat_map (λ s. map (λ r. (r, s.1)) (rules_at count s)) table_slots

pub table_instances-complete : (supports : List Support) (r : Rule) (e : Entry) → applies supports r e ≡ true
    → Contains (table_instances (length supports)) (r, e)
unfolding table_instances
table_instances-complete supports r e h =
    Contains-flat_map (λ s. map (λ q. (q, s.1)) (rules_at (length supports) s)) table_slots (rule_side r, e) (r, e)
    (table_slots-complete (rule_side r, e) (defined (parts_over supports r) e h).entry)
    (Contains-map (λ q. (q, e)) (rules_at (length supports) (rule_side r, e)) r (rules_at-complete supports r e h))
