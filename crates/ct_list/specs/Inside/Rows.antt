-- The code of a rule, made of codes of what the rule rests on.
use Rattle.std.specs.Prelude.{◌≡◌, ℕ, true, List, length, map, Some}
use Rattle.ct_words.specs.declared.entry.Entry.{Entry}
use Rattle.ct_words.specs.Code.{CodeValue}
use Rattle.ct_rule_parts.specs.Parts.{RuleParts, is_defined}
use Rattle.ct_rule_codes.specs.CodeEntry.{entry_of_code}

-- how many words the codes have
abbrev pub sizes : List CodeValue → List ℕ
sizes codes = map (λ c. length c.words) codes

-- codes of the entries that a rule rests on at an entry where it is defined, in their order
pub record AreParts (p : RuleParts) (e : Entry) (codes : List CodeValue) : Type 0 where
  pub defined : is_defined p e ≡ true
  pub entries : map entry_of_code codes ≡ p.rests_on e

-- a code of the entry with just as many words as the rule says there are where it rests on these codes
pub record IsMadeBy (p : RuleParts) (e : Entry) (codes : List CodeValue) (c : CodeValue) : Type 0 where
  pub entry : entry_of_code c ≡ e
  pub size : p.number e (sizes codes) ≡ Some (length c.words)
