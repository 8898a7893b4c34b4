-- How the best bound of a slot changes while rules are asked.
use Rattle.std.specs.Prelude.{ℕ, if◌then◌else◌, List, take, drop, Option, Some}
use Rattle.ct_words.specs.declared.claim.Side.TheVariants.{Lower, Upper}
use Rattle.ct_rule_parts.specs.declared.support.Support.{Support}
use Rattle.ct_rule_parts.specs.declared.support.Support.TheVariants.{Odd, Local}
use Rattle.ct_rule_parts.specs.Parts.{has_weight}
use Rattle.ct_rule_parts.specs.Slot.{Slot, IsNoBetter}
use Rattle.ct_rules.specs.declared.rule.Rule.{Rule}
use Rattle.ct_rules.specs.declared.rule.Rule.TheVariants.{L10, M10, U11, U12, V9, V10}
use Rattle.ct_rules.specs.Listing.{rules_alone}
use Rattle.ct_offers.specs.declared.best.Best.{Best}
use Rattle.ct_offers.specs.Offers.{IsGiven}

-- it is no worse, and still what stands, or what a rule gives that is better
pub record IsPulled (supports : List Support) (bounds : Slot → ℕ) (s : Slot) (old new : Best) : Type 0 where
  pub no_worse : IsNoBetter s.0 old.value new.value
  pub given : IsGiven supports bounds s old.value old.rule → IsGiven supports bounds s new.value new.rule

-- the rules of a slot with neither numbers nor a support that rest on a bound
abbrev pub resting_rules : Slot → List Rule
resting_rules (Lower, e) = drop 2 (rules_alone (Lower, e))
resting_rules (Upper, e) = if has_weight e then take 5 (drop 3 (rules_alone (Upper, e))) else drop 4 (rules_alone (Upper, e))

-- the rule by which a support, at a place, bounds an entry without weight from above: U12 where it may exclude a number of words, else U11
abbrev pub bounding_rule : Option Support → ℕ → Rule
bounding_rule (Some (Odd a m)) place = U12 place
bounding_rule c place = U11 place

-- the rule by which a support, at a place, bounds an entry with weight from above: V10 where its dual gives its local bound, else V9
abbrev pub bounding_rule_of_weight : Option Support → ℕ → Rule
bounding_rule_of_weight (Some (Local a)) place = V10 place
bounding_rule_of_weight c place = V9 place

-- the rule by which a support, at a place, gives to a side of an entry
abbrev pub given_rule : Option Support → Slot → ℕ → Rule
given_rule c (Lower, e) place = if has_weight e then M10 place else L10 place
given_rule c (Upper, e) place = if has_weight e then bounding_rule_of_weight c place else bounding_rule c place
