-- The best bound of a slot among those of the rules that rest on nothing.
use Rattle.std.specs.Prelude.{◌≡◌, ℕ, ◌≤◌, if◌then◌else◌, List, [], ◌∷◌, length, slice_get, Some}
use Rattle.ct_words.specs.declared.claim.Side.TheVariants.{Lower, Upper}
use Rattle.ct_sum_classes.specs.declared.largest_class.LargestClass.{LargestClass}
use Rattle.ct_sum_classes.specs.SumClass.{sum_class, largest_class}
use Rattle.ct_rule_parts.specs.Parts.{has_weight}
use Rattle.ct_rule_parts.specs.Slot.{Slot, slot_of, IsNoBetter}
use Rattle.ct_rules.specs.declared.rule.Rule.{Rule}
use Rattle.ct_rules.specs.declared.rule.Rule.TheVariants.{L1, L2, M1, M2, U0, U1, U2, U3, V0, V1, V2, V8}
use Rattle.ct_rules.specs.Derivation.{LineValue}
use Rattle.ct_rules.specs.Rule.{rule_side, value_of}
use Rattle.ct_kept.specs.Kept.{RestsOnNothing, IsGroundBound}

-- the largest sum class of a length and a weight
abbrev pub class_of : ℕ → ℕ → LargestClass
class_of n w = record { residue = largest_class n w; size = length (sum_class n w (largest_class n w)) }

-- those of each weight up to the length n
abbrev pub AreLargest : ℕ → List LargestClass → Type 0
AreLargest n classes = (w : ℕ) → w ≤ n → slice_get classes w ≡ Some (class_of n w)

-- a rule that rests on nothing gives the bound of a slot
pub record GivesGround (s : Slot) (r : Rule) (v : ℕ) : Type 0 where
  pub side : rule_side r ≡ s.0
  pub nothing : RestsOnNothing r s.1
  pub value : value_of [] r s.1 [] ≡ Some v

-- a rule gives from nothing no better bound of a slot
abbrev pub IsGroundWithin : Slot → ℕ → Rule → Type 0
IsGroundWithin s v r = (u : ℕ) → value_of [] r s.1 [] ≡ Some u → IsNoBetter s.0 u v

-- the rule that rests on nothing and gives a bound of a slot at each entry
abbrev pub first_ground_rule : Slot → Rule
first_ground_rule (Lower, e) = if has_weight e then M1 else L1
first_ground_rule (Upper, e) = if has_weight e then V0 else U0

-- the others that rest on nothing, but sum classes
abbrev pub other_ground_rules : Slot → List Rule
other_ground_rules (Lower, e) = if has_weight e then M2 ∷ [] else L2 ∷ []
other_ground_rules (Upper, e) = if has_weight e then V1 ∷ V2 ∷ V8 ∷ [] else U1 ∷ U2 ∷ U3 ∷ []

-- the line of a slot by the best of them
pub record IsGroundLine (s : Slot) (line : LineValue) : Type 0 where
  pub slot : slot_of line.claim ≡ s
  pub given : GivesGround s line.rule line.claim.value
  pub no_lines : line.from ≡ []
  pub best : IsGroundBound s line.claim.value
