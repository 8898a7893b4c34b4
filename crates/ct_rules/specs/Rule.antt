-- The rules of the table, a row for each: what it is made of; and by that where it is defined, what it rests on, and the bound that it gives.
use Rattle.std.specs.Prelude.{ℕ, Bool, true, false, if◌then◌else◌, List, length, slice_get, Option, Some, None, codes}
use Rattle.ct_words.specs.declared.entry.Entry.{Entry}
use Rattle.ct_words.specs.declared.claim.Side.{Side}
use Rattle.ct_rule_parts.specs.declared.support.Support.{Support}
use Rattle.ct_rule_parts.specs.Parts.{RuleParts, is_defined, slots_on, within_limit}
use Rattle.ct_rule_parts.specs.Slot.{Slot}
use Rattle.ct_plain_rules.specs.OneWord.{one_word}
use Rattle.ct_plain_rules.specs.OppositeWords.{opposite_words}
use Rattle.ct_plain_rules.specs.Lengthened.{lengthened_below, lengthened_above}
use Rattle.ct_plain_rules.specs.Nearer.{nearer_below, nearer_above}
use Rattle.ct_plain_rules.specs.WithParity.{parity_below, parity_above}
use Rattle.ct_plain_rules.specs.Punctured.{punctured_below, punctured_above}
use Rattle.ct_plain_rules.specs.Shortened.{shortened_below, shortened_above}
use Rattle.ct_plain_rules.specs.Uuv.{uuv}
use Rattle.ct_plain_rules.specs.GivenCode.{given_code}
use Rattle.ct_plain_rules.specs.Juxtaposition.{juxtaposition}
use Rattle.ct_plain_rules.specs.AllWords.{all_words}
use Rattle.ct_plain_rules.specs.FarWords.{far_words}
use Rattle.ct_plain_rules.specs.Plotkin.{plotkin}
use Rattle.ct_plain_rules.specs.SpherePacking.{sphere_packing}
use Rattle.ct_weight_rules.specs.OneWord.{one_word_of_weight}
use Rattle.ct_weight_rules.specs.Disjoint.{disjoint_below, disjoint_above}
use Rattle.ct_weight_rules.specs.Lengthened.{lengthened_by_zero, lengthened_by_one}
use Rattle.ct_weight_rules.specs.JohnsonOne.{johnson_one_below, johnson_one_above}
use Rattle.ct_weight_rules.specs.JohnsonZero.{johnson_zero_below, johnson_zero_above}
use Rattle.ct_weight_rules.specs.Complemented.{complemented_below, complemented_above}
use Rattle.ct_weight_rules.specs.Nearer.{nearer_below_of_weight, nearer_above_of_weight}
use Rattle.ct_weight_rules.specs.FarWords.{far_words_of_weight}
use Rattle.ct_weight_rules.specs.Split.{split}
use Rattle.ct_weight_rules.specs.ColumnPairs.{column_pairs}
use Rattle.ct_weight_rules.specs.WithoutWeight.{without_weight}
use Rattle.ct_weight_rules.specs.Johnson.{johnson_above}
use Rattle.ct_weight_rules.specs.EliasBassalygo.{elias_bassalygo}
use Rattle.ct_weight_rules.specs.GrahamSloane.{graham_sloane}
use Rattle.ct_weight_rules.specs.GivenCode.{given_code_of_weight}
use Rattle.ct_weight_rules.specs.AllWords.{all_words_of_weight}
use Rattle.ct_weight_rules.specs.Delsarte.{dual_above, dual_above_of_weight}
use Rattle.ct_weight_rules.specs.OddSizes.{odd_size_above}
use Rattle.ct_weight_rules.specs.LocalDuals.{local_above}
use Rattle.ct_rules.specs.declared.arguments.Arguments.{Arguments}
use Rattle.ct_rules.specs.declared.arguments.Arguments.TheVariants.{Nothing, Number, Numbers, Place}
use Rattle.ct_rules.specs.declared.rule.Rule.{Rule}
use Rattle.ct_rules.specs.declared.rule.Rule.TheVariants.{L1, L2, L3, L4, L5, L6, L7, L8, L9, L10, L11, M1, M2, M3, M4, M5, M6, M7, M8, M9, M10, U0, U1, U2, U3, U4, U5, U6, U7, U8, U9, U10, U11, U12, V0, V1, V2, V3, V4, V5, V6, V7, V8, V9, V10}

-- what stands after the name of a rule: nothing; a number; two; or the place of a support; each with the rule that others make in its place
pub data Written : Type 0 where
  no_arguments : Written
  one_number : (ℕ → Rule) → ℕ → Written
  two_numbers : (ℕ → ℕ → Rule) → ℕ → ℕ → Written
  one_place : (ℕ → Rule) → ℕ → Written

-- the row of a rule: its name, its arguments, and what it is made of: by itself or with the numbers that are its arguments; for a bound
-- without weight from one with weight; or over the support at a place, for the rules that name one
pub data Row : Type 0 where
  by_itself : List ℕ → RuleParts → Row
  by_numbers : List ℕ → Written → RuleParts → Row
  by_weight : List ℕ → Written → RuleParts → Row
  by_support : List ℕ → (ℕ → Rule) → ℕ → (Option Support → RuleParts) → Row

-- the rows
unfoldable pub row_of : Rule → Row
row_of L1 = by_itself (codes "L1") one_word
row_of L2 = by_itself (codes "L2") opposite_words
row_of L3 = by_itself (codes "L3") lengthened_below
row_of L4 = by_itself (codes "L4") nearer_below
row_of L5 = by_itself (codes "L5") parity_below
row_of L6 = by_itself (codes "L6") punctured_below
row_of L7 = by_itself (codes "L7") shortened_below
row_of L8 = by_itself (codes "L8") uuv
row_of (L9 w) = by_weight (codes "L9") (one_number L9 w) (without_weight w)
row_of (L10 place) = by_support (codes "L10") L10 place given_code
row_of (L11 n d) = by_numbers (codes "L11") (two_numbers L11 n d) (juxtaposition n d)
row_of M1 = by_itself (codes "M1") one_word_of_weight
row_of M2 = by_itself (codes "M2") disjoint_below
row_of M3 = by_itself (codes "M3") lengthened_by_zero
row_of M4 = by_itself (codes "M4") lengthened_by_one
row_of M5 = by_itself (codes "M5") johnson_one_below
row_of M6 = by_itself (codes "M6") johnson_zero_below
row_of M7 = by_itself (codes "M7") complemented_below
row_of M8 = by_itself (codes "M8") nearer_below_of_weight
row_of (M9 r) = by_numbers (codes "M9") (one_number M9 r) (graham_sloane r)
row_of (M10 place) = by_support (codes "M10") M10 place given_code_of_weight
row_of U0 = by_itself (codes "U0") all_words
row_of U1 = by_itself (codes "U1") far_words
row_of U2 = by_itself (codes "U2") plotkin
row_of U3 = by_itself (codes "U3") sphere_packing
row_of U4 = by_itself (codes "U4") parity_above
row_of U5 = by_itself (codes "U5") punctured_above
row_of U6 = by_itself (codes "U6") shortened_above
row_of U7 = by_itself (codes "U7") nearer_above
row_of U8 = by_itself (codes "U8") lengthened_above
row_of U9 = by_weight (codes "U9") no_arguments johnson_above
row_of (U10 w) = by_weight (codes "U10") (one_number U10 w) (elias_bassalygo w)
row_of (U11 place) = by_support (codes "U11") U11 place dual_above
row_of (U12 place) = by_support (codes "U12") U12 place odd_size_above
row_of V0 = by_itself (codes "V0") all_words_of_weight
row_of V1 = by_itself (codes "V1") far_words_of_weight
row_of V2 = by_itself (codes "V2") disjoint_above
row_of V3 = by_itself (codes "V3") complemented_above
row_of V4 = by_itself (codes "V4") johnson_one_above
row_of V5 = by_itself (codes "V5") johnson_zero_above
row_of V6 = by_itself (codes "V6") split
row_of V7 = by_itself (codes "V7") nearer_above_of_weight
row_of V8 = by_itself (codes "V8") column_pairs
row_of (V9 place) = by_support (codes "V9") V9 place dual_above_of_weight
row_of (V10 place) = by_support (codes "V10") V10 place local_above

-- what the rule of a row is made of, over the support that it names
abbrev pub parts_in : Row → Option Support → RuleParts
parts_in (by_itself name parts) c = parts
parts_in (by_numbers name written parts) c = parts
parts_in (by_weight name written parts) c = parts
parts_in (by_support name named place parts) c = parts c

-- what a rule is made of, over the support that it names
abbrev pub parts_of : Rule → Option Support → RuleParts
parts_of r c = parts_in (row_of r) c

-- the name of the rule of a row
abbrev pub name_in : Row → List ℕ
name_in (by_itself name parts) = name
name_in (by_numbers name written parts) = name
name_in (by_weight name written parts) = name
name_in (by_support name named place parts) = name

-- the name of a rule
abbrev pub name_of : Rule → List ℕ
name_of r = name_in (row_of r)

-- what stands after the name of the rule of a row
abbrev pub written_in : Row → Written
written_in (by_itself name parts) = no_arguments
written_in (by_numbers name written parts) = written
written_in (by_weight name written parts) = written
written_in (by_support name named place parts) = one_place named place

-- the arguments that are written
abbrev pub arguments_in : Written → Arguments
arguments_in no_arguments = Nothing
arguments_in (one_number named k) = Number k
arguments_in (two_numbers named k m) = Numbers k m
arguments_in (one_place named place) = Place place

-- the arguments of a rule
abbrev pub arguments_of : Rule → Arguments
arguments_of r = arguments_in (written_in (row_of r))

-- the rule with other arguments, where they are as what is written
abbrev pub argued_in : Rule → Written → Arguments → Rule
argued_in r (one_number named k) (Number other) = named other
argued_in r (two_numbers named k m) (Numbers other next) = named other next
argued_in r (one_place named place) (Place other) = named other
argued_in r written arguments = r

-- a rule with other arguments of the same form, else the rule itself
abbrev pub with_arguments : Rule → Arguments → Rule
with_arguments r arguments = argued_in r (written_in (row_of r)) arguments

-- the rule of a row with arguments that are 0
abbrev pub bare_in : Rule → Written → Rule
bare_in r no_arguments = r
bare_in r (one_number named k) = named 0
bare_in r (two_numbers named k m) = named 0 0
bare_in r (one_place named place) = named 0

-- a rule with arguments that are 0
abbrev pub bare : Rule → Rule
bare r = bare_in r (written_in (row_of r))

-- the place of the support that the rule of a row names, where it names one
abbrev pub place_in : Row → Option ℕ
place_in (by_itself name parts) = None
place_in (by_numbers name written parts) = None
place_in (by_weight name written parts) = None
place_in (by_support name named place parts) = Some place

-- the place of the support that a rule names, where it names one
abbrev pub named_place : Rule → Option ℕ
named_place r = place_in (row_of r)

-- the rule of a row with another place of the support that it names, where it names one
abbrev pub placed_in : Rule → Row → ℕ → Rule
placed_in r (by_itself name parts) place = r
placed_in r (by_numbers name written parts) place = r
placed_in r (by_weight name written parts) place = r
placed_in r (by_support name named other parts) place = named place

-- a rule with another place of the support that it names, where it names one
abbrev pub with_place : Rule → ℕ → Rule
with_place r place = placed_in r (row_of r) place

-- whether the rule of a row has neither numbers nor a support, and rests on entries with weight just where it bounds such
abbrev pub is_alone_in : Row → Bool
is_alone_in (by_itself name parts) = true
is_alone_in (by_numbers name written parts) = false
is_alone_in (by_weight name written parts) = false
is_alone_in (by_support name named place parts) = false

-- whether a rule has neither numbers nor a support, and rests on entries with weight just where it bounds such
abbrev pub is_alone : Rule → Bool
is_alone r = is_alone_in (row_of r)

-- whether the rule of a row leads from entries with weight to those without
abbrev pub is_by_weight_in : Row → Bool
is_by_weight_in (by_itself name parts) = false
is_by_weight_in (by_numbers name written parts) = false
is_by_weight_in (by_weight name written parts) = true
is_by_weight_in (by_support name named place parts) = false

-- whether a rule leads from entries with weight to those without
abbrev pub is_by_weight : Rule → Bool
is_by_weight r = is_by_weight_in (row_of r)

-- the support at a place, where one is named that is there
abbrev pub support_at : List Support → Option ℕ → Option Support
support_at supports None = None
support_at supports (Some place) = slice_get supports place

-- the support that a rule names, where it names one that is there
abbrev pub cited : List Support → Rule → Option Support
cited supports r = support_at supports (named_place r)

-- what a rule is made of over the supports
abbrev pub parts_over : List Support → Rule → RuleParts
parts_over supports r = parts_of r (cited supports r)

-- the side of the bounds that a rule gives, whatever the support that it names
abbrev pub rule_side : Rule → Side
rule_side r = (parts_of r None).side

-- whether a rule is defined at an entry of the table
abbrev pub applies : List Support → Rule → Entry → Bool
applies supports r e = is_defined (parts_over supports r) e

-- what a rule rests on at an entry, in order: bounds of its own side
abbrev pub premises_at : List Support → Rule → Entry → List Slot
premises_at supports r e = slots_on (rule_side r) ((parts_over supports r).rests_on e)

-- what a rule rests on at an entry, none where it is not defined there
abbrev pub premises_of : List Support → Rule → Entry → Option (List Slot)
premises_of supports r e = if applies supports r e then Some (premises_at supports r e) else None

-- the bound that a rule gives at an entry where its premises have these values, none where it is not defined there or gives none
abbrev pub value_of : List Support → Rule → Entry → List ℕ → Option ℕ
value_of supports r e vs =
    if applies supports r e then within_limit (rule_side r) ((parts_over supports r).number e vs) else None

-- how many premises a rule has at an entry, none where it is not defined there
abbrev pub count_of : List Support → Rule → Entry → Option ℕ
count_of supports r e = if applies supports r e then Some (length (premises_at supports r e)) else None

-- the premise at the place j, counted from 0, none where there is none
abbrev pub premise_of : List Support → Rule → Entry → ℕ → Option Slot
premise_of supports r e j = if applies supports r e then slice_get (premises_at supports r e) j else None
