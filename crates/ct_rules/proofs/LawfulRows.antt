-- The rows of the rules: each is lawful, has one side, and a rule that names a support needs one.
use Rattle.std.proofs.Common.{◌≡◌, ℕ, List, [], ◌∷◌, ◌++◌, All, Contains, refl, sym, ap, subst, ◌∙◌, arith, inl, inr, ◌⊎◌}
use Rattle.std.specs.Prelude.{Bool, true, false, ◌&&◌, ◌||◌, ◌==◌, ◌%◌, not, cond, nat_lt, is_some, if◌then◌else◌, Option, Some, None}
use Rattle.std.specs.List.{list_all}
use Rattle.ct_rule_parts.specs.Parts.{has_weight, half_up}
use Rattle.ct_rule_parts.proofs.PlainEntries.{one_item}
use Rattle.ct_plain_rules.specs.Neighbours.{half_as_long}
use Rattle.std.proofs.lemmas.Bool.{and_parts, false≢true}
use Rattle.std.proofs.lemmas.List.Elements.{All-nil, All-cons, All-contains, Contains-append_cases}
use Rattle.std.proofs.lemmas.Option.{none-some, same_Some}
use Rattle.ct_words.specs.declared.claim.Side.{Side}
use Rattle.ct_words.specs.declared.claim.Side.TheVariants.{Lower, Upper}
use Rattle.ct_words.specs.declared.entry.Entry.{Entry}
use Rattle.ct_words.specs.Entry.{unrestricted, constant_weight}
use Rattle.ct_rule_parts.specs.declared.support.Support.{Support}
use Rattle.ct_rule_parts.specs.declared.support.Support.TheVariants.{Nothing}
use Rattle.ct_rules.specs.declared.rule.TheConstants.{LOWER_RULES, UPPER_RULES, LOWER_WEIGHT_RULES, UPPER_WEIGHT_RULES}
use Rattle.ct_rules.specs.Listing.{rules_alone}
use Rattle.ct_rules.specs.Inside.AllRules.{alone_on}
use Rattle.ct_rule_parts.proofs.Lawful.{IsLawful}
use Rattle.ct_plain_rules.proofs.LawfulOneWord.{one_word-lawful}
use Rattle.ct_plain_rules.proofs.LawfulOppositeWords.{opposite_words-lawful}
use Rattle.ct_plain_rules.proofs.LawfulLengthened.{lengthened_below-lawful, lengthened_above-lawful}
use Rattle.ct_plain_rules.proofs.LawfulNearer.{nearer_below-lawful, nearer_above-lawful}
use Rattle.ct_plain_rules.proofs.LawfulWithParity.{parity_below-lawful, parity_above-lawful}
use Rattle.ct_plain_rules.proofs.LawfulPunctured.{punctured_below-lawful, punctured_above-lawful}
use Rattle.ct_plain_rules.proofs.LawfulShortened.{shortened_below-lawful, shortened_above-lawful}
use Rattle.ct_plain_rules.proofs.LawfulUuv.{uuv-lawful}
use Rattle.ct_plain_rules.proofs.LawfulGivenCode.{given_code-lawful}
use Rattle.ct_plain_rules.proofs.LawfulJuxtaposition.{juxtaposition-lawful}
use Rattle.ct_plain_rules.proofs.LawfulAllWords.{all_words-lawful}
use Rattle.ct_plain_rules.proofs.LawfulFarWords.{far_words-lawful}
use Rattle.ct_plain_rules.proofs.LawfulPlotkin.{plotkin-lawful}
use Rattle.ct_plain_rules.proofs.LawfulSpherePacking.{sphere_packing-lawful}
use Rattle.ct_weight_rules.proofs.LawfulOneWord.{one_word_of_weight-lawful}
use Rattle.ct_weight_rules.proofs.LawfulDisjoint.{disjoint_below-lawful, disjoint_above-lawful}
use Rattle.ct_weight_rules.proofs.LawfulLengthened.{lengthened_by_zero-lawful, lengthened_by_one-lawful}
use Rattle.ct_weight_rules.proofs.LawfulJohnsonOne.{johnson_one_below-lawful, johnson_one_above-lawful}
use Rattle.ct_weight_rules.proofs.LawfulJohnsonZero.{johnson_zero_below-lawful, johnson_zero_above-lawful}
use Rattle.ct_weight_rules.proofs.LawfulComplemented.{complemented_below-lawful, complemented_above-lawful}
use Rattle.ct_weight_rules.proofs.LawfulNearer.{nearer_below_of_weight-lawful, nearer_above_of_weight-lawful}
use Rattle.ct_weight_rules.proofs.LawfulFarWords.{far_words_of_weight-lawful}
use Rattle.ct_weight_rules.proofs.LawfulSplit.{split-lawful}
use Rattle.ct_weight_rules.proofs.LawfulColumnPairs.{column_pairs-lawful}
use Rattle.ct_weight_rules.proofs.LawfulWithoutWeight.{without_weight-lawful}
use Rattle.ct_weight_rules.proofs.LawfulJohnson.{johnson_above-lawful}
use Rattle.ct_weight_rules.proofs.LawfulEliasBassalygo.{elias_bassalygo-lawful}
use Rattle.ct_weight_rules.proofs.LawfulGrahamSloane.{graham_sloane-lawful}
use Rattle.ct_weight_rules.proofs.LawfulGivenCode.{given_code_of_weight-lawful}
use Rattle.ct_weight_rules.proofs.LawfulAllWords.{all_words_of_weight-lawful}
use Rattle.ct_weight_rules.proofs.LawfulDelsarte.{dual_above-lawful, dual_above_of_weight-lawful}
use Rattle.ct_weight_rules.proofs.LawfulOddSizes.{odd_size_above-lawful}
use Rattle.ct_weight_rules.proofs.LawfulLocalDuals.{local_above-lawful}
use Rattle.ct_rules.specs.declared.rule.Rule.{Rule}
use Rattle.ct_rules.specs.declared.rule.Rule.TheVariants.{L1, L2, L3, L4, L5, L6, L7, L8, L9, L10, L11, M1, M2, M3, M4, M5, M6, M7, M8, M9, M10, U0, U1, U2, U3, U4, U5, U6, U7, U8, U9, U10, U11, U12, V0, V1, V2, V3, V4, V5, V6, V7, V8, V9, V10}
use Rattle.ct_rules.specs.Rule.{Row, by_itself, by_numbers, by_weight, by_support, row_of, parts_in, parts_of, parts_over, named_place, with_place, is_alone_in, is_alone, is_by_weight, cited, rule_side}

-- what each rule is made of is lawful
pub lawful : (r : Rule) (c : Option Support) → IsLawful c (parts_of r c)
unfolding row_of
lawful L1 c = one_word-lawful c
lawful L2 c = opposite_words-lawful c
lawful L3 c = lengthened_below-lawful c
lawful L4 c = nearer_below-lawful c
lawful L5 c = parity_below-lawful c
lawful L6 c = punctured_below-lawful c
lawful L7 c = shortened_below-lawful c
lawful L8 c = uuv-lawful c
lawful (L9 w) c = without_weight-lawful w c
lawful (L10 place) c = given_code-lawful c
lawful (L11 n d) c = juxtaposition-lawful n d c
lawful M1 c = one_word_of_weight-lawful c
lawful M2 c = disjoint_below-lawful c
lawful M3 c = lengthened_by_zero-lawful c
lawful M4 c = lengthened_by_one-lawful c
lawful M5 c = johnson_one_below-lawful c
lawful M6 c = johnson_zero_below-lawful c
lawful M7 c = complemented_below-lawful c
lawful M8 c = nearer_below_of_weight-lawful c
lawful (M9 k) c = graham_sloane-lawful k c
lawful (M10 place) c = given_code_of_weight-lawful c
lawful U0 c = all_words-lawful c
lawful U1 c = far_words-lawful c
lawful U2 c = plotkin-lawful c
lawful U3 c = sphere_packing-lawful c
lawful U4 c = parity_above-lawful c
lawful U5 c = punctured_above-lawful c
lawful U6 c = shortened_above-lawful c
lawful U7 c = nearer_above-lawful c
lawful U8 c = lengthened_above-lawful c
lawful U9 c = johnson_above-lawful c
lawful (U10 w) c = elias_bassalygo-lawful w c
lawful (U11 place) c = dual_above-lawful c
lawful (U12 place) c = odd_size_above-lawful c
lawful V0 c = all_words_of_weight-lawful c
lawful V1 c = far_words_of_weight-lawful c
lawful V2 c = disjoint_above-lawful c
lawful V3 c = complemented_above-lawful c
lawful V4 c = johnson_one_above-lawful c
lawful V5 c = johnson_zero_above-lawful c
lawful V6 c = split-lawful c
lawful V7 c = nearer_above_of_weight-lawful c
lawful V8 c = column_pairs-lawful c
lawful (V9 place) c = dual_above_of_weight-lawful c
lawful (V10 place) c = local_above-lawful c

-- a rule has one side, whatever the support that it names
pub side_is : (r : Rule) (c : Option Support) → (parts_of r c).side ≡ rule_side r
unfolding row_of
side_is (L10 place) c = refl
side_is (M10 place) c = refl
side_is (U11 place) c = refl
side_is (U12 place) c = refl
side_is (V9 place) c = refl
side_is (V10 place) c = refl
side_is r c = refl

-- what fails with what precedes it fails
fails : (b : Bool) → (b && false) ≡ false
fails true = refl
fails false = refl

-- a rule that names a support is not defined without one
pub needs_support : (r : Rule) (place : ℕ) (e : Entry) → named_place r ≡ Some place
    → (parts_of r None).condition e ≡ false
unfolding row_of
needs_support (L10 place) other e names = fails (not (has_weight e))
needs_support (M10 place) other e names = fails (has_weight e)
needs_support (U11 place) other e names = fails (not (has_weight e))
needs_support (U12 place) other e names = fails (not (has_weight e))
needs_support (V9 place) other e names = fails (has_weight e)
needs_support (V10 place) other e names = fails (has_weight e)
needs_support r place e names = absurd (none-some place names)

-- nor over one that gives nothing
pub needs_something : (r : Rule) (place : ℕ) (e : Entry) → named_place r ≡ Some place
    → (parts_of r (Some Nothing)).condition e ≡ false
unfolding row_of
needs_something (L10 place) other e names = fails (not (has_weight e))
needs_something (M10 place) other e names = fails (has_weight e)
needs_something (U11 place) other e names = fails (not (has_weight e))
needs_something (U12 place) other e names = fails (not (has_weight e))
needs_something (V9 place) other e names = fails (has_weight e)
needs_something (V10 place) other e names = fails (has_weight e)
needs_something r place e names = absurd (none-some place names)

-- a rule that names a support rests on nothing, but for three
pub supported-rests : (r : Rule) (place : ℕ) (c : Option Support) (e : Entry) → named_place r ≡ Some place
    → ((parts_of r c).rests_on e ≡ []) ⊎ ((r ≡ U11 place) ⊎ ((r ≡ U12 place) ⊎ (r ≡ V10 place)))
unfolding row_of
supported-rests (L10 place) other c e names = inl refl
supported-rests (M10 place) other c e names = inl refl
supported-rests (U11 place) other c e names = inr (inl (ap U11 (same_Some place other names)))
supported-rests (U12 place) other c e names = inr (inr (inl (ap U12 (same_Some place other names))))
supported-rests (V9 place) other c e names = inl refl
supported-rests (V10 place) other c e names = inr (inr (inr (ap V10 (same_Some place other names))))
supported-rests r place c e names = absurd (none-some place names)

-- a rule with another place names that place, and is made of the same
pub named_place-placed : (r : Rule) (place other : ℕ) → named_place r ≡ Some place → named_place (with_place r other) ≡ Some other
unfolding row_of
named_place-placed (L10 place) was other names = refl
named_place-placed (M10 place) was other names = refl
named_place-placed (U11 place) was other names = refl
named_place-placed (U12 place) was other names = refl
named_place-placed (V9 place) was other names = refl
named_place-placed (V10 place) was other names = refl
named_place-placed r was other names = absurd (none-some was names)

pub parts_of-placed : (r : Rule) (other : ℕ) (c : Option Support) → parts_of (with_place r other) c ≡ parts_of r c
unfolding row_of
parts_of-placed (L10 place) other c = refl
parts_of-placed (M10 place) other c = refl
parts_of-placed (U11 place) other c = refl
parts_of-placed (U12 place) other c = refl
parts_of-placed (V9 place) other c = refl
parts_of-placed (V10 place) other c = refl
parts_of-placed r other c = refl

pub placed_again : (r : Rule) (other place : ℕ) → named_place r ≡ Some place → with_place (with_place r other) place ≡ r
unfolding row_of
placed_again (L10 place) other was names = ap L10 (sym (same_Some place was names))
placed_again (M10 place) other was names = ap M10 (sym (same_Some place was names))
placed_again (U11 place) other was names = ap U11 (sym (same_Some place was names))
placed_again (U12 place) other was names = ap U12 (sym (same_Some place was names))
placed_again (V9 place) other was names = ap V9 (sym (same_Some place was names))
placed_again (V10 place) other was names = ap V10 (sym (same_Some place was names))
placed_again r other was names = absurd (none-some was names)

-- the rules with neither numbers nor a support that give bounds from a side
pub alone_listed : (r : Rule) → is_alone r ≡ true → Contains (alone_on (rule_side r)) r
unfolding row_of
alone_listed L1 alone = (0, omega arith, refl)
alone_listed L2 alone = (1, omega arith, refl)
alone_listed L3 alone = (2, omega arith, refl)
alone_listed L4 alone = (3, omega arith, refl)
alone_listed L5 alone = (4, omega arith, refl)
alone_listed L6 alone = (5, omega arith, refl)
alone_listed L7 alone = (6, omega arith, refl)
alone_listed L8 alone = (7, omega arith, refl)
alone_listed M1 alone = (8, omega arith, refl)
alone_listed M2 alone = (9, omega arith, refl)
alone_listed M3 alone = (10, omega arith, refl)
alone_listed M4 alone = (11, omega arith, refl)
alone_listed M5 alone = (12, omega arith, refl)
alone_listed M6 alone = (13, omega arith, refl)
alone_listed M7 alone = (14, omega arith, refl)
alone_listed M8 alone = (15, omega arith, refl)
alone_listed U0 alone = (0, omega arith, refl)
alone_listed U1 alone = (1, omega arith, refl)
alone_listed U2 alone = (2, omega arith, refl)
alone_listed U3 alone = (3, omega arith, refl)
alone_listed U4 alone = (4, omega arith, refl)
alone_listed U5 alone = (5, omega arith, refl)
alone_listed U6 alone = (6, omega arith, refl)
alone_listed U7 alone = (7, omega arith, refl)
alone_listed U8 alone = (8, omega arith, refl)
alone_listed V0 alone = (9, omega arith, refl)
alone_listed V1 alone = (10, omega arith, refl)
alone_listed V2 alone = (11, omega arith, refl)
alone_listed V3 alone = (12, omega arith, refl)
alone_listed V4 alone = (13, omega arith, refl)
alone_listed V5 alone = (14, omega arith, refl)
alone_listed V6 alone = (15, omega arith, refl)
alone_listed V7 alone = (16, omega arith, refl)
alone_listed V8 alone = (17, omega arith, refl)
alone_listed r alone = absurd (false≢true alone)

-- whether two sides are one
abbrev same_side : Side → Side → Bool
same_side Lower Lower = true
same_side Upper Upper = true
same_side side other = false

same_side-is : (side other : Side) → same_side side other ≡ true → side ≡ other
same_side-is Lower Lower h = refl
same_side-is Upper Upper h = refl
same_side-is Lower Upper h = absurd (false≢true h)
same_side-is Upper Lower h = absurd (false≢true h)

-- the rules of these lists have neither numbers nor a support, and one side
abbrev pub IsAloneOn : Side → Rule → Type 0
IsAloneOn side r = (is_alone r ≡ true) × (rule_side r ≡ side)

abbrev passes_alone : Side → Rule → Bool
passes_alone side r = is_alone r && same_side (rule_side r) side

all_alone : (side : Side) (rules : List Rule) → list_all (passes_alone side) rules ≡ true → All (IsAloneOn side) rules
all_alone side [] h = All-nil (IsAloneOn side)
all_alone side (r ∷ rules) h =
    let parts = and_parts (passes_alone side r) (list_all (passes_alone side) rules) h in
    let own = and_parts (is_alone r) (same_side (rule_side r) side) parts.0 in
    All-cons (IsAloneOn side) r rules (own.0, same_side-is (rule_side r) side own.1) (all_alone side rules parts.1)

pub lower_alone : All (IsAloneOn Lower) LOWER_RULES
unfolding row_of
lower_alone = all_alone Lower LOWER_RULES refl

pub lower_weight_alone : All (IsAloneOn Lower) LOWER_WEIGHT_RULES
unfolding row_of
lower_weight_alone = all_alone Lower LOWER_WEIGHT_RULES refl

pub upper_alone : All (IsAloneOn Upper) UPPER_RULES
unfolding row_of
upper_alone = all_alone Upper UPPER_RULES refl

pub upper_weight_alone : All (IsAloneOn Upper) UPPER_WEIGHT_RULES
unfolding row_of
upper_weight_alone = all_alone Upper UPPER_WEIGHT_RULES refl

-- those of one list are not defined at entries with a weight, those of the other at none without
none_defined : (e : Entry) (rules : List Rule) → list_all (λ r. not ((parts_of r None).condition e)) rules ≡ true
    → All (λ r. (parts_of r None).condition e ≡ false) rules
none_defined e [] h = All-nil (λ r. (parts_of r None).condition e ≡ false)
none_defined e (r ∷ rules) h =
    let parts = and_parts (not ((parts_of r None).condition e)) (list_all (λ r. not ((parts_of r None).condition e)) rules) h in
    All-cons (λ r. (parts_of r None).condition e ≡ false) r rules (is_false ((parts_of r None).condition e) parts.0)
    (none_defined e rules parts.1)
  where
    is_false : (b : Bool) → not b ≡ true → b ≡ false
    is_false true h = absurd (false≢true h)
    is_false false h = refl

lower_of_weight : (n d w : ℕ) → All (λ r. (parts_of r None).condition (constant_weight n d w) ≡ false) LOWER_RULES
unfolding row_of
lower_of_weight n d w = none_defined (constant_weight n d w) LOWER_RULES refl

upper_of_weight : (n d w : ℕ) → All (λ r. (parts_of r None).condition (constant_weight n d w) ≡ false) UPPER_RULES
unfolding row_of
upper_of_weight n d w = none_defined (constant_weight n d w) UPPER_RULES refl

lower_of_none : (n d : ℕ) → All (λ r. (parts_of r None).condition (unrestricted n d) ≡ false) LOWER_WEIGHT_RULES
unfolding row_of
lower_of_none n d = none_defined (unrestricted n d) LOWER_WEIGHT_RULES refl

upper_of_none : (n d : ℕ) → All (λ r. (parts_of r None).condition (unrestricted n d) ≡ false) UPPER_WEIGHT_RULES
unfolding row_of
upper_of_none n d = none_defined (unrestricted n d) UPPER_WEIGHT_RULES refl

-- a rule of two lists, not defined where those of one of them are not, is one of the other
among_first : (e : Entry) (first second : List Rule) (r : Rule) → Contains (first ++ second) r
    → All (λ q. (parts_of q None).condition e ≡ false) second → (parts_of r None).condition e ≡ true → Contains first r
among_first e first second r among none here = elim (Contains-append_cases first second r among) [
  | inl there ↦ there
  | inr there ↦
      absurd (false≢true (sym (All-contains (λ q. (parts_of q None).condition e ≡ false) second r none there) ∙ here))
]

among_second : (e : Entry) (first second : List Rule) (r : Rule) → Contains (first ++ second) r
    → All (λ q. (parts_of q None).condition e ≡ false) first → (parts_of r None).condition e ≡ true → Contains second r
among_second e first second r among none here = elim (Contains-append_cases first second r among) [
  | inl there ↦
      absurd (false≢true (sym (All-contains (λ q. (parts_of q None).condition e ≡ false) first r none there) ∙ here))
  | inr there ↦ there
]

-- a rule alone stands in the list of each slot at which it is defined
pub alone_at : (r : Rule) (n d : ℕ) (w : Option ℕ) → is_alone r ≡ true → (parts_of r None).condition (record { n = n; d = d; w = w }) ≡ true
    → Contains (rules_alone (rule_side r, record { n = n; d = d; w = w })) r
alone_at r n d w alone here = go (rule_side r) w (alone_listed r alone) here
  where
    go : (side : Side) (v : Option ℕ) → Contains (alone_on side) r → (parts_of r None).condition (record { n = n; d = d; w = v }) ≡ true
        → Contains (rules_alone (side, record { n = n; d = d; w = v })) r
    go Lower None among here = among_first (unrestricted n d) LOWER_RULES LOWER_WEIGHT_RULES r among (lower_of_none n d) here
    go Lower (Some k) among here = among_second (constant_weight n d k) LOWER_RULES LOWER_WEIGHT_RULES r among (lower_of_weight n d k) here
    go Upper None among here = among_first (unrestricted n d) UPPER_RULES UPPER_WEIGHT_RULES r among (upper_of_none n d) here
    go Upper (Some k) among here = among_second (constant_weight n d k) UPPER_RULES UPPER_WEIGHT_RULES r among (upper_of_weight n d k) here

-- a rule alone is made of the same whatever the supports
alone_parts : (row : Row) (c d : Option Support) → is_alone_in row ≡ true → parts_in row c ≡ parts_in row d
alone_parts (by_itself name parts) c d alone = refl
alone_parts (by_numbers name written parts) c d alone = absurd (false≢true alone)
alone_parts (by_weight name written parts) c d alone = absurd (false≢true alone)
alone_parts (by_support name named place parts) c d alone = absurd (false≢true alone)

pub alone-parts : (r : Rule) (supports : List Support) → is_alone r ≡ true → parts_over supports r ≡ parts_of r None
alone-parts r supports alone = alone_parts (row_of r) (cited supports r) None alone

-- a rule that names no support and is not alone lays words side by side, takes a sum class, or leads from entries with weight to those without
pub not_alone : (r : Rule) → named_place r ≡ None → is_alone r ≡ false
    → ((m : ℕ) × (c : ℕ) × (r ≡ L11 m c)) ⊎ (((k : ℕ) × (r ≡ M9 k)) ⊎ (is_by_weight r ≡ true))
unfolding row_of
not_alone (L11 m c) names alone = inl (m, c, refl)
not_alone (M9 k) names alone = inr (inl (k, refl))
not_alone (L9 w) names alone = inr (inr refl)
not_alone U9 names alone = inr (inr refl)
not_alone (U10 w) names alone = inr (inr refl)
not_alone (L10 place) names alone = absurd (none-some place (sym names))
not_alone (M10 place) names alone = absurd (none-some place (sym names))
not_alone (U11 place) names alone = absurd (none-some place (sym names))
not_alone (U12 place) names alone = absurd (none-some place (sym names))
not_alone (V9 place) names alone = absurd (none-some place (sym names))
not_alone (V10 place) names alone = absurd (none-some place (sym names))
not_alone r names alone = absurd (false≢true (sym alone))

-- where a rule alone is defined, what it rests on has a weight just where the entry has one
same_kind : Bool → Bool → Bool
same_kind true true = true
same_kind false false = true
same_kind one other = false

rests_on_kind : (r : Rule) (n d : ℕ) (w : Option ℕ) → is_alone r ≡ true
    → (list_all (λ f. same_kind (has_weight f) (is_some w)) ((parts_of r None).rests_on (record { n = n; d = d; w = w }))
    || not ((parts_of r None).condition (record { n = n; d = d; w = w }))) ≡ true
unfolding row_of same_kind
rests_on_kind L8 n d None alone = plain_parts (nat_lt d 5) n d
  where
    plain_parts : (b : Bool) (n d : ℕ)
        → (list_all (λ f. same_kind (has_weight f) false) (cond b (half_as_long (unrestricted n d) d ∷ [])
        (half_as_long (unrestricted n d) (half_up d) ∷ half_as_long (unrestricted n d) d ∷ [])) || not (true && n % 2 == 0)) ≡ true
    plain_parts true n d = refl
    plain_parts false n d = refl
rests_on_kind L8 n d (Some w) alone = weighted_parts (nat_lt d 5) n d w
  where
    weighted_parts : (b : Bool) (n d w : ℕ)
        → (list_all (λ f. same_kind (has_weight f) true) (cond b (half_as_long (constant_weight n d w) d ∷ [])
        (half_as_long (constant_weight n d w) (half_up d) ∷ half_as_long (constant_weight n d w) d ∷ [])) || not (false && n % 2 == 0)) ≡ true
    weighted_parts true n d w = refl
    weighted_parts false n d w = refl
rests_on_kind (L9 v) n d w alone = absurd (false≢true alone)
rests_on_kind (L10 place) n d w alone = absurd (false≢true alone)
rests_on_kind (L11 m c) n d w alone = absurd (false≢true alone)
rests_on_kind (M9 k) n d w alone = absurd (false≢true alone)
rests_on_kind (M10 place) n d w alone = absurd (false≢true alone)
rests_on_kind (U11 place) n d w alone = absurd (false≢true alone)
rests_on_kind (U12 place) n d w alone = absurd (false≢true alone)
rests_on_kind (V9 place) n d w alone = absurd (false≢true alone)
rests_on_kind (V10 place) n d w alone = absurd (false≢true alone)
rests_on_kind U9 n d w alone = absurd (false≢true alone)
rests_on_kind (U10 v) n d w alone = absurd (false≢true alone)
rests_on_kind r n d None alone = refl
rests_on_kind r n d (Some w) alone = refl

same_kind-is : (one other : Bool) → same_kind one other ≡ true → one ≡ other
unfolding same_kind
same_kind-is true true h = refl
same_kind-is false false h = refl
same_kind-is true false h = absurd (false≢true h)
same_kind-is false true h = absurd (false≢true h)

-- what passes a test or fails another, and doesn't fail that one
first_holds : (a b : Bool) → (a || not b) ≡ true → b ≡ true → a ≡ true
first_holds true b h k = refl
first_holds false true h k = absurd (false≢true h)
first_holds false false h k = absurd (false≢true k)

all_of_kind : (k : Bool) (es : List Entry) (f : Entry) → list_all (λ g. same_kind (has_weight g) k) es ≡ true → Contains es f
    → has_weight f ≡ k
all_of_kind k [] f h among = absurd (omega arith)
all_of_kind k (e ∷ es) f h among = elim (Contains-append_cases (e ∷ []) es f among) [
  | inl here ↦ same_kind-is (has_weight f) k (one_item (λ g. same_kind (has_weight g) k ≡ true) e f (and_parts _ _ h).0 here)
  | inr later ↦ all_of_kind k es f (and_parts _ _ h).1 later
]

pub alone_kind : (r : Rule) (e f : Entry) → is_alone r ≡ true → (parts_of r None).condition e ≡ true
    → Contains ((parts_of r None).rests_on e) f → has_weight f ≡ has_weight e
alone_kind r e f alone here rests =
    all_of_kind (has_weight e) ((parts_of r None).rests_on e) f
    (first_holds _ ((parts_of r None).condition e) (rests_on_kind r e.n e.d e.w alone) here) rests

-- the lists of a side go by whether an entry has a weight
alone_like : (side : Side) (e f : Entry) → has_weight f ≡ has_weight e → rules_alone (side, e) ≡ rules_alone (side, f)
alone_like Lower e f same = λ i. if sym same i then LOWER_WEIGHT_RULES else LOWER_RULES
alone_like Upper e f same = λ i. if sym same i then UPPER_WEIGHT_RULES else UPPER_RULES

-- so a rule alone that rests on an entry stands in the list of that
pub alone_at_rested : (r : Rule) (e f : Entry) → is_alone r ≡ true → (parts_of r None).condition e ≡ true
    → Contains ((parts_of r None).rests_on e) f → Contains (rules_alone (rule_side r, f)) r
alone_at_rested r e f alone here rests =
    subst (λ (rules : List Rule). Contains rules r) (alone_like (rule_side r) e f (alone_kind r e f alone here rests))
    (alone_at r e.n e.d e.w alone here)
