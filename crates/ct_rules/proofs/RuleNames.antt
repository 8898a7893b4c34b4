-- Names and arguments lead back to the rules, and rules that names lead to are of their names.
use Rattle.std.proofs.Common.{◌≡◌, ℕ, List, [], ◌∷◌, ◌++◌, refl, sym, ap, subst, ◌∙◌}
use Rattle.std.specs.Prelude.{Bool, true, false, cond, Option, Some, None}
use Rattle.std.specs.Option.{option_or}
use Rattle.std.specs.Str.{bytes_eq}
use Rattle.std.proofs.lemmas.Slice.Eq.{bytes_eq-Decides}
use Rattle.std.proofs.lemmas.Option.{same_Some}
use Rattle.ct_words.specs.declared.claim.Side.{Side}
use Rattle.ct_words.specs.declared.claim.Side.TheVariants.{Lower, Upper}
use Rattle.ct_rules.specs.declared.arguments.Arguments.{Arguments}
use Rattle.ct_rules.specs.declared.arguments.Arguments.TheVariants.{Nothing, Number, Numbers, Place}
use Rattle.ct_rules.specs.declared.rule.Rule.{Rule}
use Rattle.ct_rules.specs.declared.rule.Rule.TheVariants.{L9}
use Rattle.ct_rules.specs.Rule.{row_of, rule_side, name_of, arguments_of, with_arguments, with_place, named_place, bare, Written, no_arguments, one_number, two_numbers, one_place, written_in, argued_in}
use Rattle.ct_rules.specs.Listing.{rules_on, first_named, rule_named}

-- the name of a rule leads to it, but for its arguments
pub named_again : (r : Rule) → rule_named (rule_side r) (name_of r) ≡ Some (bare r)
unfolding row_of rule_named
named_again (L9 w) = refl
named_again r = refl

-- and they to it
pub argued_again : (r : Rule) → with_arguments (bare r) (arguments_of r) ≡ r
unfolding row_of
argued_again (L9 w) = refl
argued_again r = refl

-- arguments with each number 0
abbrev pub zeros : Arguments → Arguments
zeros Nothing = Nothing
zeros (Number k) = Number 0
zeros (Numbers k m) = Numbers 0 0
zeros (Place place) = Place 0

pub bare_arguments : (r : Rule) → arguments_of (bare r) ≡ zeros (arguments_of r)
unfolding row_of
bare_arguments (L9 w) = refl
bare_arguments r = refl

-- no arguments change no rule
argued_nothing : (r : Rule) (written : Written) → argued_in r written Nothing ≡ r
argued_nothing r no_arguments = refl
argued_nothing r (one_number named k) = refl
argued_nothing r (two_numbers named k m) = refl
argued_nothing r (one_place named place) = refl

pub with_nothing : (r : Rule) → with_arguments r Nothing ≡ r
with_nothing r = argued_nothing r (written_in (row_of r))

-- the place of a support among arguments
abbrev pub place_among : Arguments → Option ℕ
place_among Nothing = None
place_among (Number k) = None
place_among (Numbers k m) = None
place_among (Place place) = Some place

-- the place of a support that a rule names is its argument
pub placed : (r : Rule) (place : ℕ) → with_arguments r (Place place) ≡ with_place r place
unfolding row_of
placed (L9 w) place = refl
placed r place = refl

-- the last place that is put in stays
placed_twice : (r : Rule) (place other : ℕ) → with_place (with_place r place) other ≡ with_place r other
unfolding row_of
placed_twice (L9 w) place other = refl
placed_twice r place other = refl

-- so a place put in for 0 is put in for the rule's own
pub bare-placed : (r : Rule) (place other : ℕ) → arguments_of r ≡ Place place → with_place (bare r) other ≡ with_place r other
bare-placed r place other is =
    sym (placed_twice (bare r) place other)
    ∙ ap (λ (q : Rule). with_place q other) (sym (placed (bare r) place) ∙ ap (with_arguments (bare r)) (sym is) ∙ argued_again r)

pub place_is : (r : Rule) → place_among (arguments_of r) ≡ named_place r
unfolding row_of
place_is (L9 w) = refl
place_is r = refl

-- arguments that are no place of a support hold none
pub no_place : (arguments : Arguments) → ((place : ℕ) → arguments ≡ Place place → ⊥) → place_among arguments ≡ None
no_place Nothing other = refl
no_place (Number k) other = refl
no_place (Numbers k m) other = refl
no_place (Place place) other = absurd (other place refl)

pub argued-side : (r : Rule) (arguments : Arguments) → rule_side (with_arguments r arguments) ≡ rule_side r
unfolding row_of
argued-side (L9 w) Nothing = refl
argued-side (L9 w) (Number k) = refl
argued-side (L9 w) (Numbers k m) = refl
argued-side (L9 w) (Place place) = refl
argued-side r Nothing = refl
argued-side r (Number k) = refl
argued-side r (Numbers k m) = refl
argued-side r (Place place) = refl

-- a rule of this side, its arguments 0
abbrev pub IsBareOn : Side → Rule → Type 0
IsBareOn side r = (rule_side r ≡ side) × (bare r ≡ r)

abbrev AreBareOn : Side → List Rule → Type 0
AreBareOn side [] = Unit {0}
AreBareOn side (r ∷ rules) = IsBareOn side r × AreBareOn side rules

lower-bare : AreBareOn Lower (rules_on Lower)
unfolding row_of
lower-bare = ((refl, refl), ((refl, refl), ((refl, refl), ((refl, refl), ((refl, refl), ((refl, refl), ((refl, refl), ((refl, refl), ((refl, refl), ((refl, refl), ((refl, refl), ((refl, refl), ((refl, refl), ((refl, refl), ((refl, refl), ((refl, refl), ((refl, refl), ((refl, refl), ((refl, refl), ((refl, refl), ((refl, refl), tt)))))))))))))))))))))

upper-bare : AreBareOn Upper (rules_on Upper)
unfolding row_of
upper-bare = ((refl, refl), ((refl, refl), ((refl, refl), ((refl, refl), ((refl, refl), ((refl, refl), ((refl, refl), ((refl, refl), ((refl, refl), ((refl, refl), ((refl, refl), ((refl, refl), ((refl, refl), ((refl, refl), ((refl, refl), ((refl, refl), ((refl, refl), ((refl, refl), ((refl, refl), ((refl, refl), ((refl, refl), ((refl, refl), ((refl, refl), ((refl, refl), tt))))))))))))))))))))))))

all_bare : (side : Side) → AreBareOn side (rules_on side)
all_bare Lower = lower-bare
all_bare Upper = upper-bare

first_named-is : (side : Side) (name : List ℕ) (rules : List Rule) (r : Rule) → AreBareOn side rules → first_named name rules ≡ Some r
    → (name_of r ≡ name) × IsBareOn side r
first_named-is side name [] r are h = absurd cc
first_named-is side name (q ∷ rules) r are h = at (bytes_eq (name_of q) name) refl h (first_named-is side name rules r are.1)
  where
    at : (b : Bool) → bytes_eq (name_of q) name ≡ b → cond b (Some q) (first_named name rules) ≡ Some r
        → (first_named name rules ≡ Some r → (name_of r ≡ name) × IsBareOn side r) → (name_of r ≡ name) × IsBareOn side r
    at true same is later =
        let own : q ≡ r = same_Some q r is in
        subst (λ (p : Rule). (name_of p ≡ name) × IsBareOn side p) own ((bytes_eq-Decides (name_of q) name).0 same, are.0)
    at false other is later = later is

-- the first of two lists is the first of the one, or of the other
pub first_named-append : (name : List ℕ) (first second : List Rule) → first_named name (first ++ second) ≡ option_or (first_named name first) (first_named name second)
first_named-append name [] second = refl
first_named-append name (r ∷ first) second = at (bytes_eq (name_of r) name) (first_named-append name first second)
  where
    at : (b : Bool) → first_named name (first ++ second) ≡ option_or (first_named name first) (first_named name second)
        → cond b (Some r) (first_named name (first ++ second)) ≡ option_or (cond b (Some r) (first_named name first)) (first_named name second)
    at true later = refl
    at false later = later

pub first_of_three : (name : List ℕ) (first second third : List Rule)
    → first_named name (first ++ second ++ third) ≡ option_or (option_or (first_named name first) (first_named name second)) (first_named name third)
first_of_three name first second third =
    first_named-append name (first ++ second) third
    ∙ ap (λ (o : Option Rule). option_or o (first_named name third)) (first_named-append name first second)

-- a rule that a name leads to has that name and that side, and its arguments are 0
pub rule_named-is : (side : Side) (name : List ℕ) (r : Rule) → rule_named side name ≡ Some r → (name_of r ≡ name) × IsBareOn side r
unfolding rule_named
rule_named-is side name r h = first_named-is side name (rules_on side) r (all_bare side) h
