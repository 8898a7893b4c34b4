-- What is left of rules and lines once supports are taken out.
use Rattle.std.specs.Prelude.{◌≡◌, ℕ, zero, suc, ◌+◌, ◌-◌, ◌==◌, if◌then◌else◌, Bool, true, false, List, [], ◌∷◌, Contains, slice_get, slice_index_or, Option, Some, None}
use Rattle.ct_rule_parts.specs.declared.support.Support.{Support}
use Rattle.ct_rule_parts.specs.declared.support.Support.TheVariants.{Nothing}
use Rattle.ct_rules.specs.declared.rule.Rule.{Rule}
use Rattle.ct_rules.specs.Derivation.{LineValue}
use Rattle.ct_rules.specs.Rule.{named_place, with_place}

-- a set of places
abbrev pub Places : Type 0
Places = ℕ → Bool

-- a list without the items whose places are in the set
unfoldable pub without : {X : Type 0} → Places → List X → List X
without gone [] = []
without gone (x ∷ xs) = if gone 0 then without (λ p. gone (suc p)) xs else x ∷ without (λ p. gone (suc p)) xs

-- the set of one place
abbrev pub only : ℕ → Places
only place p = p == place

-- the places that are marked
abbrev pub marked : List Bool → Places
marked marks p = slice_index_or marks p false

-- how many places below this one are in the set
unfoldable pub count_below : Places → ℕ → ℕ
count_below gone zero = 0
count_below gone (suc p) = count_below gone p + (if gone p then 1 else 0)

-- the place of an item once those of the set are out: it moves down by how many of these lie below it
abbrev pub lowered_place : Places → ℕ → ℕ
lowered_place gone p = p - count_below gone p

-- whether a rule names a support of the set
abbrev pub names_one : Places → Option ℕ → Bool
names_one gone None = false
names_one gone (Some place) = gone place

-- a rule that names this place, or none, with the place as it is over the supports that are left
abbrev pub lowered_by : Places → Rule → Option ℕ → Rule
lowered_by gone r None = r
lowered_by gone r (Some place) = with_place r (lowered_place gone place)

-- a rule over the supports that are left
abbrev pub lowered : Places → Rule → Rule
lowered gone r = lowered_by gone r (named_place r)

-- a chain of lines leads from the line at i, each line naming the next one, to one whose rule names a support of the set
abbrev pub IsChain : List LineValue → Places → ℕ → List ℕ → Type 0
IsChain lines gone i [] = (l : LineValue) × (slice_get lines i ≡ Some l) × (names_one gone (named_place l.rule) ≡ true)
IsChain lines gone i (p ∷ ps) = ((l : LineValue) × (slice_get lines i ≡ Some l) × Contains l.from p) × IsChain lines gone p ps

-- the line at i rests on a support of the set: by its own rule, or through lines that it names
abbrev pub RestsOnPlaces : List LineValue → Places → ℕ → Type 0
RestsOnPlaces lines gone i = (chain : List ℕ) × IsChain lines gone i chain

-- a support in whose place nothing is given any more
abbrev pub voided_by : Bool → Support → Support
voided_by gone support = if gone then Nothing else support

-- supports of which those of the set give nothing
unfoldable pub voided : Places → List Support → List Support
voided gone [] = []
voided gone (support ∷ supports) = voided_by (gone 0) support ∷ voided (λ p. gone (suc p)) supports

-- a line over the supports that are left
abbrev pub lowered_line : Places → LineValue → LineValue
lowered_line gone l = record { claim = l.claim; rule = lowered gone l.rule; from = l.from }
