-- The rules that can be defined at an entry, one after the other.
use Rattle.std.specs.Prelude.{ℕ, ◌+◌, ◌-◌, if◌then◌else◌, List, [], ◌∷◌, ◌++◌, map}
use Rattle.std.specs.List.{flat_map, range_with_len}
use Rattle.ct_words.specs.declared.entry.Entry.{Entry}
use Rattle.ct_words.specs.declared.claim.Side.{Side}
use Rattle.ct_words.specs.declared.claim.Side.TheVariants.{Lower, Upper}
use Rattle.ct_rule_parts.specs.Parts.{has_weight}
use Rattle.ct_rule_parts.specs.Slot.{Slot}
use Rattle.ct_rules.specs.declared.rule.Rule.{Rule}
use Rattle.ct_rules.specs.declared.rule.Rule.TheVariants.{L9, L10, L11, M9, M10, U9, U10, U11, U12, V9, V10}
use Rattle.ct_rules.specs.declared.rule.TheConstants.{LOWER_RULES, UPPER_RULES, LOWER_WEIGHT_RULES, UPPER_WEIGHT_RULES}
use Rattle.ct_rules.specs.Listing.{rules_alone}

-- those that give bounds from a side, of entries without and with weight
abbrev pub alone_on : Side → List Rule
alone_on Lower = LOWER_RULES ++ LOWER_WEIGHT_RULES
alone_on Upper = UPPER_RULES ++ UPPER_WEIGHT_RULES

-- words side by side: the first code of each length from 1 to n - 1, and of each distance from 3 to d - 3
abbrev pub juxtaposition_rules : Entry → List Rule
juxtaposition_rules e = flat_map (λ n. map (λ d. L11 n d) (range_with_len 3 (e.d - 5))) (range_with_len 1 (e.n - 1))

-- sum classes: each residue below the length
abbrev pub sum_class_rules : Entry → List Rule
sum_class_rules e = map (λ r. M9 r) (range_with_len 0 e.n)

-- the rules with numbers
abbrev pub rules_with_numbers : Slot → List Rule
rules_with_numbers (Lower, e) = if has_weight e then sum_class_rules e else juxtaposition_rules e
rules_with_numbers (Upper, e) = []

-- the rules that lead from entries with weight to those without: for each weight up to the length, and Johnson's
abbrev pub rules_by_weight : Slot → List Rule
rules_by_weight (Lower, e) = if has_weight e then [] else map (λ w. L9 w) (range_with_len 0 (e.n + 1))
rules_by_weight (Upper, e) = if has_weight e then [] else U9 ∷ map (λ w. U10 w) (range_with_len 0 (e.n + 1))

-- the rules that name one of so many supports
abbrev pub rules_of_supports : ℕ → Slot → List Rule
rules_of_supports count (Lower, e) = map (λ place. if has_weight e then M10 place else L10 place) (range_with_len 0 count)
rules_of_supports count (Upper, e) =
    if has_weight e then map (λ place. V9 place) (range_with_len 0 count) ++ map (λ place. V10 place) (range_with_len 0 count)
    else map (λ place. U11 place) (range_with_len 0 count) ++ map (λ place. U12 place) (range_with_len 0 count)

-- all rules that can be defined at the entry of a slot and bound it from its side, over so many supports
unfoldable pub rules_at : ℕ → Slot → List Rule
rules_at count s = rules_alone s ++ rules_with_numbers s ++ rules_by_weight s ++ rules_of_supports count s
