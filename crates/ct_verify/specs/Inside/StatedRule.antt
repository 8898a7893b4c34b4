-- A rule with its arguments, as the words of a line state them.
use Rattle.std.specs.Prelude.{ℕ, if◌then◌else◌, List, [], ◌∷◌, Option, Some, None, option_map}
use Rattle.std.specs.Option.{option_and_then}
use Rattle.ct_words.specs.declared.claim.Side.{Side}
use Rattle.ct_names.specs.Id.{is_id}
use Rattle.ct_rules.specs.declared.arguments.Arguments.{Arguments}
use Rattle.ct_rules.specs.declared.arguments.Arguments.TheVariants.{Nothing, Number, Numbers, Place}
use Rattle.ct_rules.specs.declared.rule.Rule.{Rule}
use Rattle.ct_rules.specs.Rule.{arguments_of, with_arguments}
use Rattle.ct_rules.specs.Listing.{rule_named}
use Rattle.ct_verify.specs.Stated.{argument_of}
use Rattle.ct_verify.specs.declared.stated_rule.StatedRule.{StatedRule}

-- a rule that states so many arguments, and no piece
abbrev pub numbered : ℕ → Rule → StatedRule
numbered count rule = record { rule = rule; id = None; arguments = count }

-- a rule that names the piece of the id; at which place it stands is not said
abbrev pub citing : Rule → List ℕ → StatedRule
citing rule id = record { rule = rule; id = Some id; arguments = 1 }

-- the number that the first word writes
abbrev pub first_argument : List (List ℕ) → Option ℕ
first_argument (word ∷ words) = argument_of word
first_argument [] = None

-- the number that the second word writes
abbrev pub second_argument : List (List ℕ) → Option ℕ
second_argument (word ∷ words) = first_argument words
second_argument [] = None

-- the id that the first word is
abbrev pub first_id : List (List ℕ) → Option (List ℕ)
first_id (word ∷ words) = if is_id word then Some word else None
first_id [] = None

-- a rule with arguments of this form that words begin with: nothing; a number; two; or the id of a piece, whose place the rule names
abbrev pub with_words : Rule → Arguments → List (List ℕ) → Option StatedRule
with_words rule Nothing words = Some (numbered 0 rule)
with_words rule (Number k) words = option_map (λ n. numbered 1 (with_arguments rule (Number n))) (first_argument words)
with_words rule (Numbers k m) words =
    option_and_then (λ n. option_map (λ o. numbered 2 (with_arguments rule (Numbers n o))) (second_argument words)) (first_argument words)
with_words rule (Place place) words = option_map (citing rule) (first_id words)

-- the rule of this side that a name and the words after it state
abbrev pub stated_rule : Side → List ℕ → List (List ℕ) → Option StatedRule
stated_rule side name words = option_and_then (λ rule. with_words rule (arguments_of rule) words) (rule_named side name)
