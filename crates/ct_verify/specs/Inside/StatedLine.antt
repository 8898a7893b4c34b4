-- A line of a derivation, as its words state it.
use Rattle.std.specs.Prelude.{ℕ, nat_le, ◌&&◌, if◌then◌else◌, List, [], ◌∷◌, drop, Option, Some, None, codes}
use Rattle.std.specs.Option.{option_and_then}
use Rattle.std.specs.Str.{bytes_eq}
use Rattle.ct_words.specs.declared.limits.TheConstants.{MAX_BOUND}
use Rattle.ct_words.specs.declared.entry.Entry.{Entry}
use Rattle.ct_words.specs.declared.claim.Side.{Side}
use Rattle.ct_words.specs.declared.claim.Claim.{Claim}
use Rattle.ct_text.specs.Number.{number_of}
use Rattle.ct_text.specs.Side.{side_of_word}
use Rattle.ct_derive.specs.Check.{and_values}
use Rattle.ct_verify.specs.Stated.{entry_of_words}
use Rattle.ct_verify.specs.Inside.StatedRule.{stated_rule}
use Rattle.ct_verify.specs.declared.stated_rule.StatedRule.{StatedRule}
use Rattle.ct_rules.specs.declared.rule.Rule.{Rule}

-- a line as it is stated: its number, what it claims, its rule, and the numbers of the lines that hold the premises
pub record StatedLineValue : Type 0 where
  pub number : ℕ
  pub claim : Claim
  pub rule : StatedRule
  pub from : List ℕ

-- the bound that a word writes: from 1 to MAX_BOUND
abbrev pub bound_of_word : List ℕ → Option ℕ
bound_of_word word = option_and_then (λ n. if nat_le 1 n && nat_le n MAX_BOUND then Some n else None) (number_of word)

-- the numbers that words write, where each of them is one
abbrev pub all_numbers : List (List ℕ) → Option (List ℕ)
all_numbers [] = Some []
all_numbers (word ∷ words) = and_values (number_of word) (all_numbers words)

-- the numbers of lines that words name: none, or `from` and at least one number
abbrev pub premises_of_words : List (List ℕ) → Option (List ℕ)
premises_of_words [] = Some []
premises_of_words (word ∷ []) = None
premises_of_words (word ∷ next ∷ words) = if bytes_eq word (codes "from") then all_numbers (next ∷ words) else None

-- a claim of these parts
abbrev pub claim_of : Option Side → Option Entry → Option ℕ → Option Claim
claim_of (Some side) (Some entry) (Some value) = Some (record { side = side; entry = entry; value = value })
claim_of side entry value = None

-- a line of these parts
abbrev pub line_from : Option ℕ → Claim → StatedRule → Option (List ℕ) → Option StatedLineValue
line_from (Some number) claim rule (Some from) = Some (record { number = number; claim = claim; rule = rule; from = from })
line_from number claim rule from = None

-- the line with this number and claim whose rule is followed by these words: what is left of them after its arguments names the premises
abbrev pub with_rule : Option ℕ → Claim → Option StatedRule → List (List ℕ) → Option StatedLineValue
with_rule number claim None words = None
with_rule number claim (Some rule) words = line_from number claim rule (premises_of_words (drop rule.arguments words))

-- the line with this number and claim; the words are `by`, the name of a rule, and what follows it
abbrev pub with_reason : Option ℕ → Option Claim → List (List ℕ) → Option StatedLineValue
with_reason number (Some claim) (word ∷ name ∷ words) =
    if bytes_eq word (codes "by") then with_rule number claim (stated_rule claim.side name words) words else None
with_reason number claim words = None

-- the line with this number, side and entry; the words are `value`, a bound, and what follows it
abbrev pub with_value : List ℕ → List ℕ → List (List ℕ) → List (List ℕ) → Option StatedLineValue
with_value number side entry (word ∷ value ∷ words) =
    if bytes_eq word (codes "value") then with_reason (number_of number) (claim_of (side_of_word side) (entry_of_words entry) (bound_of_word value)) words else None
with_value number side entry words = None

-- the line that the words after `line` state: NUMBER SIDE ENTRY value V by RULE ARGUMENTS from P1 P2 .., with an entry of two numbers or three
abbrev pub line_of : List (List ℕ) → Option StatedLineValue
line_of (number ∷ side ∷ n ∷ d ∷ word ∷ words) =
    if bytes_eq word (codes "value") then with_value number side (n ∷ d ∷ []) (word ∷ words) else with_value number side (n ∷ d ∷ word ∷ []) words
line_of words = None

-- the stated line of these parts, with so many words as arguments
abbrev pub stated_as : ℕ → Claim → Rule → Option (List ℕ) → ℕ → List ℕ → StatedLineValue
stated_as number claim rule id count from =
    record { number = number; claim = claim; rule = record { rule = rule; id = id; arguments = count }; from = from }
