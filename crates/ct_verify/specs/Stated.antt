-- What the words of a line of a derivation state.
use Rattle.std.specs.Prelude.{◌≡◌, ◌≢◌, ◌⊎◌, ◌≤◌, ◌-◌, ◌^◌, ℕ, nat_lt, if◌then◌else◌, List, [], ◌∷◌, ◌++◌, map, Option, Some, None, option_map, IsTrue, codes}
use Rattle.std.specs.Option.{option_and_then}
use Rattle.ct_words.specs.declared.limits.TheConstants.{MAX_BOUND}
use Rattle.ct_words.specs.declared.entry.Entry.{Entry}
use Rattle.ct_words.specs.declared.claim.Claim.{Claim}
use Rattle.ct_names.specs.Id.{is_id}
use Rattle.ct_text.specs.Number.{number_of}
use Rattle.ct_text.specs.Side.{side_of_word}
use Rattle.ct_text.specs.EntryNumbers.{entry_numbers_of, named_entry}
use Rattle.ct_rules.specs.declared.arguments.Arguments.{Arguments}
use Rattle.ct_rules.specs.declared.arguments.Arguments.TheVariants.{Nothing, Number, Numbers, Place}
use Rattle.ct_rules.specs.declared.rule.Rule.{Rule}
use Rattle.ct_rules.specs.Rule.{arguments_of, with_arguments, with_place}
use Rattle.ct_rules.specs.Listing.{rule_named}
use Rattle.ct_piece.specs.Piece.{PieceValue, place_of_id}

-- the entry of the table that the words name
abbrev pub entry_of_words : List (List ℕ) → Option Entry
entry_of_words words = option_and_then named_entry (entry_numbers_of words)

-- the number that an argument writes; one from 2^32 on stands for the greatest below it: neither is an argument of a rule at any entry
abbrev pub argument_of : List ℕ → Option ℕ
argument_of word = option_map (λ n. if nat_lt n (2 ^ 32) then n else 2 ^ 32 - 1) (number_of word)

-- the words are the arguments of a rule, as its form asks for them: none, one number, two, or the id of a piece; with them it is this rule, which names this id
abbrev pub AreArguments : Rule → Arguments → List (List ℕ) → Rule → Option (List ℕ) → Type 0
AreArguments named Nothing words rule id = (words ≡ []) × (rule ≡ named) × (id ≡ None)
AreArguments named (Number k) words rule id = (n : ℕ) × (map argument_of words ≡ Some n ∷ []) × (rule ≡ with_arguments named (Number n)) × (id ≡ None)
AreArguments named (Numbers k m) words rule id =
    (n : ℕ) × (o : ℕ) × (map argument_of words ≡ Some n ∷ Some o ∷ []) × (rule ≡ with_arguments named (Numbers n o)) × (id ≡ None)
AreArguments named (Place place) words rule id = (name : List ℕ) × (words ≡ name ∷ []) × IsTrue (is_id name) × (rule ≡ named) × (id ≡ Some name)

-- the words name the lines with these numbers: there are none, or they are `from` and at least one number
abbrev pub ArePremises : List (List ℕ) → List ℕ → Type 0
ArePremises words from =
    ((words ≡ []) × (from ≡ [])) ⊎ ((numbers : List (List ℕ)) × (words ≡ codes "from" ∷ numbers) × (numbers ≢ []) × (map number_of numbers ≡ map Some from))

-- the words state the line with this number: NUMBER SIDE ENTRY value V by RULE ARGUMENTS from P1 P2 ..
pub record IsStated (words : List (List ℕ)) (number : ℕ) (claim : Claim) (rule : Rule) (id : Option (List ℕ)) (from : List ℕ) : Type 0 where
  pub first : List ℕ
  pub side : List ℕ
  pub entry : List (List ℕ)
  pub value : List ℕ
  pub name : List ℕ
  pub arguments : List (List ℕ)
  pub premises : List (List ℕ)
  pub written : words ≡ first ∷ side ∷ (entry ++ codes "value" ∷ value ∷ codes "by" ∷ name ∷ (arguments ++ premises))
  pub numbered : number_of first ≡ Some number
  pub sided : side_of_word side ≡ Some claim.side
  pub entered : entry_of_words entry ≡ Some claim.entry
  pub valued : number_of value ≡ Some claim.value
  pub positive : 1 ≤ claim.value
  pub small : claim.value ≤ MAX_BOUND
  pub named : Rule
  pub by : rule_named claim.side name ≡ Some named
  pub argued : AreArguments named (arguments_of named) arguments rule id
  pub from_lines : ArePremises premises from

-- a stated rule over the pieces: where it names one, with its place, and nothing where no piece has the id
abbrev pub resolved : List PieceValue → Rule → Option (List ℕ) → Option Rule
resolved pieces rule None = Some rule
resolved pieces rule (Some id) = option_map (with_place rule) (place_of_id id pieces)
