-- The text of derivations.
use Rattle.std.specs.Prelude.{ℕ, ◌+◌, List, [], ◌∷◌, ◌++◌, map, slice_get, Option, Some, None, codes}
use Rattle.std.specs.List.{flat_map}
use Rattle.ct_text.specs.declared.document_lines.TheConstants.{LINE_FEED}
use Rattle.ct_words.specs.declared.claim.Claim.{Claim}
use Rattle.ct_words.specs.declared.claim.Side.{Side}
use Rattle.ct_words.specs.declared.claim.Side.TheVariants.{Lower, Upper}
use Rattle.ct_text.specs.DocumentLines.{line_count}
use Rattle.ct_text.specs.Number.{spaced}
use Rattle.ct_text.specs.EntryText.{entry_words}
use Rattle.ct_rules.specs.declared.arguments.Arguments.{Arguments}
use Rattle.ct_rules.specs.declared.arguments.Arguments.TheVariants.{Nothing, Number, Numbers, Place}
use Rattle.ct_rules.specs.declared.rule.Rule.{Rule}
use Rattle.ct_rules.specs.Rule.{name_of, arguments_of}
use Rattle.ct_rules.specs.Derivation.{LineValue}
use Rattle.ct_derive.specs.Check.{numbers_at}
use Rattle.ct_derive.specs.Derivation.{DerivationValue}

-- a space and the id of a piece, where there is one
abbrev pub id_word : Option (List ℕ) → List ℕ
id_word None = []
id_word (Some id) = 32 ∷ id

-- the arguments of a rule, where the pieces have these ids
abbrev pub argument_words : List (List ℕ) → Arguments → List ℕ
argument_words ids Nothing = []
argument_words ids (Number k) = spaced k
argument_words ids (Numbers k m) = spaced k ++ spaced m
argument_words ids (Place place) = id_word (slice_get ids place)

-- a rule, its name before its arguments, where the pieces have these ids
abbrev pub rule_words : List (List ℕ) → Rule → List ℕ
rule_words ids r = name_of r ++ argument_words ids (arguments_of r)

-- the side of a bound
abbrev pub side_text : Side → List ℕ
side_text Lower = codes "lower"
side_text Upper = codes "upper"

-- the numbers of the lines that hold the premises, where there are some
abbrev pub from_words : List ℕ → List ℕ
from_words [] = []
from_words (n ∷ ns) = codes " from" ++ flat_map spaced (n ∷ ns)

-- what is claimed: `SIDE ENTRY value V`
abbrev pub claim_words : Claim → List ℕ
claim_words c = side_text c.side ++ codes " " ++ entry_words c.entry ++ codes " value" ++ spaced c.value

-- what it follows from: ` by RULE ARGUMENTS from P1 P2 ..`
abbrev pub reason_words : List (List ℕ) → Rule → List ℕ → List ℕ
reason_words ids r from = codes " by " ++ rule_words ids r ++ from_words (numbers_at from)

-- a line with its number: `line NUMBER SIDE ENTRY value V by RULE ARGUMENTS from P1 P2 ..`
abbrev pub line_text : List (List ℕ) → ℕ → LineValue → List ℕ
line_text ids number l =
    codes "line" ++ spaced number ++ codes " " ++ claim_words l.claim ++ reason_words ids l.rule l.from ++ LINE_FEED ∷ []

-- lines, numbered from this number on
abbrev pub lines_text : List (List ℕ) → ℕ → List LineValue → List ℕ
lines_text ids number [] = []
lines_text ids number (l ∷ ls) = line_text ids number l ++ lines_text ids (number + 1) ls

-- a block of evidence: `evidence ID lines K`, and the document
abbrev pub evidence_text : List ℕ → List ℕ → List ℕ
evidence_text id document = codes "evidence " ++ id ++ codes " lines" ++ spaced (line_count document) ++ LINE_FEED ∷ [] ++ document ++ LINE_FEED ∷ []

-- the block of the piece at a place, where there is one, and its id and its document are these
abbrev pub block_text : {X : Type 0} → (X → List ℕ) → (X → List ℕ) → Option X → List ℕ
block_text id document None = []
block_text id document (Some piece) = evidence_text (id piece) (document piece)

-- the document of a derivation over pieces: `derivation`, the blocks of the pieces that it needs, its lines, and `done`
abbrev pub derivation_text : {X : Type 0} → (X → List ℕ) → (X → List ℕ) → List X → DerivationValue → List ℕ
derivation_text id document pieces d =
    codes "derivation" ++ LINE_FEED ∷ [] ++ flat_map (λ p. block_text id document (slice_get pieces p)) d.pieces
    ++ lines_text (map id pieces) 1 d.lines ++ codes "done" ++ LINE_FEED ∷ []
