-- What the explanations of a session say of codes, in plain numbers and texts.
use Rattle.std.specs.Prelude.{◌≡◌, ℕ, ◌+◌, ◌-◌, ⊤, List, [], ◌∷◌, ◌++◌, length, slice_get, All, Option, Some, None, codes}
use Rattle.std.specs.Option.{option_map}
use Rattle.std.specs.List.{flat_map}
use Rattle.ct_words.specs.declared.entry.Entry.{Entry}
use Rattle.ct_words.specs.declared.claim.Claim.{Claim}
use Rattle.ct_words.specs.declared.claim.Side.{Side}
use Rattle.ct_words.specs.Claim.{IsTrueClaim}
use Rattle.ct_text.specs.EntryNumbers.{named_entry}
use Rattle.ct_text.specs.Number.{spaced}
use Rattle.ct_text.specs.declared.document_lines.TheConstants.{LINE_FEED}
use Rattle.ct_commands.specs.declared.command.Command.{Command}
use Rattle.ct_commands.specs.declared.command.Command.TheVariants as command
use Rattle.ct_derive.specs.Text.{claim_words, evidence_text}
use Rattle.ct_session.specs.Truth.{no_entry}

-- a claim with the text of its reason, as the line with this number: `line NUMBER SIDE ENTRY value V` and the reason
abbrev pub claim_line : ℕ → Claim × List ℕ → List ℕ
claim_line number c = codes "line" ++ spaced number ++ codes " " ++ claim_words c.0 ++ c.1 ++ LINE_FEED ∷ []

-- claims with their reasons, as the lines from this number on
abbrev pub claim_lines : ℕ → List (Claim × List ℕ) → List ℕ
claim_lines number [] = []
claim_lines number (c ∷ cs) = claim_line number c ++ claim_lines (number + 1) cs

-- the text explains a bound of the entry on this side: blocks of evidence, each an id with a document, and then lines. The claim of each line is true, and
-- that of the last one bounds the entry on this side
pub record IsTrueExplanation (side : Side) (e : Entry) (text : List ℕ) : Type 0 where
  pub blocks : List (List ℕ × List ℕ)
  pub claims : List (Claim × List ℕ)
  pub value : ℕ
  pub each : All (λ c. IsTrueClaim c.0) claims
  pub last : option_map (λ c. c.0) (slice_get claims (length claims - 1)) ≡ Some (record { side = side; entry = e; value = value })
  pub spelled : text ≡ codes "derivation" ++ LINE_FEED ∷ [] ++ flat_map (λ b. evidence_text b.0 b.1) blocks ++ claim_lines 1 claims ++ codes "done" ++ LINE_FEED ∷ []

-- a true answer to `explain`
abbrev pub IsTrueExplain : Side → Option Entry → List ℕ → Type 0
IsTrueExplain side None text = text ≡ no_entry
IsTrueExplain side (Some e) text = IsTrueExplanation side e text

-- the text is a true answer to the command, where this asks for an explanation
abbrev pub IsTrueReason : Command → List ℕ → Type 0
IsTrueReason (command.Explain side numbers) text = IsTrueExplain side (named_entry numbers) text
IsTrueReason other text = ⊤
