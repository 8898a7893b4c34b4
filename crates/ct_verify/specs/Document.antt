-- The verdict on a derivation document: that it is verified, or where it fails first, and why.
use Rattle.std.specs.Prelude.{◌≡◌, ◌≢◌, ◌⊎◌, ℕ, suc, List, [], ◌∷◌, ◌++◌, length, All, Result, Ok, Err, Option, Some, None, codes}
use Rattle.ct_io.specs.Lines.{lines_of}
use Rattle.ct_text.specs.Line.{words_of}
use Rattle.ct_text.specs.Gathering.{IsDocument}
use Rattle.ct_text.specs.declared.gathering.Extent.{Extent}
use Rattle.ct_words.specs.Claim.{IsTrueClaim}
use Rattle.ct_words.specs.declared.claim.Claim.{Claim}
use Rattle.ct_rules.specs.declared.rule.Rule.{Rule}
use Rattle.ct_rules.specs.Derivation.{LineValue, IsDerivation}
use Rattle.ct_piece.specs.Piece.{PieceValue}
use Rattle.ct_piece.specs.Standing.{AreStanding}
use Rattle.ct_piece.specs.Submission.{submitted}
use Rattle.ct_piece.specs.Supports.{supports_of}
use Rattle.ct_kind.specs.declared.fault.SubmitFault.{SubmitFault}
use Rattle.ct_derive.specs.Check.{line_fault, line_by}
use Rattle.ct_derive.specs.declared.check.LineFault.{LineFault}
use Rattle.ct_derive.specs.declared.check.LineFault.TheVariants.{NoRule, NoPremise, OtherValue}
use Rattle.ct_verify.specs.Heading.{heading_of}
use Rattle.ct_verify.specs.Stated.{IsStated}
use Rattle.ct_verify.specs.Stated.{resolved}
use Rattle.ct_verify.specs.declared.verdict.Why.{Why}
use Rattle.ct_verify.specs.declared.verdict.Why.TheVariants as why
use Rattle.ct_verify.specs.declared.verdict.Verdict.{Verdict}
use Rattle.ct_verify.specs.declared.verdict.Verdict.TheVariants.{Yes, No}

-- how far a document was read: not begun; open, with the pieces of its evidence and its lines so far; or closed by `done`
pub data Stage : Type 0 where
  Unopened : Stage
  Open : List PieceValue → List LineValue → Stage
  Closed : List PieceValue → List LineValue → Stage

-- why a line fails that does not follow from those before it
abbrev pub why_of : LineFault → Why
why_of NoRule = why.Rule
why_of NoPremise = why.Premise
why_of (OtherValue stated given) = why.Value stated given

-- what a line with this claim, from lines with these numbers, leads to: it is one line more where it follows by the rule, and there is no rule where it names no piece
abbrev pub line_outcome : List PieceValue → List LineValue → Claim → List ℕ → Option Rule → Result Stage Why
line_outcome pieces lines claim from None = Err why.Rule
line_outcome pieces lines claim from (Some rule) = elim (line_fault (supports_of pieces) lines claim rule from) [
  | None ↦ Ok (Open pieces (lines ++ line_by claim rule from ∷ []))
  | Some fault ↦ Err (why_of fault)
]

-- what a block of evidence leads to, by what its submission makes: one piece more
abbrev pub block_outcome : List PieceValue → Result PieceValue SubmitFault → Result Stage Why
block_outcome pieces (Ok piece) = Ok (Open (pieces ++ piece ∷ []) [])
block_outcome pieces (Err fault) = Err (why.Evidence fault)

-- text lines of a form that may stand at a stage lead to the next stage, or fail for a reason: `derivation`; a block of evidence, before any line; a line with the
-- next number; `done`, after a line
pub data Leads : Stage → List (List ℕ) → Result Stage Why → Type 0 where
  opening : (text : List ℕ) → words_of text ≡ codes "derivation" ∷ [] → Leads Unopened (text ∷ []) (Ok (Open [] []))
  evidence : (pieces : List PieceValue) (text : List ℕ) (words : List (List ℕ)) (id : List ℕ) (extent : Extent) (block : List (List ℕ)) (document : List ℕ)
      → words_of text ≡ codes "evidence" ∷ words → heading_of words ≡ Some (record { id = id; extent = extent }) → IsDocument extent block document
      → Leads (Open pieces []) (text ∷ block) (block_outcome pieces (submitted pieces id document))
  one_line : (pieces : List PieceValue) (lines : List LineValue) (text : List ℕ) (words : List (List ℕ)) (claim : Claim) (rule : Rule) (id : Option (List ℕ)) (from : List ℕ)
      → words_of text ≡ codes "line" ∷ words → IsStated words (suc (length lines)) claim rule id from
      → Leads (Open pieces lines) (text ∷ []) (line_outcome pieces lines claim from (resolved pieces rule id))
  closing : (pieces : List PieceValue) (lines : List LineValue) (text : List ℕ) → lines ≢ [] → words_of text ≡ codes "done" ∷ []
      → Leads (Open pieces lines) (text ∷ []) (Ok (Closed pieces lines))

-- the first text lines of a document lead to a stage, with no failure
pub data AreReadTo : List (List ℕ) → Stage → Type 0 where
  nothing : AreReadTo [] Unopened
  and_then : (before texts : List (List ℕ)) (s t : Stage) → AreReadTo before s → Leads s texts (Ok t) → AreReadTo (before ++ texts) t

-- a document is verified: its text lines lead to its close; the pieces of its evidence stand, its lines are a derivation over what these give to the table,
-- and each line's claim is true
pub record IsVerified (document : List ℕ) : Type 0 where
  pub pieces : List PieceValue
  pub lines : List LineValue
  pub read : AreReadTo (lines_of document) (Closed pieces lines)
  pub standing : AreStanding pieces
  pub derivation : IsDerivation (supports_of pieces) lines
  pub claims : All (λ l. IsTrueClaim l.claim) lines

-- the text lines that are left at a stage fail: the first of them lead to a failure; or none at their front have a form that may stand there, and there are
-- some, or the document is not closed
abbrev pub Fails : Stage → List (List ℕ) → Why → Type 0
Fails s left reason =
    ((front : List (List ℕ)) × (back : List (List ℕ)) × (left ≡ front ++ back) × Leads s front (Err reason))
    ⊎ ((reason ≡ why.Form)
    × ((pieces : List PieceValue) (lines : List LineValue) → s ≡ Closed pieces lines → left ≢ [])
    × ((front back : List (List ℕ)) (outcome : Result Stage Why) → left ≡ front ++ back → Leads s front outcome → ⊥))

-- the first text line that fails, counted from 1, and why: those before it are read, and those from it on fail
pub record IsFirstFailure (document : List ℕ) (number : ℕ) (reason : Why) : Type 0 where
  pub before : List (List ℕ)
  pub left : List (List ℕ)
  pub stage : Stage
  pub divided : lines_of document ≡ before ++ left
  pub counted : number ≡ suc (length before)
  pub read : AreReadTo before stage
  pub failing : Fails stage left reason

-- the verdict on a document: yes where it is verified, and else its first failure
abbrev pub IsVerdict : List ℕ → Verdict → Type 0
IsVerdict document Yes = IsVerified document
IsVerdict document (No number reason) = IsFirstFailure document number reason
