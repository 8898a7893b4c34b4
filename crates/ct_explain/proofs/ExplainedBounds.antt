-- Best bounds over pieces that stand are explained, and what explanations claim is true.
use Rattle.std.proofs.Common.{◌≡◌, ℕ, List, All, length, Result, Ok, Err, IfOk, sym, subst, ◌∙◌}
use Rattle.std.proofs.lemmas.List.{length-map}
use Rattle.ct_words.specs.declared.entry.Entry.{Entry}
use Rattle.ct_words.specs.declared.claim.Side.{Side}
use Rattle.ct_words.specs.Claim.{IsTrueClaim}
use Rattle.ct_words.specs.Entry.{IsEntry}
use Rattle.ct_rule_parts.specs.declared.support.Support.{Support}
use Rattle.ct_rule_parts.specs.Slot.{claim_at}
use Rattle.ct_rules.specs.Derivation.{IsBest}
use Rattle.ct_rules.proofs.BestValues.{best_exists, best_is_true}
use Rattle.ct_derive.specs.Derivation.{DerivationValue, AreOrdered}
use Rattle.ct_derive.specs.Explanation.{IsExplanation}
use Rattle.ct_derive.specs.Pieces.{AreNeeded}
use Rattle.ct_derive.proofs.ExplanationLaws.{lines_of_explanation_are_true, ordered_lines}
use Rattle.ct_derive.proofs.NeededExist.{shown_exists}
use Rattle.ct_piece.specs.Piece.{PieceValue}
use Rattle.ct_piece.specs.Standing.{AreStanding}
use Rattle.ct_piece.specs.Supports.{support_of, supports_of}
use Rattle.ct_piece.proofs.SupportLemmas.{supports_stand}
use Rattle.ct_explain.specs.Explained.{ExplainsBest}
use Rattle.ct_explain.specs.Parts.{part_places, parts_of_each}
use Rattle.ct_explain.proofs.PartPlaces.{parts_earlier}

-- each piece has a list of its parts, and a support
pub as_many : (ps : List PieceValue) → length (parts_of_each ps) ≡ length (supports_of ps)
as_many ps = length-map ps (part_places ps) ∙ sym (length-map ps support_of)

-- the best bound has an explanation
pub explained : (ps : List PieceValue) (side : Side) (e : Entry) → AreStanding ps → IsEntry e → (d : DerivationValue) × ExplainsBest ps side e d
explained ps side e h entry =
    let best = best_exists (supports_of ps) (side, e) (supports_stand ps h) entry in
    let shown = shown_exists (supports_of ps) (parts_of_each ps) (side, e) best.0 (as_many ps) (parts_earlier ps h) best.1.derived in
    (shown.0, record { value = best.0; best = best.1; lines = shown.1; needed = shown.2 })

-- an answer that explains over supports and parts of the pieces
pub explains : {E : Type 0} (ps : List PieceValue) (side : Side) (e : Entry) (supports : List Support) (parts : List (List ℕ)) (answer : Result DerivationValue E)
    → supports ≡ supports_of ps → parts ≡ parts_of_each ps
    → IfOk answer (λ d. (v : ℕ) × IsBest supports (side, e) v × IsExplanation supports (side, e) v d.lines)
    → IfOk answer (λ d. AreNeeded parts d.lines d.pieces) → IfOk answer (ExplainsBest ps side e)
explains ps side e supports parts (Ok d) gives are lines needed =
    let best = subst (λ (s : List Support). (v : ℕ) × IsBest s (side, e) v × IsExplanation s (side, e) v d.lines) gives lines in
    record { value = best.0; best = best.1; lines = best.2; needed = subst (λ (p : List (List ℕ)). AreNeeded p d.lines d.pieces) are needed }
explains ps side e supports parts (Err fault) gives are lines needed = tt

-- the bound is true, and so is each claim
pub explained_is_true : (ps : List PieceValue) (side : Side) (e : Entry) (d : DerivationValue) → AreStanding ps → (h : ExplainsBest ps side e d)
    → IsTrueClaim (claim_at (side, e) h.value)
explained_is_true ps side e d stand h = best_is_true (supports_of ps) (side, e) h.value (supports_stand ps stand) h.best

pub lines_are_true : (ps : List PieceValue) (side : Side) (e : Entry) (d : DerivationValue) → AreStanding ps → ExplainsBest ps side e d
    → All (λ l. IsTrueClaim l.claim) d.lines
lines_are_true ps side e d stand h = lines_of_explanation_are_true (supports_of ps) (side, e) h.value d.lines (supports_stand ps stand) h.lines

pub lines_are_ordered : (ps : List PieceValue) (side : Side) (e : Entry) (d : DerivationValue) → ExplainsBest ps side e d → AreOrdered d.lines
lines_are_ordered ps side e d h = ordered_lines (supports_of ps) (side, e) h.value d.lines h.lines
