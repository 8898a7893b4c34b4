-- The document that an explanation is printed as is verified.
use Rattle.std.proofs.Common.{◌≡◌, ◌≢◌, ℕ, ◌≤◌, true, cond, List, [], ◌∷◌, ◌++◌, map, length, Some, refl, sym, ap, subst, ◌∙◌, append_assoc, codes}
use Rattle.std.specs.Prelude.{slice_get}
use Rattle.std.specs.List.{flat_map}
use Rattle.std.proofs.lemmas.Option.{none-some}
use Rattle.ct_words.specs.declared.entry.Entry.{Entry}
use Rattle.ct_words.specs.declared.claim.Claim.{Claim}
use Rattle.ct_words.specs.declared.claim.Side.{Side}
use Rattle.ct_text.specs.declared.document_lines.TheConstants.{LINE_FEED}
use Rattle.ct_io.specs.Lines.{lines_of}
use Rattle.ct_io.proofs.LinesLemmas.{lines_of-next}
use Rattle.ct_names.specs.Id.{is_id}
use Rattle.ct_fields.specs.declared.document.TheConstants.{MAX_DOCUMENT}
use Rattle.ct_rule_parts.specs.Slot.{claim_at}
use Rattle.ct_rules.specs.Derivation.{LineValue}
use Rattle.ct_piece.specs.Piece.{PieceValue}
use Rattle.ct_piece.specs.Standing.{AreStanding}
use Rattle.ct_derive.specs.Derivation.{DerivationValue}
use Rattle.ct_derive.specs.Explanation.{last_claim}
use Rattle.ct_derive.specs.Text.{block_text, evidence_text, lines_text}
use Rattle.ct_explain.specs.Explained.{ExplainsBest, explanation_text}
use Rattle.ct_explain.proofs.ExplainedBounds.{lines_are_true}
use Rattle.ct_verify.specs.Inside.Read.{unread}
use Rattle.ct_verify.specs.Inside.Reading.{is_only, read_next}
use Rattle.ct_verify.specs.Inside.Verdict.{verdict_of}
use Rattle.ct_verify.specs.Inside.Step.{On, Failed}
use Rattle.ct_verify.specs.declared.verdict.Why.TheVariants as why
use Rattle.ct_verify.specs.declared.verdict.Verdict.TheVariants.{Yes}
use Rattle.ct_commands.proofs.SpacedWords.{known_word, IsLine-words, words_again}
use Rattle.ct_laws.proofs.FewLines.{few_lines}
use Rattle.ct_laws.proofs.PrintedLines.{items_at, moved_line}
use Rattle.ct_laws.proofs.LineSteps.{IsVerified, in_body, next_verified, lines_verified, done_verified}
use Rattle.ct_laws.proofs.BlockSteps.{AreShort, pieces_verified}
use Rattle.ct_laws.proofs.PrintedPieces.{blocks-items, all_there, needed_stand, All-items}
use Rattle.ct_laws.proofs.ReadyLines.{ids_of, IsPrinted, ready_lines}

-- an explanation has a line
some_line : (lines : List LineValue) (c : Claim) → last_claim lines ≡ Some c → lines ≢ []
some_line [] c h = absurd (none-some c h)
some_line (l ∷ lines) c h = λ e. absurd cc

-- what is known of it
explanation_is : (pieces : List PieceValue) (side : Side) (e : Entry) (d : DerivationValue) → AreStanding pieces → ExplainsBest pieces side e d → IsPrinted pieces d.pieces d.lines
explanation_is pieces side e d stand h =
    let claims = lines_are_true pieces side e d stand h in
    record {
      standing = stand;
      different = (needed_stand pieces d.lines d.pieces stand h.needed).different;
      there = all_there pieces d.lines d.pieces h.lines.derivation h.needed;
      needed = h.needed;
      derivation = h.lines.derivation;
      claims = claims;
      few = few_lines d.lines claims h.lines.different;
    }

-- the first text line
start_step : (k : ℕ) → read_next unread k (codes "derivation") ≡ On (in_body [] [])
unfolding read_next
start_step k =
    ap (λ (words : List (List ℕ)). cond (is_only (codes "derivation") words) (On (in_body [] [])) (Failed k why.Form)) (words_again (codes "derivation") [] (known_word (codes "derivation") refl) tt)

-- the parts of the document, one after another
document_text : (first blocks lines last : List ℕ)
    → ((((first ++ LINE_FEED ∷ []) ++ blocks) ++ lines) ++ last) ++ LINE_FEED ∷ [] ≡ first ++ LINE_FEED ∷ (blocks ++ (lines ++ (last ++ LINE_FEED ∷ [])))
document_text first blocks lines last =
    let feed : List ℕ = LINE_FEED ∷ [] in
    append_assoc (((first ++ feed) ++ blocks) ++ lines) last feed
    ∙ append_assoc ((first ++ feed) ++ blocks) lines (last ++ feed)
    ∙ append_assoc (first ++ feed) blocks (lines ++ (last ++ feed))
    ∙ append_assoc first feed (blocks ++ (lines ++ (last ++ feed)))

-- it is verified
pub printed_is_verified : (pieces : List PieceValue) (side : Side) (e : Entry) (d : DerivationValue) → AreStanding pieces → AreShort pieces → ExplainsBest pieces side e d
    → verdict_of (explanation_text pieces d) ≡ Yes
printed_is_verified pieces side e d stand short h =
    let printed : List PieceValue = items_at pieces d.pieces in
    let ids = ids_of pieces in
    let is = explanation_is pieces side e d stand h in
    let done : List ℕ = codes "done" ++ LINE_FEED ∷ [] in
    let lines : List ℕ = lines_text ids 1 d.lines in
    let blocks : List ℕ = flat_map (λ p. block_text (λ (q : PieceValue). q.id) (λ (q : PieceValue). q.document) (slice_get pieces p)) d.pieces in
    let first : List ℕ = codes "derivation" in
    let ended : IsVerified (in_body printed (map (moved_line d.pieces) d.lines)) (lines_of done) =
    done_verified printed d.pieces d.lines (some_line d.lines (claim_at (side, e) h.value) h.lines.ends) in
    let lined : IsVerified (in_body printed []) (lines_of (lines ++ done)) =
    lines_verified ids printed d.pieces [] d.lines done (ready_lines pieces d.pieces d.lines is) ended in
    let stated : IsVerified (in_body [] []) (lines_of (flat_map (λ (q : PieceValue). evidence_text q.id q.document) printed ++ (lines ++ done))) =
    pieces_verified [] printed (lines ++ done) (needed_stand pieces d.lines d.pieces stand h.needed)
    (All-items (λ (p : PieceValue). is_id p.id ≡ true) pieces d.pieces stand.named)
    (All-items (λ (p : PieceValue). length p.document ≤ MAX_DOCUMENT) pieces d.pieces short) lined in
    let blocked : IsVerified (in_body [] []) (lines_of (blocks ++ (lines ++ done))) =
    subst (λ (t : List ℕ). IsVerified (in_body [] []) (lines_of (t ++ (lines ++ done)))) (sym (blocks-items pieces d.pieces)) stated in
    let text : lines_of (explanation_text pieces d) ≡ first ∷ lines_of (blocks ++ (lines ++ done)) =
    ap lines_of (document_text first blocks lines (codes "done"))
    ∙ lines_of-next first (blocks ++ (lines ++ done)) (IsLine-words first [] (known_word first refl) tt) in
    subst (IsVerified unread) (sym text) (next_verified unread (in_body [] []) first (lines_of (blocks ++ (lines ++ done))) start_step blocked) 1
