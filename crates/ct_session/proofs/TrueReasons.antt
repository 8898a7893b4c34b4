-- What is explained is true.
use Rattle.std.proofs.Common.{◌≡◌, ℕ, ◌+◌, ◌-◌, List, [], ◌∷◌, ◌++◌, length, map, slice_get, All, Option, Some, None, refl, sym, ap, ◌∙◌, append-nil}
use Rattle.std.specs.Prelude.{codes}
use Rattle.std.specs.Option.{option_map}
use Rattle.std.specs.List.{flat_map}
use Rattle.std.proofs.lemmas.Grind.{flat_map-append}
use Rattle.std.proofs.lemmas.Option.{slice_get-map}
use Rattle.std.proofs.lemmas.List.{length-map}
use Rattle.std.proofs.lemmas.List.Elements.{All-map}
use Rattle.ct_words.specs.declared.entry.Entry.{Entry}
use Rattle.ct_words.specs.declared.claim.Claim.{Claim}
use Rattle.ct_words.specs.declared.claim.Side.{Side}
use Rattle.ct_words.specs.Claim.{IsTrueClaim}
use Rattle.ct_rules.specs.Derivation.{LineValue}
use Rattle.ct_text.specs.EntryNumbers.{named_entry}
use Rattle.ct_commands.specs.declared.command.Command.{Command}
use Rattle.ct_commands.specs.declared.command.Command.TheVariants as command
use Rattle.ct_commands.proofs.Naming.{CommandIsNamed}
use Rattle.ct_piece.specs.Piece.{PieceValue}
use Rattle.ct_piece.specs.Standing.{AreStanding}
use Rattle.ct_derive.specs.Explanation.{last_claim}
use Rattle.ct_derive.specs.Text.{block_text, evidence_text, lines_text, reason_words}
use Rattle.ct_explain.proofs.ExplainedBounds.{lines_are_true}
use Rattle.ct_text.specs.declared.document_lines.TheConstants.{LINE_FEED}
use Rattle.ct_replies.specs.Text.{reply_text}
use Rattle.ct_replies.specs.declared.reply.Reply.{Reply}
use Rattle.ct_session.specs.Reply.{IsReply, IsExplainReply}
use Rattle.ct_session.specs.TrueLines.{claim_line, claim_lines, IsTrueExplanation, IsTrueExplain, IsTrueReason}

-- a line's claim, with the text of its reason
with_reason : List (List ℕ) → LineValue → Claim × List ℕ
with_reason ids l = (l.claim, reason_words ids l.rule l.from)

-- lines as claims with their reasons
same_lines : (ids : List (List ℕ)) (number : ℕ) (lines : List LineValue) → lines_text ids number lines ≡ claim_lines number (map (with_reason ids) lines)
unfolding with_reason
same_lines ids number [] = refl
same_lines ids number (l ∷ ls) = ap (λ (t : List ℕ). claim_line number (with_reason ids l) ++ t) (same_lines ids (number + 1) ls)

-- the id and the document of a piece, where there is one
block_at : Option PieceValue → List (List ℕ × List ℕ)
block_at None = []
block_at (Some p) = (p.id, p.document) ∷ []

blocks_of : List PieceValue → List ℕ → List (List ℕ × List ℕ)
blocks_of pieces [] = []
blocks_of pieces (place ∷ places) = block_at (slice_get pieces place) ++ blocks_of pieces places

one_block : (o : Option PieceValue) → block_text (λ p. p.id) (λ p. p.document) o ≡ flat_map (λ b. evidence_text b.0 b.1) (block_at o)
unfolding block_at
one_block None = refl
one_block (Some p) = sym (append-nil (evidence_text p.id p.document))

same_blocks : (pieces : List PieceValue) (places : List ℕ)
    → flat_map (λ place. block_text (λ p. p.id) (λ p. p.document) (slice_get pieces place)) places ≡ flat_map (λ b. evidence_text b.0 b.1) (blocks_of pieces places)
unfolding blocks_of
same_blocks pieces [] = refl
same_blocks pieces (place ∷ places) =
    let show : List ℕ × List ℕ → List ℕ = λ b. evidence_text b.0 b.1 in
    let rest = flat_map (λ place. block_text (λ p. p.id) (λ p. p.document) (slice_get pieces place)) places in
    ap (λ (t : List ℕ). t ++ rest) (one_block (slice_get pieces place))
    ∙ ap (λ (t : List ℕ). flat_map show (block_at (slice_get pieces place)) ++ t) (same_blocks pieces places)
    ∙ sym (flat_map-append show (block_at (slice_get pieces place)) (blocks_of pieces places))

-- the claim of the last line is that of the last claim
same_last : (ids : List (List ℕ)) (lines : List LineValue)
    → option_map (λ c. c.0) (slice_get (map (with_reason ids) lines) (length (map (with_reason ids) lines) - 1)) ≡ last_claim lines
unfolding with_reason
same_last ids lines =
    let at = ap (λ (n : ℕ). slice_get (map (with_reason ids) lines) (n - 1)) (length-map lines (with_reason ids)) ∙ slice_get-map (with_reason ids) lines (length lines - 1) in
    ap (λ (o : Option (Claim × List ℕ)). option_map (λ c. c.0) o) at ∙ claim_of (slice_get lines (length lines - 1)) where
      claim_of : (o : Option LineValue) → option_map (λ c. c.0) (option_map (with_reason ids) o) ≡ option_map (λ l. l.claim) o
      claim_of None = refl
      claim_of (Some l) = refl

true_explain : (pieces : List PieceValue) (side : Side) (o : Option Entry) (r : Reply) → AreStanding pieces → IsExplainReply pieces side o r → IsTrueExplain side o (reply_text r)
unfolding reply_text with_reason
true_explain pieces side None r stand h = ap reply_text h
true_explain pieces side (Some e) r stand h =
    let ids = map (λ p. p.id) pieces in
    let d = h.derivation in
    record {
      blocks = blocks_of pieces d.pieces;
      claims = map (with_reason ids) d.lines;
      value = h.explains.value;
      each = All-map (λ c. IsTrueClaim c.0) (with_reason ids) d.lines (lines_are_true pieces side e d stand h.explains);
      last = same_last ids d.lines ∙ h.explains.lines.ends;
      spelled =
          ap reply_text h.shown
          ∙ ap (λ (t : List ℕ). codes "derivation" ++ LINE_FEED ∷ [] ++ t ++ lines_text ids 1 d.lines ++ codes "done" ++ LINE_FEED ∷ []) (same_blocks pieces d.pieces)
          ∙ ap (λ (t : List ℕ). codes "derivation" ++ LINE_FEED ∷ [] ++ flat_map (λ b. evidence_text b.0 b.1) (blocks_of pieces d.pieces) ++ t ++ codes "done" ++ LINE_FEED ∷ []) (same_lines ids 1 d.lines);
    }

-- so each answer to `explain` is true
pub true_reason : (pieces : List PieceValue) (c : Command) (r : Reply) → CommandIsNamed c → AreStanding pieces → IsReply pieces c r → IsTrueReason c (reply_text r)
true_reason pieces (command.Submission id document) r named stand h = tt
true_reason pieces command.CutOff r named stand h = tt
true_reason pieces (command.Withdraw id) r named stand h = tt
true_reason pieces (command.WithdrawAll id) r named stand h = tt
true_reason pieces (command.Show numbers) r named stand h = tt
true_reason pieces (command.Table numbers) r named stand h = tt
true_reason pieces (command.Explain side numbers) r named stand h = true_explain pieces side (named_entry numbers) r stand h
true_reason pieces (command.List numbers) r named stand h = tt
true_reason pieces command.Ledger r named stand h = tt
true_reason pieces command.Dump r named stand h = tt
true_reason pieces command.Unknown r named stand h = tt
