-- Replies to `explain` are documents that are verified.
use Rattle.std.proofs.Common.{◌≡◌, ℕ, zero, suc, ◌≤◌, Bool, false, List, [], ◌∷◌, length, Option, Some, None, subst, ap, ◌∙◌}
use Rattle.std.specs.Prelude.{slice_get}
use Rattle.std.proofs.lemmas.List.Elements.{All-nil}
use Rattle.std.proofs.lemmas.Option.{none-some}
use Rattle.ct_words.specs.declared.entry.Entry.{Entry}
use Rattle.ct_words.specs.declared.claim.Side.{Side}
use Rattle.ct_io.specs.Lines.{lines_of}
use Rattle.ct_text.specs.EntryNumbers.{named_entry}
use Rattle.ct_text.specs.declared.entry_numbers.EntryNumbers.{EntryNumbers}
use Rattle.ct_commands.specs.declared.command.Command.{Command}
use Rattle.ct_commands.specs.declared.command.Command.TheVariants as command
use Rattle.ct_commands.proofs.Inputs.{asked_once}
use Rattle.ct_commands.proofs.Naming.{AreNamed, commands_of-named}
use Rattle.ct_fields.specs.declared.document.TheConstants.{MAX_DOCUMENT}
use Rattle.ct_piece.specs.Piece.{PieceValue}
use Rattle.ct_piece.specs.Standing.{AreStanding}
use Rattle.ct_piece.proofs.StandingLemmas.{AreStanding-none}
use Rattle.ct_verify.specs.Inside.Verdict.{verdict_of}
use Rattle.ct_verify.specs.declared.verdict.Verdict.TheVariants.{Yes}
use Rattle.ct_laws.proofs.PrintedDerivations.{printed_is_verified}
use Rattle.ct_session.specs.Reply.{IsExplainReply, IsReply, pieces_after}
use Rattle.ct_replies.specs.Refusals.{is_refusal}
use Rattle.ct_session.specs.Run.{AreReplies, IsRun}
use Rattle.ct_replies.specs.Text.{reply_text}
use Rattle.ct_replies.specs.declared.reply.Reply.{Reply}
use Rattle.ct_session.proofs.Existence.{AreStanding-after}
use Rattle.ct_laws.proofs.DumpPieces.{AreShort, pieces_after-short}

-- a reply that is no refusal
pub reply_verified : (pieces : List PieceValue) (side : Side) (o : Option Entry) (r : Reply) → AreStanding pieces → AreShort pieces → IsExplainReply pieces side o r → is_refusal r ≡ false
    → verdict_of (reply_text r) ≡ Yes
unfolding reply_text
reply_verified pieces side None r stand short h shows = absurd (let refused = ap is_refusal h in cc)
reply_verified pieces side (Some e) r stand short h shows =
    ap (λ (s : Reply). verdict_of (reply_text s)) h.shown ∙ printed_is_verified pieces side e h.derivation stand short h.explains

-- each of the replies to commands
replies_verified : (pieces : List PieceValue) (cs : List Command) (rs : List Reply) (k : ℕ) (side : Side) (numbers : EntryNumbers) (r : Reply) → AreNamed cs → AreStanding pieces → AreShort pieces
    → AreReplies pieces cs rs → slice_get cs k ≡ Some (command.Explain side numbers) → slice_get rs k ≡ Some r → is_refusal r ≡ false → verdict_of (reply_text r) ≡ Yes
replies_verified pieces [] rs k side numbers r named stand short h asked is shows = absurd (none-some (command.Explain side numbers) asked)
replies_verified pieces (c ∷ cs) [] k side numbers r named stand short h asked is shows = absurd h
replies_verified pieces (c ∷ cs) (s ∷ rs) zero side numbers r named stand short h asked is shows =
    let same : c ≡ command.Explain side numbers = cc in
    let own : s ≡ r = cc in
    reply_verified pieces side (named_entry numbers) r stand short (subst (λ (t : Reply). IsReply pieces (command.Explain side numbers) t) own (subst (λ (d : Command). IsReply pieces d s) same h.0)) shows
replies_verified pieces (c ∷ cs) (s ∷ rs) (suc k) side numbers r named stand short h asked is shows =
    replies_verified (pieces_after pieces c) cs rs k side numbers r named.1 (AreStanding-after pieces c named.0 stand) (pieces_after-short pieces c short) h.1 asked is shows

-- in a run they are over no pieces to begin with
pub run_verified : (input output : List ℕ) (refused : Bool) (run : IsRun input output refused) (k : ℕ) (side : Side) (numbers : EntryNumbers) (r : Reply)
    → slice_get run.commands k ≡ Some (command.Explain side numbers) → slice_get run.answers.replies k ≡ Some r → is_refusal r ≡ false → verdict_of (reply_text r) ≡ Yes
run_verified input output refused run k side numbers r =
    let named = subst AreNamed (asked_once (command.CutOff ∷ []) (lines_of input) run.commands run.asked) (commands_of-named (lines_of input)) in
    replies_verified [] run.commands run.answers.replies k side numbers r named AreStanding-none (All-nil (λ (q : PieceValue). length q.document ≤ MAX_DOCUMENT)) run.answers.are
