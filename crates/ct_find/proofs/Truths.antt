-- What is found is true.
use Rattle.ct_find.specs.Inside.Replies.{IsReplyToEntry, IsReplyToNumbers, IsReplyToWords}
use Rattle.std.proofs.Common.{◌≡◌, ◌⊎◌, ℕ, Bool, true, false, cond, List, [], ◌∷◌, ◌++◌, Option, Some, None, IfSome, inl, inr, refl, ap, ◌∙◌}
use Rattle.std.specs.Prelude.{codes}
use Rattle.std.specs.List.{AllZip, flat_map}
use Rattle.ct_words.specs.declared.entry.Entry.{Entry}
use Rattle.ct_words.specs.Entry.{IsEntry, is_entry}
use Rattle.ct_io.specs.Lines.{lines_of}
use Rattle.ct_text.specs.declared.document_lines.TheConstants.{LINE_FEED}
use Rattle.ct_text.specs.Line.{words_of}
use Rattle.ct_text.specs.EntryNumbers.{entry_numbers_of, named_entry}
use Rattle.ct_text.specs.declared.entry_numbers.EntryNumbers.{EntryNumbers}
use Rattle.ct_duals.specs.declared.dual.Dual.{Dual}
use Rattle.ct_finder.specs.Found.{bound_without_allowances}
use Rattle.ct_finder.proofs.FoundLemmas.{stop-least}
use Rattle.ct_find.specs.Proposal.{AnswersEntry, found_dual, stop_for}
use Rattle.ct_find.specs.Reply.{AreFoundReplies, IsFound}
use Rattle.ct_find.specs.Truth.{IsTrueProposal, IsTrueReply, AreTrueReplies}
use Rattle.ct_find.proofs.FoundDuals.{found, bound-true}

-- a proposal for an entry of the table is true
true_proposal : (e : Entry) (o : Option Dual) (text : List ℕ) → IsEntry e → found_dual e ≡ o → AnswersEntry e o text → (text ≡ codes "none" ++ LINE_FEED ∷ []) ⊎ IsTrueProposal e text
true_proposal e None text entry is answers = inl answers
true_proposal e (Some d) text entry is answers =
    let dual = found e d entry is in
    inr
    (record {
      dual = d;
      bound = bound_without_allowances d;
      stop = stop_for e;
      proposal = answers.0;
      entry = dual.entry;
      form = dual.form;
      accepted = dual.accepted;
      limited = bound-true e d entry is;
      least = λ p stops. stop-least p (stop_for e) d answers.1 stops;
    })

true_to_entry : (e : Entry) (b : Bool) → is_entry e ≡ b → (text : List ℕ) (refused : Bool) → IsReplyToEntry (cond b (Some e) None) text refused
    → IfSome (cond b (Some e) None) (λ f. (text ≡ codes "none" ++ LINE_FEED ∷ []) ⊎ IsTrueProposal f text)
true_to_entry e true entry text refused answers = true_proposal e (found_dual e) text entry refl answers.0
true_to_entry e false entry text refused answers = tt

true_to_numbers : (numbers : Option EntryNumbers) (text : List ℕ) (refused : Bool) → IsReplyToNumbers numbers text refused
    → IfSome numbers (λ m. IfSome (named_entry m) (λ e. (text ≡ codes "none" ++ LINE_FEED ∷ []) ⊎ IsTrueProposal e text))
true_to_numbers None text refused answers = tt
true_to_numbers (Some m) text refused answers =
    let e : Entry = record { n = m.n; d = m.d; w = m.w } in
    true_to_entry e (is_entry e) refl text refused answers

true_to_words : (words : List (List ℕ)) (text : List ℕ) (refused : Bool) → IsReplyToWords words text refused
    → IfSome (entry_numbers_of words) (λ m. IfSome (named_entry m) (λ e. (text ≡ codes "none" ++ LINE_FEED ∷ []) ⊎ IsTrueProposal e text))
true_to_words [] text refused answers = tt
true_to_words (word ∷ words) text refused answers = true_to_numbers (entry_numbers_of (word ∷ words)) text refused answers

true_replies : (lines : List (List ℕ)) (text : List ℕ) (refused : Bool) → AreFoundReplies lines text refused
    → (replies : List (List ℕ)) × AllZip IsTrueReply lines replies × (text ≡ flat_map (λ reply. reply) replies)
true_replies [] text refused h = ([], tt, h.0)
true_replies (line ∷ lines) text refused (reply, rest, here, later, answers, others, is, mark) =
    let (replies, each, same) = true_replies lines rest later others in
    (reply ∷ replies, (true_to_words (words_of line) reply here answers, each), is ∙ ap (λ (t : List ℕ). reply ++ t) same)

-- so is the output on an input
pub found_is_true : (input output : List ℕ) (refused : Bool) → IsFound input output refused → AreTrueReplies input output
found_is_true input output refused h =
    let (replies, each, text) = true_replies (lines_of input) output refused h in
    record { replies = replies; each = each; spelled = text }
