-- Two outputs of the mode for one input.
use Rattle.ct_find.specs.Inside.Replies.{IsReplyToEntry, IsReplyToNumbers, IsReplyToWords}
use Rattle.std.proofs.Common.{◌≡◌, ℕ, Bool, ◌||◌, List, [], ◌∷◌, Option, Some, None, sym, ap₂, ◌∙◌, inl, inr}
use Rattle.ct_words.specs.declared.entry.Entry.{Entry}
use Rattle.ct_duals.specs.declared.dual.Dual.{Dual}
use Rattle.ct_text.specs.Line.{words_of}
use Rattle.ct_text.specs.EntryNumbers.{entry_numbers_of, named_entry}
use Rattle.ct_text.specs.declared.entry_numbers.EntryNumbers.{EntryNumbers}
use Rattle.ct_finder.specs.Found.{bound_without_allowances}
use Rattle.ct_find.specs.Proposal.{AnswersEntry, comments, find_id, found_dual, stop_for}
use Rattle.ct_find.specs.Reply.{AreFoundReplies, DifferInDocument, DifferInDocuments}

-- two answers for an entry
alike_answers : (e : Entry) (found : Option Dual) (text other : List ℕ) → AnswersEntry e found text → AnswersEntry e found other → DifferInDocument text other
alike_answers e None text other h k = inl (h ∙ sym k)
alike_answers e (Some d) text other (h, shown) (k, again) = inr (comments (bound_without_allowances d) (stop_for e), find_id e, h.0, k.0, h.1 ∙ sym k.1, h.2, k.2)

-- two replies
alike_of_entry : (o : Option Entry) (text other : List ℕ) (a b : Bool) → IsReplyToEntry o text a → IsReplyToEntry o other b → DifferInDocument text other × (a ≡ b)
alike_of_entry None text other a b h k = (inl (h.0 ∙ sym k.0), h.1 ∙ sym k.1)
alike_of_entry (Some e) text other a b h k = (alike_answers e (found_dual e) text other h.0 k.0, h.1 ∙ sym k.1)

alike_of_numbers : (o : Option EntryNumbers) (text other : List ℕ) (a b : Bool) → IsReplyToNumbers o text a → IsReplyToNumbers o other b → DifferInDocument text other × (a ≡ b)
alike_of_numbers None text other a b h k = (inl (h.0 ∙ sym k.0), h.1 ∙ sym k.1)
alike_of_numbers (Some numbers) text other a b h k = alike_of_entry (named_entry numbers) text other a b h k

alike_of_words : (words : List (List ℕ)) (text other : List ℕ) (a b : Bool) → IsReplyToWords words text a → IsReplyToWords words other b → DifferInDocument text other × (a ≡ b)
alike_of_words [] text other a b h k = (inl (h.0 ∙ sym k.0), h.1 ∙ sym k.1)
alike_of_words (word ∷ words) text other a b h k = alike_of_numbers (entry_numbers_of (word ∷ words)) text other a b h k

-- the replies to lines
pub alike_replies : (lines : List (List ℕ)) (text other : List ℕ) (a b : Bool) → AreFoundReplies lines text a → AreFoundReplies lines other b → DifferInDocuments lines text other × (a ≡ b)
alike_replies [] text other a b h k = ((h.0, k.0), h.1 ∙ sym k.1)
alike_replies (line ∷ lines) text other a b (reply, rest, here, later, is, are, all, mark) (another, more, there, last, is', are', all', mark') =
    let first = alike_of_words (words_of line) reply another here there is is' in
    let next = alike_replies lines rest more later last are are' in
    ((reply, rest, another, more, first.0, next.0, all, all'), mark ∙ ap₂ (λ x y. x || y) first.1 next.1 ∙ sym mark')
