-- The replies to parts of a line.
use Rattle.std.specs.Prelude.{◌≡◌, ℕ, Bool, true, false, List, [], ◌∷◌, ◌++◌, codes, Option, Some, None}
use Rattle.ct_text.specs.declared.document_lines.TheConstants.{LINE_FEED}
use Rattle.ct_words.specs.declared.entry.Entry.{Entry}
use Rattle.ct_text.specs.EntryNumbers.{entry_numbers_of, named_entry}
use Rattle.ct_text.specs.declared.entry_numbers.EntryNumbers.{EntryNumbers}
use Rattle.ct_find.specs.Proposal.{AnswersEntry, found_dual}

-- the reply to numbers that name this entry of the table, or none, and whether it is a refusal
abbrev pub IsReplyToEntry : Option Entry → List ℕ → Bool → Type 0
IsReplyToEntry named text refused =
    elim named [
      | None ↦ (text ≡ codes "refused entry" ++ LINE_FEED ∷ []) × (refused ≡ true)
      | Some e ↦ AnswersEntry e (found_dual e) text × (refused ≡ false)
    ]

-- the reply to words that are these numbers, or others
abbrev pub IsReplyToNumbers : Option EntryNumbers → List ℕ → Bool → Type 0
IsReplyToNumbers read text refused =
    elim read [ None ↦ (text ≡ codes "refused command" ++ LINE_FEED ∷ []) × (refused ≡ true) | Some numbers ↦ IsReplyToEntry (named_entry numbers) text refused ]

-- the reply to the words of a line: nothing where there are none
abbrev pub IsReplyToWords : List (List ℕ) → List ℕ → Bool → Type 0
IsReplyToWords line text refused =
    elim line [ [] ↦ (text ≡ []) × (refused ≡ false) | word ∷ words ↦ IsReplyToNumbers (entry_numbers_of (word ∷ words)) text refused ]
