-- The replies to the lines of an input.
use Rattle.std.specs.Prelude.{◌≡◌, ◌⊎◌, ℕ, Bool, true, false, ◌||◌, List, [], ◌∷◌, ◌++◌, codes, Option, Some, None, IfSome}
use Rattle.std.specs.Io.KnownBytes.{Appends}
use Rattle.ct_io.specs.Told.{AppendsProperPrefix}
use Rattle.ct_io.specs.Lines.{lines_of}
use Rattle.ct_text.specs.declared.document_lines.TheConstants.{LINE_FEED}
use Rattle.ct_text.specs.Line.{words_of}
use Rattle.ct_text.specs.EntryNumbers.{entry_numbers_of, named_entry}
use Rattle.ct_files.specs.Document.{document_read_of}
use Rattle.ct_commands.specs.Submission.{submission_text}
use Rattle.ct_find.specs.Proposal.{AnswersEntry, found_dual}

-- the reply to a line, and whether it is a refusal: nothing to a line without words, and the answer to one that names an entry of the table
abbrev pub IsFoundReply : List ℕ → List ℕ → Bool → Type 0
IsFoundReply line text refused =
    elim (words_of line) [
      | [] ↦ (text ≡ []) × (refused ≡ false)
      | word ∷ words ↦ elim (entry_numbers_of (word ∷ words)) [
        | None ↦ (text ≡ codes "refused command" ++ LINE_FEED ∷ []) × (refused ≡ true)
        | Some numbers ↦ elim (named_entry numbers) [
          | None ↦ (text ≡ codes "refused entry" ++ LINE_FEED ∷ []) × (refused ≡ true)
          | Some e ↦ AnswersEntry e (found_dual e) text × (refused ≡ false)
        ]
      ]
    ]

-- the replies to lines, in order, and whether one of them is a refusal
abbrev pub AreFoundReplies : List (List ℕ) → List ℕ → Bool → Type 0
AreFoundReplies [] text refused = (text ≡ []) × (refused ≡ false)
AreFoundReplies (line ∷ lines) text refused =
    (reply rest : List ℕ) × (here later : Bool) × IsFoundReply line reply here × AreFoundReplies lines rest later × (text ≡ reply ++ rest) × (refused ≡ (here || later))

-- the output of the mode on an input: the replies to its lines
abbrev pub IsFound : List ℕ → List ℕ → Bool → Type 0
IsFound input output refused = AreFoundReplies (lines_of input) output refused

-- two replies to one line: equal, or the same but for the bytes of a document that is submitted, which reads alike
abbrev pub DifferInDocument : List ℕ → List ℕ → Type 0
DifferInDocument text other =
    (text ≡ other)
    ⊎ ((front id document another : List ℕ) × (document_read_of document ≡ document_read_of another)
    × (text ≡ front ++ submission_text id document) × (other ≡ front ++ submission_text id another))

-- two outputs are a reply for each line, in order, and these differ in the bytes of their documents alone
abbrev pub DifferInDocuments : List (List ℕ) → List ℕ → List ℕ → Type 0
DifferInDocuments [] text other = (text ≡ []) × (other ≡ [])
DifferInDocuments (line ∷ lines) text other =
    (reply rest another more : List ℕ) × DifferInDocument reply another × DifferInDocuments lines rest more × (text ≡ reply ++ rest) × (other ≡ another ++ more)

-- what a sink holds grew by the output on what a source has left, where it tells this; it tells whether a reply is a refusal
abbrev pub Writes : Option (List ℕ) → Option (List ℕ) → Option (List ℕ) → Bool → Type 0
Writes left old new refused = IfSome left (λ input. (output : List ℕ) × IsFound input output refused × Appends old new output)

-- it grew by a part of the output from its beginning on, and some of it is left
abbrev pub WritesInPart : Option (List ℕ) → Option (List ℕ) → Option (List ℕ) → Type 0
WritesInPart left old new = IfSome left (λ input. (output : List ℕ) × (refused : Bool) × IsFound input output refused × AppendsProperPrefix old new output)
