-- The texts of replies.
use Rattle.std.specs.Prelude.{ℕ, ◌==◌, if◌then◌else◌, List, [], ◌∷◌, ◌++◌, length, codes}
use Rattle.std.specs.Fmt.{decimal}
use Rattle.std.specs.List.{flat_map}
use Rattle.ct_text.specs.declared.document_lines.TheConstants.{LINE_FEED}
use Rattle.ct_words.specs.Text.{word_text}
use Rattle.ct_words.specs.declared.entry.Entry.{Entry}
use Rattle.ct_words.specs.Code.{CodeValue}
use Rattle.ct_rule_codes.specs.CodeEntry.{entry_of_code}
use Rattle.ct_text.specs.EntryText.{entry_text, entry_words}
use Rattle.ct_piece.specs.Piece.{PieceValue}
use Rattle.ct_files.specs.Refusal.{submit_fault_text}
use Rattle.ct_piece.specs.Text.{withdraw_fault_text, size_text, piece_text}
use Rattle.ct_replies.specs.declared.reply.Reply.{Reply}
use Rattle.ct_replies.specs.declared.reply.Reply.TheVariants.{Accepted, Withdrawn, WithdrawnAll, Shown, Table, Lines, Refused}
use Rattle.ct_replies.specs.declared.reply.Bounds.{Bounds}
use Rattle.ct_replies.specs.declared.reply.Refusal.{Refusal}
use Rattle.ct_replies.specs.declared.reply.Refusal.TheVariants as refusal

-- why a command is refused
abbrev pub refusal_text : Refusal → List ℕ
refusal_text refusal.CutOff = codes "cut"
refusal_text refusal.NoCommand = codes "command"
refusal_text refusal.NoEntry = codes "entry"
refusal_text (refusal.Submission fault) = submit_fault_text fault
refusal_text (refusal.Withdrawal id fault) = withdraw_fault_text id fault

-- the bounds of an entry: A(N,D) = L if they are equal, else L <= A(N,D) <= U
abbrev pub bounds_text : Entry → ℕ → ℕ → List ℕ
bounds_text e lower upper =
    if lower == upper then entry_text e ++ codes " = " ++ decimal lower
    else decimal lower ++ codes " <= " ++ entry_text e ++ codes " <= " ++ decimal upper

-- a text and a line feed
abbrev pub ended : List ℕ → List ℕ
ended text = text ++ LINE_FEED ∷ []

-- the line of an entry with its bounds
abbrev pub bounds_line : Bounds → List ℕ
bounds_line b = ended (bounds_text b.entry b.lower b.upper)

-- a line for each piece, and their number
abbrev pub ledger_text : List PieceValue → List ℕ
ledger_text pieces = flat_map (λ p. ended (piece_text p)) pieces ++ ended (codes "pieces " ++ decimal (length pieces))

-- the line before the words of a code: `code ENTRY size S`
abbrev pub code_heading : Entry → ℕ → List ℕ
code_heading e size = ended (codes "code " ++ entry_words e ++ codes " size " ++ decimal size)

-- words of length n, a line for each
abbrev pub word_lines : ℕ → List ℕ → List ℕ
word_lines n words = flat_map (λ x. ended (word_text n x)) words

-- a code of an entry: the entry and how many words there are, and then the words, a line for each
abbrev pub code_text : Entry → List ℕ → List ℕ
code_text e words = code_heading e (length words) ++ word_lines e.n words

-- the same of a code that is listed
abbrev pub listed_text : CodeValue → List ℕ
listed_text c = code_text (entry_of_code c) c.words

-- a reply: its lines, each with a line feed
unfoldable pub reply_text : Reply → List ℕ
reply_text (Accepted id size) = ended (codes "accepted " ++ id ++ size_text size)
reply_text (Withdrawn id) = ended (codes "withdrawn " ++ id)
reply_text (WithdrawnAll id count) = ended (codes "withdrawn " ++ id ++ codes " count " ++ decimal count)
reply_text (Shown bounds) = bounds_line bounds
reply_text (Table column) = flat_map bounds_line column
reply_text (Lines lines) = lines
reply_text (Refused r) = ended (codes "refused " ++ refusal_text r)
