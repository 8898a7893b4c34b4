-- A submission takes the lines of its document with it.
use Rattle.std.proofs.Common.{◌≡◌, ℕ, suc, ◌+◌, Bool, true, false, cond, List, [], ◌∷◌, ◌++◌, length, Option, Some, None, refl, sym, ap, ◌∙◌, append_assoc, append-nil, arith}
use Rattle.std.specs.Prelude.{All}
use Rattle.std.specs.List.{join_with_byte, AllByRecursion}
use Rattle.std.proofs.lemmas.List.Elements.{recursion_from_All}
use Rattle.ct_text.specs.declared.document_lines.TheConstants.{LINE_FEED}
use Rattle.ct_io.specs.Lines.{ended_lines}
use Rattle.std.specs.Option.{option_to_list}
use Rattle.ct_text.specs.Gathering.{is_end, less_last, with_line, gathered}
use Rattle.ct_text.specs.declared.gathering.Gathering.{Gathering}
use Rattle.ct_text.specs.declared.gathering.Gathered.{Gathered}
use Rattle.ct_text.specs.declared.gathering.Gathered.TheVariants.{More, Whole}
use Rattle.ct_text.specs.declared.gathering.Extent.{Extent}
use Rattle.ct_text.specs.declared.gathering.Extent.TheVariants.{ToEnd, Lines}
use Rattle.ct_commands.specs.Form.{form_of}
use Rattle.ct_commands.specs.Command.{asked, opened, finished, going_on, completed, open_after_all, at_last, asked_for}
use Rattle.ct_commands.specs.declared.form.Form.{Form}
use Rattle.ct_commands.specs.declared.form.Form.TheVariants.{Submit}
use Rattle.ct_commands.specs.declared.command_reader.Pending.{Pending}
use Rattle.ct_commands.specs.declared.command.Command.{Command}
use Rattle.ct_commands.specs.declared.command.Command.TheVariants as command
use Rattle.ct_commands.proofs.DocumentLines.{front, joined, grouped}

-- a submission that is open
abbrev at : Option (List ℕ) → Extent → List ℕ → Option Pending
at id extent text = Some (record { id = id; document = record { extent = extent; text = text } })

-- the commands of the lines that follow, where this submission is open
abbrev from : List Command → Option Pending → List (List ℕ) → List Command
from last pending lines = completed pending lines ++ at_last last (open_after_all pending lines)

-- lines with their line feeds, without the last byte, are the lines joined
pub less_last_ended : (lines : List (List ℕ)) → less_last (ended_lines lines) ≡ join_with_byte LINE_FEED lines
less_last_ended [] = refl
less_last_ended (line ∷ lines) = ap less_last (joined line lines) ∙ front (join_with_byte LINE_FEED (line ∷ lines)) LINE_FEED

-- a line of the document, after which it goes on
goes_on : (last : List Command) (id : Option (List ℕ)) (old new : Gathering) (line : List ℕ) (lines : List (List ℕ)) → gathered old line ≡ More new
    → from last (Some (record { id = id; document = old })) (line ∷ lines) ≡ from last (Some (record { id = id; document = new })) lines
goes_on last id old new line lines h =
    ap (λ (after : Gathered). (option_to_list (finished id after) ++ completed (going_on id after) lines) ++ at_last last (open_after_all (going_on id after) lines)) h

-- a line after which the document is whole
is_whole : (last : List Command) (id : Option (List ℕ)) (old : Gathering) (text line : List ℕ) (lines : List (List ℕ)) → gathered old line ≡ Whole text
    → from last (Some (record { id = id; document = old })) (line ∷ lines) ≡ command.Submission id text ∷ asked_for last lines
is_whole last id old text line lines h =
    ap (λ (after : Gathered). (option_to_list (finished id after) ++ completed (going_on id after) lines) ++ at_last last (open_after_all (going_on id after) lines)) h

-- a line that opens a submission
opens : (last : List Command) (id : Option (List ℕ)) (extent : Extent) (line : List ℕ) (lines : List (List ℕ)) → form_of line ≡ Submit id extent → asked_for last (line ∷ lines) ≡ from last (at id extent []) lines
opens last id extent line lines h =
    ap (λ (form : Form). (option_to_list (asked form) ++ completed (opened form) lines) ++ at_last last (open_after_all (opened form) lines)) h

-- the lines of a document that goes to its end are taken in
taken_in : (last : List Command) (id : Option (List ℕ)) (text : List ℕ) (document rest : List (List ℕ)) → AllByRecursion (λ l. is_end l ≡ false) document
    → from last (at id ToEnd text) (document ++ rest) ≡ from last (at id ToEnd (text ++ ended_lines document)) rest
taken_in last id text [] rest none = ap (λ t. from last (at id ToEnd t) rest) (sym (append-nil text))
taken_in last id text (line ∷ document) rest none =
    let old : Gathering = record { extent = ToEnd; text = text } in
    let new : Gathering = record { extent = ToEnd; text = with_line text line } in
    goes_on last id old new line (document ++ rest) (ap (λ (b : Bool). cond b (Whole (less_last text)) (More new)) none.0)
    ∙ taken_in last id (with_line text line) document rest none.1 ∙ ap (λ t. from last (at id ToEnd t) rest) (grouped text line document)

pub to_end : (last : List Command) (line : List ℕ) (id : Option (List ℕ)) (document : List (List ℕ)) (end : List ℕ) (rest : List (List ℕ)) → form_of line ≡ Submit id ToEnd → All (λ l. is_end l ≡ false) document
    → is_end end ≡ true → asked_for last (line ∷ document ++ end ∷ rest) ≡ command.Submission id (join_with_byte LINE_FEED document) ∷ asked_for last rest
to_end last line id document end rest begins none ends =
    let all : Gathering = record { extent = ToEnd; text = ended_lines document } in
    let new : Gathering = record { extent = ToEnd; text = with_line (ended_lines document) end } in
    opens last id ToEnd line (document ++ end ∷ rest) begins
    ∙ taken_in last id [] document (end ∷ rest) (recursion_from_All (λ l. is_end l ≡ false) document none)
    ∙ is_whole last id all (less_last (ended_lines document)) end rest (ap (λ (b : Bool). cond b (Whole (less_last (ended_lines document))) (More new)) ends)
    ∙ ap (λ d. command.Submission id d ∷ asked_for last rest) (less_last_ended document)

pub without_end : (last : List Command) (line : List ℕ) (id : Option (List ℕ)) (document : List (List ℕ)) → form_of line ≡ Submit id ToEnd → All (λ l. is_end l ≡ false) document → asked_for last (line ∷ document) ≡ last
without_end last line id document begins none =
    opens last id ToEnd line document begins ∙ ap (from last (at id ToEnd [])) (sym (append-nil document))
    ∙ taken_in last id [] document [] (recursion_from_All (λ l. is_end l ≡ false) document none)

-- so many lines as are asked for are the whole document
all_counted : (last : List Command) (id : Option (List ℕ)) (text first : List ℕ) (document rest : List (List ℕ))
    → from last (at id (Lines (length document + 1)) text) (first ∷ document ++ rest) ≡ command.Submission id (less_last (text ++ ended_lines (first ∷ document))) ∷ asked_for last rest
all_counted last id text first [] rest =
    ap (λ t. command.Submission id (less_last t) ∷ asked_for last rest) (sym (append-nil (with_line text first)) ∙ grouped text first [])
all_counted last id text first (second ∷ document) rest =
    let count : length (second ∷ document) + 1 ≡ suc (suc (length document)) = omega arith in
    let less : suc (length document) ≡ length document + 1 = omega arith in
    ap (λ k. from last (at id (Lines k) text) (first ∷ second ∷ document ++ rest)) count
    ∙ ap (λ k. from last (at id (Lines k) (with_line text first)) (second ∷ document ++ rest)) less
    ∙ all_counted last id (with_line text first) second document rest
    ∙ ap (λ t. command.Submission id (less_last t) ∷ asked_for last rest) (grouped text first (second ∷ document))

pub counted : (last : List Command) (line : List ℕ) (id : Option (List ℕ)) (first : List ℕ) (document rest : List (List ℕ)) → form_of line ≡ Submit id (Lines (length document + 1))
    → asked_for last (line ∷ first ∷ document ++ rest) ≡ command.Submission id (join_with_byte LINE_FEED (first ∷ document)) ∷ asked_for last rest
counted last line id first document rest begins =
    opens last id (Lines (length document + 1)) line (first ∷ document ++ rest) begins ∙ all_counted last id [] first document rest
    ∙ ap (λ d. command.Submission id d ∷ asked_for last rest) (less_last_ended (first ∷ document))

-- fewer lines than are asked for are no document
not_all : (last : List Command) (id : Option (List ℕ)) (text : List ℕ) (document : List (List ℕ)) (more : ℕ) → from last (at id (Lines (length document + 1 + more)) text) document ≡ last
not_all last id text [] more = refl
not_all last id text (line ∷ document) more =
    let count : length (line ∷ document) + 1 + more ≡ suc (suc (length document + more)) = omega arith in
    let less : suc (length document + more) ≡ length document + 1 + more = omega arith in
    ap (λ k. from last (at id (Lines k) text) (line ∷ document)) count
    ∙ ap (λ k. from last (at id (Lines k) (with_line text line)) document) less
    ∙ not_all last id (with_line text line) document more

pub too_few : (last : List Command) (line : List ℕ) (id : Option (List ℕ)) (document : List (List ℕ)) (more : ℕ) → form_of line ≡ Submit id (Lines (length document + 1 + more)) → asked_for last (line ∷ document) ≡ last
too_few last line id document more begins = opens last id (Lines (length document + 1 + more)) line document begins ∙ not_all last id [] document more

-- a line that opens no submission
pub alone : (last : List Command) (form : Form) (line : List ℕ) (rest : List (List ℕ)) → form_of line ≡ form → opened form ≡ None → asked_for last (line ∷ rest) ≡ option_to_list (asked form) ++ asked_for last rest
alone last form line rest h none =
    ap (λ (f : Form). (option_to_list (asked f) ++ completed (opened f) rest) ++ at_last last (open_after_all (opened f) rest)) h
    ∙ ap (λ (p : Option Pending). (option_to_list (asked form) ++ completed p rest) ++ at_last last (open_after_all p rest)) none
    ∙ append_assoc (option_to_list (asked form)) (completed None rest) (at_last last (open_after_all None rest))
