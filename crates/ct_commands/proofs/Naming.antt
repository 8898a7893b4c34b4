-- The ids that commands name are ids.
use Rattle.std.proofs.Common.{◌≡◌, ℕ, zero, suc, Bool, true, false, cond, List, [], ◌∷◌, ◌++◌, Option, Some, None, IfSome}
use Rattle.std.specs.Prelude.{codes}
use Rattle.std.specs.List.{AllByRecursion}
use Rattle.std.specs.Str.{bytes_eq}
use Rattle.std.specs.Option.{option_map, option_to_list, unwrap_or}
use Rattle.std.proofs.lemmas.Bool.{cond_both}
use Rattle.ct_words.specs.declared.claim.Side.{Side}
use Rattle.ct_names.specs.Id.{is_id}
use Rattle.ct_text.specs.Line.{words_of}
use Rattle.ct_text.specs.Number.{number_of}
use Rattle.ct_text.specs.EntryNumbers.{entry_numbers_of}
use Rattle.ct_text.specs.TableNumbers.{table_numbers_of}
use Rattle.ct_text.specs.Gathering.{gathered}
use Rattle.ct_text.specs.declared.entry_numbers.EntryNumbers.{EntryNumbers}
use Rattle.ct_text.specs.declared.table_numbers.TableNumbers.{TableNumbers}
use Rattle.ct_text.specs.declared.gathering.Gathered.{Gathered}
use Rattle.ct_text.specs.declared.gathering.Gathered.TheVariants.{More, Whole}
use Rattle.ct_text.specs.declared.gathering.Extent.TheVariants.{ToEnd}
use Rattle.ct_text.specs.Side.{side_of_word}
use Rattle.ct_commands.specs.Form.{form_of, id_of, lines_form, submit_form, withdrawal, alone, explanation_of, explanation, command_of, words_form}
use Rattle.ct_commands.specs.Command.{opened, going_on, open_after, asked, finished, completed_by, completed, open_after_all, cut_off, commands_of}
use Rattle.ct_commands.specs.declared.form.Form.{Form}
use Rattle.ct_commands.specs.declared.form.Form.TheVariants.{Nothing, Submit}
use Rattle.ct_commands.specs.declared.form.Form.TheVariants as form
use Rattle.ct_commands.specs.declared.command.Command.{Command}
use Rattle.ct_commands.specs.declared.command.Command.TheVariants as command
use Rattle.ct_commands.specs.declared.command_reader.Pending.{Pending}

-- an id, where there is one, is an id of the commands
abbrev pub IsNameOrNone : Option (List ℕ) → Type 0
IsNameOrNone id = IfSome id (λ i. is_id i ≡ true)

-- the same of a command
abbrev pub CommandIsNamed : Command → Type 0
CommandIsNamed (command.Submission id document) = IsNameOrNone id
CommandIsNamed (command.Withdraw id) = is_id id ≡ true
CommandIsNamed (command.WithdrawAll id) = is_id id ≡ true
CommandIsNamed c = Unit {0}

-- of what a line asks for
abbrev FormIsNamed : Form → Type 0
FormIsNamed (Submit id extent) = IsNameOrNone id
FormIsNamed (form.Whole c) = CommandIsNamed c
FormIsNamed Nothing = Unit {0}

-- and of a submission that is open, if one is
abbrev pub PendingIsNamed : Option Pending → Type 0
PendingIsNamed None = Unit {0}
PendingIsNamed (Some p) = IsNameOrNone p.id

id_of-named : (word : List ℕ) → IsNameOrNone (id_of word)
id_of-named word = cond_both (is_id word) (Some word) None IsNameOrNone (λ e. e) (λ e. tt)

lines_form-named : (id : Option (List ℕ)) (count : Option ℕ) → IsNameOrNone id → FormIsNamed (lines_form id count)
lines_form-named id None h = tt
lines_form-named id (Some zero) h = tt
lines_form-named id (Some (suc more)) h = h

submit_form-named : (words : List (List ℕ)) → FormIsNamed (submit_form words)
submit_form-named [] = tt
submit_form-named (id ∷ []) = id_of-named id
submit_form-named (id ∷ word ∷ []) = tt
submit_form-named (id ∷ word ∷ count ∷ []) =
    cond_both (bytes_eq word (codes "lines")) (lines_form (id_of id) (number_of count)) (Submit None ToEnd) FormIsNamed (λ e. lines_form-named (id_of id) (number_of count) (id_of-named id)) (λ e. tt)
submit_form-named (id ∷ word ∷ count ∷ more ∷ words) = tt

-- the same of a command, if there is one
abbrev AnyIsNamed : Option Command → Type 0
AnyIsNamed None = Unit {0}
AnyIsNamed (Some c) = CommandIsNamed c

any_chosen : (b : Bool) (one other : Option Command) → AnyIsNamed one → AnyIsNamed other → AnyIsNamed (cond b one other)
any_chosen true one other h k = h
any_chosen false one other h k = k

withdraw-named : (id : Option (List ℕ)) → IsNameOrNone id → AnyIsNamed (option_map command.Withdraw id)
withdraw-named None h = tt
withdraw-named (Some id) h = h

withdraw_all-named : (id : Option (List ℕ)) → IsNameOrNone id → AnyIsNamed (option_map command.WithdrawAll id)
withdraw_all-named None h = tt
withdraw_all-named (Some id) h = h

withdrawal-named : (words : List (List ℕ)) → AnyIsNamed (withdrawal words)
withdrawal-named [] = tt
withdrawal-named (id ∷ []) = withdraw-named (id_of id) (id_of-named id)
withdrawal-named (id ∷ word ∷ []) = any_chosen (bytes_eq word (codes "all")) _ _ (withdraw_all-named (id_of id) (id_of-named id)) tt
withdrawal-named (id ∷ word ∷ more ∷ words) = tt

show-named : (numbers : Option EntryNumbers) → AnyIsNamed (option_map command.Show numbers)
show-named None = tt
show-named (Some numbers) = tt

table-named : (numbers : Option TableNumbers) → AnyIsNamed (option_map command.Table numbers)
table-named None = tt
table-named (Some numbers) = tt

explanation_of-named : (side : Option Side) (numbers : Option EntryNumbers) → AnyIsNamed (explanation_of side numbers)
explanation_of-named None None = tt
explanation_of-named None (Some numbers) = tt
explanation_of-named (Some side) None = tt
explanation_of-named (Some side) (Some numbers) = tt

explanation-named : (words : List (List ℕ)) → AnyIsNamed (explanation words)
explanation-named [] = tt
explanation-named (side ∷ numbers) = explanation_of-named (side_of_word side) (entry_numbers_of numbers)

list-named : (numbers : Option EntryNumbers) → AnyIsNamed (option_map command.List numbers)
list-named None = tt
list-named (Some numbers) = tt

alone-named : (c : Command) (words : List (List ℕ)) → CommandIsNamed c → AnyIsNamed (alone c words)
alone-named c [] h = h
alone-named c (word ∷ words) h = tt

command_of-named : (name : List ℕ) (words : List (List ℕ)) → AnyIsNamed (command_of name words)
command_of-named name words =
    any_chosen (bytes_eq name (codes "withdraw")) _ _ (withdrawal-named words)
    (any_chosen (bytes_eq name (codes "show")) _ _ (show-named (entry_numbers_of words))
    (any_chosen (bytes_eq name (codes "table")) _ _ (table-named (table_numbers_of words))
    (any_chosen (bytes_eq name (codes "explain")) _ _ (explanation-named words)
    (any_chosen (bytes_eq name (codes "list")) _ _ (list-named (entry_numbers_of words))
    (any_chosen (bytes_eq name (codes "ledger")) _ _ (alone-named command.Ledger words tt)
    (any_chosen (bytes_eq name (codes "dump")) _ _ (alone-named command.Dump words tt) tt))))))

or_unknown-named : (c : Option Command) → AnyIsNamed c → CommandIsNamed (unwrap_or c command.Unknown)
or_unknown-named None h = tt
or_unknown-named (Some c) h = h

chosen : (b : Bool) (one other : Form) → FormIsNamed one → FormIsNamed other → FormIsNamed (cond b one other)
chosen true one other h k = h
chosen false one other h k = k

words_form-named : (words : List (List ℕ)) → FormIsNamed (words_form words)
words_form-named [] = tt
words_form-named (name ∷ words) =
    chosen (bytes_eq name (codes "submit")) _ _ (submit_form-named words) (or_unknown-named (command_of name words) (command_of-named name words))

form_of-named : (line : List ℕ) → FormIsNamed (form_of line)
unfolding form_of
form_of-named line = chosen _ Nothing (words_form (words_of line)) tt (words_form-named (words_of line))

opened-named : (form : Form) → FormIsNamed form → PendingIsNamed (opened form)
opened-named Nothing h = tt
opened-named (Submit id extent) h = h
opened-named (form.Whole c) h = tt

going_on-named : (id : Option (List ℕ)) (after : Gathered) → IsNameOrNone id → PendingIsNamed (going_on id after)
going_on-named id (More document) h = h
going_on-named id (Whole text) h = tt

open_after-named : (pending : Option Pending) (line : List ℕ) → PendingIsNamed pending → PendingIsNamed (open_after pending line)
open_after-named None line h = opened-named (form_of line) (form_of-named line)
open_after-named (Some p) line h = going_on-named p.id (gathered p.document line) h

-- and of commands
abbrev pub AreNamed : List Command → Type 0
AreNamed cs = AllByRecursion CommandIsNamed cs

pub names-append : (xs ys : List Command) → AreNamed xs → AreNamed ys → AreNamed (xs ++ ys)
names-append [] ys h k = k
names-append (x ∷ xs) ys h k = (h.0, names-append xs ys h.1 k)

asked-named : (form : Form) → FormIsNamed form → AreNamed (option_to_list (asked form))
asked-named Nothing h = tt
asked-named (Submit id extent) h = tt
asked-named (form.Whole c) h = (h, tt)

finished-named : (id : Option (List ℕ)) (after : Gathered) → IsNameOrNone id → AreNamed (option_to_list (finished id after))
finished-named id (More document) h = tt
finished-named id (Whole text) h = (h, tt)

completed_by-named : (pending : Option Pending) (line : List ℕ) → PendingIsNamed pending → AreNamed (option_to_list (completed_by pending line))
completed_by-named None line h = asked-named (form_of line) (form_of-named line)
completed_by-named (Some p) line h = finished-named p.id (gathered p.document line) h

pub completed-named : (pending : Option Pending) (lines : List (List ℕ)) → PendingIsNamed pending → AreNamed (completed pending lines)
completed-named pending [] h = tt
completed-named pending (line ∷ lines) h =
    names-append (option_to_list (completed_by pending line)) (completed (open_after pending line) lines) (completed_by-named pending line h)
    (completed-named (open_after pending line) lines (open_after-named pending line h))

pub cut_off-named : (pending : Option Pending) → AreNamed (cut_off pending)
cut_off-named None = tt
cut_off-named (Some p) = (tt, tt)

-- the commands of lines have ids that are ids
pub commands_of-named : (lines : List (List ℕ)) → AreNamed (commands_of lines)
commands_of-named lines = names-append (completed None lines) (cut_off (open_after_all None lines)) (completed-named None lines tt) (cut_off-named (open_after_all None lines))

-- so does the submission that is open after them
pub open_after_all-named : (pending : Option Pending) (lines : List (List ℕ)) → PendingIsNamed pending → PendingIsNamed (open_after_all pending lines)
open_after_all-named pending [] h = h
open_after_all-named pending (line ∷ lines) h = open_after_all-named (open_after pending line) lines (open_after-named pending line h)
