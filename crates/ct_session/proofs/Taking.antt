-- Lines that are taken one after another, and the run that they are a part of.
use Rattle.std.proofs.Common.{◌≡◌, ◌≢◌, ℕ, Bool, true, false, ◌||◌, List, [], ◌∷◌, ◌++◌, Option, Some, None, refl, sym, ap, ◌∙◌, subst, append_assoc}
use Rattle.std.specs.Prelude.{fold}
use Rattle.std.proofs.Math.Bool.{or-false}
use Rattle.std.specs.Option.{option_to_list}
use Rattle.std.specs.Io.KnownBytes.{Appends}
use Rattle.ct_io.specs.Lines.{lines_of}
use Rattle.ct_commands.specs.Command.{completed, completed_by, open_after, open_after_all, cut_off, commands_of}
use Rattle.ct_commands.specs.declared.command.Command.{Command}
use Rattle.ct_commands.specs.declared.command_reader.Pending.{Pending}
use Rattle.ct_commands.proofs.Naming.{names-append, completed-named, cut_off-named, open_after_all-named}
use Rattle.ct_piece.specs.Piece.{PieceValue}
use Rattle.ct_piece.proofs.StandingLemmas.{AreStanding-none}
use Rattle.ct_session.specs.Reply.{pieces_after}
use Rattle.ct_session.specs.Run.{AnswersCommands, IsRun}
use Rattle.ct_session.specs.Serve.{WritesRunPrefix, WritesRunProperPrefix}
use Rattle.ct_session.specs.Inside.Serving.{Follows}
use Rattle.ct_session.specs.Inside.State.{State, fresh_state, TakesLines}
use Rattle.ct_session.proofs.Asked.{answers_all}
use Rattle.ct_session.proofs.Answering.{append_answers}
use Rattle.ct_session.proofs.Existence.{AreStanding-fold, some_answers}

-- a list that is not empty with others after it
left_over : (back more : List ℕ) → back ≢ [] → back ++ more ≢ []
left_over [] more some e = some refl
left_over (b ∷ back) more some e = absurd cc

or_assoc : (a b c : Bool) → ((a || b) || c) ≡ (a || (b || c))
or_assoc true b c = refl
or_assoc false b c = refl

-- the commands of lines, and of others after them
completed-append : (pending : Option Pending) (ls ms : List (List ℕ)) → completed pending (ls ++ ms) ≡ completed pending ls ++ completed (open_after_all pending ls) ms
completed-append pending [] ms = refl
completed-append pending (l ∷ ls) ms =
    ap (λ (cs : List Command). option_to_list (completed_by pending l) ++ cs) (completed-append (open_after pending l) ls ms)
    ∙ sym (append_assoc (option_to_list (completed_by pending l)) (completed (open_after pending l) ls) (completed (open_after_all (open_after pending l) ls) ms))

open_after_all-append : (pending : Option Pending) (ls ms : List (List ℕ)) → open_after_all pending (ls ++ ms) ≡ open_after_all (open_after_all pending ls) ms
open_after_all-append pending [] ms = refl
open_after_all-append pending (l ∷ ls) ms = open_after_all-append (open_after pending l) ls ms

pieces-append : (pieces : List PieceValue) (cs ds : List Command) → fold pieces_after pieces (cs ++ ds) ≡ fold pieces_after (fold pieces_after pieces cs) ds
pieces-append pieces [] ds = refl
pieces-append pieces (c ∷ cs) ds = pieces-append (pieces_after pieces c) cs ds

-- no lines were taken
pub takes_none : (s : State) → TakesLines s s [] []
takes_none s = record {
  refused = false;
  answers = record { replies = []; are = tt; texts = refl; mark = refl };
  pieces = refl;
  pending = refl;
  mark = sym (or-false s.refused);
}

-- lines were taken, and then others
pub takes_more : (r s t : State) (ls ms : List (List ℕ)) (text more : List ℕ) → TakesLines r s ls text → TakesLines s t ms more → TakesLines r t (ls ++ ms) (text ++ more)
takes_more r s t ls ms text more h k =
    let first = completed r.pending ls in
    let pending = λ (p : Option Pending). completed p ms in
    let second : completed s.pending ms ≡ completed (open_after_all r.pending ls) ms = ap pending h.pending in
    let all = completed-append r.pending ls ms in
    let later : AnswersCommands (fold pieces_after r.pieces first) (completed (open_after_all r.pending ls) ms) more k.refused =
    subst (λ (cs : List Command). AnswersCommands (fold pieces_after r.pieces first) cs more k.refused) second
    (subst (λ (pieces : List PieceValue). AnswersCommands pieces (completed s.pending ms) more k.refused) h.pieces k.answers) in
    record {
      refused = h.refused || k.refused;
      answers = subst (λ (cs : List Command). AnswersCommands r.pieces cs (text ++ more) (h.refused || k.refused)) (sym all)
          (append_answers r.pieces first (completed (open_after_all r.pending ls) ms) text more h.refused k.refused h.answers later);
      pieces = k.pieces ∙ ap (λ (pieces : List PieceValue). fold pieces_after pieces (completed s.pending ms)) h.pieces ∙ ap (λ (cs : List Command). fold pieces_after (fold pieces_after r.pieces first) cs) second
          ∙ sym (pieces-append r.pieces first (completed (open_after_all r.pending ls) ms)) ∙ ap (λ (cs : List Command). fold pieces_after r.pieces cs) (sym all);
      pending = k.pending ∙ ap (λ (p : Option Pending). open_after_all p ms) h.pending ∙ sym (open_after_all-append r.pending ls ms);
      mark = k.mark ∙ ap (λ (b : Bool). b || k.refused) h.mark ∙ or_assoc r.refused h.refused k.refused;
    }

-- the lines of an input were taken, and its end
pub whole_run : (s : State) (lines : List (List ℕ)) (text more : List ℕ) (b : Bool) → TakesLines fresh_state s lines text → AnswersCommands s.pieces (cut_off s.pending) more b
    → AnswersCommands [] (commands_of lines) (text ++ more) (s.refused || b)
whole_run s lines text more b h k =
    let last : AnswersCommands (fold pieces_after [] (completed None lines)) (cut_off (open_after_all None lines)) more b =
    subst (λ (p : Option Pending). AnswersCommands (fold pieces_after [] (completed None lines)) (cut_off p) more b) h.pending
    (subst (λ (pieces : List PieceValue). AnswersCommands pieces (cut_off s.pending) more b) h.pieces k) in
    subst (λ (m : Bool). AnswersCommands [] (commands_of lines) (text ++ more) (m || b)) (sym h.mark)
    (append_answers [] (completed None lines) (cut_off (open_after_all None lines)) text more h.refused b h.answers last)

-- lines were taken, and the lines after them are those of no input in particular: there is a run that goes on
pub goes_on : (s : State) (lines rest : List (List ℕ)) (text : List ℕ) → TakesLines fresh_state s lines text → (more : List ℕ) × (refused : Bool) × AnswersCommands [] (commands_of (lines ++ rest)) (text ++ more) refused
goes_on s lines rest text h =
    let first = completed None lines in
    let pending = open_after_all None lines in
    let others = completed pending rest ++ cut_off (open_after_all pending rest) in
    let named = names-append (completed pending rest) (cut_off (open_after_all pending rest)) (completed-named pending rest (open_after_all-named None lines tt)) (cut_off-named (open_after_all pending rest)) in
    let some = some_answers (fold pieces_after [] first) others named (AreStanding-fold [] first (completed-named None lines tt) AreStanding-none) in
    let spelled : commands_of (lines ++ rest) ≡ first ++ others =
    ap (λ (cs : List Command). cs ++ cut_off (open_after_all None (lines ++ rest))) (completed-append None lines rest)
    ∙ ap (λ (p : Option Pending). (first ++ completed pending rest) ++ cut_off p) (open_after_all-append None lines rest)
    ∙ append_assoc first (completed pending rest) (cut_off (open_after_all pending rest)) in (
      some.0,
      h.refused || some.1,
      subst (λ (cs : List Command). AnswersCommands [] cs (text ++ some.0) (h.refused || some.1)) (sym spelled)
          (append_answers [] first others text some.0 h.refused some.1 h.answers some.2),
    )

-- of the replies to the lines that were taken, a part was written
pub prefix_written : (left now old new : Option (List ℕ)) (s : State) (lines : List (List ℕ)) (text front back : List ℕ) → TakesLines fresh_state s lines text → Follows left now lines → text ≡ front ++ back
    → Appends old new front → WritesRunPrefix left old new
prefix_written None now old new s lines text front back h follows parts written = tt
prefix_written (Some input) None old new s lines text front back h follows parts written = absurd follows
prefix_written (Some input) (Some bytes) old new s lines text front back h follows parts written =
    let on = goes_on s lines (lines_of bytes) text h in
    let run : IsRun input (text ++ on.0) on.1 = answers_all _ (lines_of input) (text ++ on.0) on.1 (subst (λ (ls : List (List ℕ)). AnswersCommands [] (commands_of ls) (text ++ on.0) on.1) (sym follows) on.2) in
    (text ++ on.0, on.1, run, (front, back ++ on.0, ap (λ (t : List ℕ). t ++ on.0) parts ∙ append_assoc front back on.0, written))

-- and some of them is left
pub proper_prefix_written : (left now old new : Option (List ℕ)) (s : State) (lines : List (List ℕ)) (text front back : List ℕ) → TakesLines fresh_state s lines text → Follows left now lines
    → text ≡ front ++ back → back ≢ [] → Appends old new front → WritesRunProperPrefix left old new
proper_prefix_written None now old new s lines text front back h follows parts some written = tt
proper_prefix_written (Some input) None old new s lines text front back h follows parts some written = absurd follows
proper_prefix_written (Some input) (Some bytes) old new s lines text front back h follows parts some written =
    let on = goes_on s lines (lines_of bytes) text h in
    let run : IsRun input (text ++ on.0) on.1 = answers_all _ (lines_of input) (text ++ on.0) on.1 (subst (λ (ls : List (List ℕ)). AnswersCommands [] (commands_of ls) (text ++ on.0) on.1) (sym follows) on.2) in
    (text ++ on.0, on.1, run, (front, back ++ on.0, ap (λ (t : List ℕ). t ++ on.0) parts ∙ append_assoc front back on.0, left_over back on.0 some, written))
