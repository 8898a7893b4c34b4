-- Empty lines that a reader holds are passed over where no submission is open: they complete no command.
use Rattle.std.proofs.Common.{◌≡◌, ℕ, ◌<◌, ◌≤◌, Bool, true, false, replicate, List, [], ◌∷◌, ◌++◌, length, Option, None, Some, refl, sym, ap, ◌∙◌, subst, arith, inl, inr, if◌then◌else◌, length-append, append_assoc, append-nil}
use Rattle.std.specs.Prelude.{fold}
use Rattle.std.specs.Io.KnownBytes.{prepend_known}
use Rattle.std.proofs.Math.Bool.{or-false}
use Rattle.std.proofs.lemmas.Grind.{flat_map-append}
use Rattle.std.proofs.lemmas.List.Elements.{All-append}
use Rattle.ct_text.specs.declared.document_lines.TheConstants.{LINE_FEED}
use Rattle.ct_io.specs.Lines.{lines_of, IsLine, ended_lines}
use Rattle.ct_io.proofs.LinesLemmas.{lines_of-feeds, ended_lines-feeds, IsLine-empty}
use Rattle.ct_io.specs.Reader.{Reader}
use Rattle.ct_commands.specs.Command.{completed, open_after_all}
use Rattle.ct_commands.specs.declared.command.Command.{Command}
use Rattle.ct_commands.specs.declared.command_reader.Pending.{Pending}
use Rattle.ct_commands.proofs.Forms.{completed-empty, open_after-empty}
use Rattle.ct_session.specs.Reply.{pieces_after}
use Rattle.ct_session.specs.Run.{AnswersCommands}
use Rattle.ct_session.specs.Inside.Serving.{Devices, Follows, Given, PassesOver, Serves, unserved}
use Rattle.ct_session.specs.Inside.State.{State, fresh_state, TakesLines}
use Rattle.ct_session.proofs.Taking.{takes_more}

-- so many empty lines
abbrev empty_lines : ℕ → List (List ℕ)
empty_lines count = replicate count []

-- they are taken, and nothing is answered
takes_empty : (s : State) (count : ℕ) → s.pending ≡ None → TakesLines s s (empty_lines count) []
takes_empty s count none =
    let nothing : completed s.pending (empty_lines count) ≡ [] = ap (λ (p : Option Pending). completed p (empty_lines count)) none ∙ completed-empty count in
    record {
      refused = false;
      answers = subst (λ (cs : List Command). AnswersCommands s.pieces cs [] false) (sym nothing) (record { replies = []; are = tt; texts = refl; mark = refl });
      pieces = ap (λ (cs : List Command). fold pieces_after s.pieces cs) (sym nothing);
      pending = none ∙ sym (ap (λ (p : Option Pending). open_after_all p (empty_lines count)) none ∙ open_after-empty count);
      mark = sym (or-false s.refused);
    }

follows_told : (lines : List (List ℕ)) (input held rest : List ℕ) (count : ℕ) → held ≡ replicate count LINE_FEED ++ rest → lines_of input ≡ lines ++ lines_of held → lines_of input ≡ (lines ++ empty_lines count) ++ lines_of rest
follows_told lines input held rest count e h =
    h ∙ ap (λ (bytes : List ℕ). lines ++ lines_of bytes) e ∙ ap (λ (ls : List (List ℕ)). lines ++ ls) (lines_of-feeds count rest) ∙ sym (append_assoc lines (empty_lines count) (lines_of rest))

-- the lines that are left lose them
follows_past : (left now : Option (List ℕ)) (ended : Bool) (lines : List (List ℕ)) (held rest : List ℕ) (count : ℕ) → held ≡ replicate count LINE_FEED ++ rest
    → Follows left (if ended then Some held else prepend_known held now) lines → Follows left (if ended then Some rest else prepend_known rest now) (lines ++ empty_lines count)
follows_past None now ended lines held rest count e h = tt
follows_past (Some input) now true lines held rest count e h = follows_told lines input held rest count e h
follows_past (Some input) None false lines held rest count e h = absurd h
follows_past (Some input) (Some more) false lines held rest count e h =
    follows_told lines input (held ++ more) (rest ++ more) count (ap (λ (bytes : List ℕ). bytes ++ more) e ∙ append_assoc (replicate count LINE_FEED) rest more) h

-- the bytes that were taken have them among their lines
given_past : (left now : Option (List ℕ)) (lines : List (List ℕ)) (held rest : List ℕ) (count : ℕ) → held ≡ replicate count LINE_FEED ++ rest → Given left now lines held → Given left now (lines ++ empty_lines count) rest
given_past left now lines held rest count e h = record {
  bytes = h.bytes;
  taken = h.taken;
  divided = h.divided ∙ ap (λ (b : List ℕ). ended_lines lines ++ b) e ∙ sym (append_assoc (ended_lines lines) (replicate count LINE_FEED) rest)
      ∙ ap (λ (b : List ℕ). (ended_lines lines ++ b) ++ rest) (sym (ended_lines-feeds count))
      ∙ ap (λ (b : List ℕ). b ++ rest) (sym (flat_map-append (λ (l : List ℕ). l ++ LINE_FEED ∷ []) lines (empty_lines count)));
  whole = All-append IsLine lines (empty_lines count) h.whole (IsLine-empty count);
}

-- a reader without them
abbrev holding : Reader → List ℕ → Reader
holding r rest = record r { held = rest }

past : (r : Reader) (rest : List ℕ) (count : ℕ) (s : State) (b n : Devices) → Serves r s b n
    → s.pending ≡ None → r.held ≡ replicate count LINE_FEED ++ rest → Serves (holding r rest) s b n × (unserved (holding r rest) ≤ unserved r)
past r rest count s b n h none e =
    let size = ap length e ∙ length-append (replicate count LINE_FEED) rest in
    let inside = h.inside in
    let text = h.written ++ n.sink.gathered in (
      record {
        lines = h.lines ++ empty_lines count;
        written = h.written;
        takes = subst (TakesLines fresh_state s (h.lines ++ empty_lines count)) (append-nil text) (takes_more fresh_state s s h.lines (empty_lines count) text [] h.takes (takes_empty s count none));
        wrote = h.wrote;
        follows = follows_past b.left n.left r.ended h.lines r.held rest count e h.follows;
        given = λ going. given_past b.left n.left h.lines r.held rest count e (h.given going);
        took = h.took;
        within = h.within;
        inside = omega (arith, size, inside);
        few = let few = h.few in omega (arith, size, few);
        ended = h.ended;
        healthy = h.healthy;
        read_count = h.read_count;
        write_count = h.write_count;
      },
      omega (arith, size, inside),
    )

-- all that was served is served, and no more is left
pub passed_over : (r q : Reader) (s : State) (b n : Devices) → Serves r s b n → PassesOver s r q → Serves q s b n × (unserved q ≤ unserved r)
passed_over r q s b n h (inl p) =
    subst (λ (x : Reader). Serves x s b n × (unserved x ≤ unserved r)) (sym p.1.2) (past r q.held p.1.0 s b n h p.0 p.1.1)
passed_over r q s b n h (inr same) = subst (λ (x : Reader). Serves x s b n × (unserved x ≤ unserved r)) (sym same) (h, omega arith)

-- fewer than what is no more than before
pub sooner : (q p r : ℕ) → q < p → p ≤ r → q < r
sooner q p r h k = omega (arith, h, k)
