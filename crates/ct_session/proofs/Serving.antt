-- What lasts from line to line while a session is served.
use Rattle.std.proofs.Common.{◌≡◌, ◌≢◌, ℕ, ◌+◌, ◌<◌, ◌≤◌, Bool, true, false, List, [], ◌∷◌, ◌++◌, length, Option, None, Some, Result, Ok, Err, Vec, refl, sym, ap, ◌∙◌, subst, arith, inl, inr, ◌||◌, ◌↔◌, if◌then◌else◌, length-append, append_assoc, append-nil}
use Rattle.std.specs.Prelude.{All, Contains}
use Rattle.std.specs.declared.alloc.Global.{Global}
use Rattle.std.specs.Io.KnownBytes.{Appends, Consumes, IsAtEnd, prepend_known}
use Rattle.std.proofs.KnownBytes.{Appends-nil, Appends-trans, Consumes-nil, Consumes-trans}
use Rattle.std.proofs.lemmas.Bool.Decides.{leb_tells}
use Rattle.std.proofs.lemmas.Grind.{flat_map-append}
use Rattle.std.proofs.lemmas.List.Elements.{All-nil, All-push, All-contains, Contains-append_left}
use Rattle.ct_text.specs.declared.document_lines.TheConstants.{LINE_FEED}
use Rattle.ct_io.specs.Lines.{lines_of, IsLine, ended_lines}
use Rattle.ct_io.proofs.LinesLemmas.{whole_lines-ended}
use Rattle.ct_io.specs.declared.TheConstants.{MAX_INPUT, MAX_READ}
use Rattle.ct_io.specs.declared.line_fault.LineFault.{LineFault}
use Rattle.ct_io.specs.declared.line_fault.LineFault.TheVariants as line_fault
use Rattle.ct_io.specs.Reader.{Reader, fresh_reader, input_of, LosesFirstLine, Takes, NeedsNoRead, IsLineThenRead}
use Rattle.ct_io.proofs.ReaderLemmas.{Takes-line, Takes-within}
use Rattle.ct_io.specs.Buffered.{Buffered, Puts, Stops}
use Rattle.ct_io.proofs.BufferedLemmas.{after_all}
use Rattle.ct_io.specs.Told.{WhereTold, IsAboveLimit, AppendsProperPrefix}
use Rattle.ct_commands.specs.Command.{commands_of, cut_off}
use Rattle.ct_session.specs.Run.{AnswersCommands, AnswersAll, IsRun, PutsAnswers}
use Rattle.ct_session.specs.Serve.{WritesRun, WritesRunPrefix, WritesRunProperPrefix, AnswersLines, AnswersTaken, AnswersButLastBytes, WritesWholeReplies}
use Rattle.ct_session.specs.Inside.Serving.{Devices, Follows, LeavesFew, Took, Given, Serves, unserved}
use Rattle.ct_session.specs.Inside.State.{State, fresh_state, TakesLines}
use Rattle.ct_session.specs.Inside.Writing.{IsReady}
use Rattle.ct_session.proofs.Asked.{answers_all, whole_answered}
use Rattle.ct_session.proofs.Taking.{takes_none, takes_more, whole_run, prefix_written, proper_prefix_written}

-- ---- the bytes that were taken

took_none : (left : Option (List ℕ)) → Took left left 0
took_none left = ([], Consumes-nil left, refl)

pub took_more : (a b c : Option (List ℕ)) (m n : ℕ) (bytes : List ℕ) → Took a b m → Consumes b c bytes → n ≡ m + length bytes → Took a c n
took_more a b c m n bytes h k e =
    let both = length-append h.0 bytes in
    (h.0 ++ bytes, Consumes-trans a b c h.0 bytes h.1 k, omega (arith, both, h.2))

told : (before after : List ℕ) (n : ℕ) → Took (Some before) (Some after) n → length before ≡ n + length after
told before after n h = let both = ap length h.1 ∙ length-append h.0 after in omega (arith, both, h.2)

-- a fact is said exactly where the bytes that were taken are above the limit
pub long_exactly : (P : Type 0) (a b : Option (List ℕ)) (n : ℕ) → Took a b n → (P → MAX_INPUT < n) → (MAX_INPUT < n → P) → WhereTold a b (λ before after. P ↔ IsAboveLimit before after)
long_exactly P None b n h to from = tt
long_exactly P (Some before) None n h to from = absurd h.1
long_exactly P (Some before) (Some after) n h to from =
    let e = told before after n h in
    (λ long. let above = to long in omega (arith, e, above), λ above. from (omega (arith, e, above)))

-- a fact that does not hold, after bytes within the limit
pub not_long : (P : Type 0) (a b : Option (List ℕ)) (n : ℕ) → Took a b n → n ≤ MAX_INPUT → (P → ⊥) → WhereTold a b (λ before after. P ↔ IsAboveLimit before after)
not_long P a b n h within other = long_exactly P a b n h (λ long. absurd (other long)) (λ above. absurd (omega arith))

-- at most one read past the limit was taken
pub one_read : (a b : Option (List ℕ)) (n : ℕ) → Took a b n → n ≤ MAX_INPUT + MAX_READ → WhereTold a b (λ before after. length before ≤ length after + MAX_INPUT + MAX_READ)
one_read None b n h few = tt
one_read (Some before) None n h few = absurd h.1
one_read (Some before) (Some after) n h few = let e = told before after n h in omega (arith, e, few)

-- a call that gave a line, or none, took no bytes above the limit
pub within_limit : {X : Type 0} (x : X) (n : ℕ) → (MAX_INPUT < n → ◌≡◌ {A = Result X LineFault} (Ok x) (Err (line_fault.TooLong n))) → n ≤ MAX_INPUT
within_limit {X} x n h = elim (leb_tells n MAX_INPUT) [ inl t ↦ t.1 | inr t ↦ let e = h t.1 in absurd (cc) ]

-- each line takes the reader further: fewer bytes of the limit are left
line_advances : (r q : Reader) (now next : Option (List ℕ)) (line : Vec ℕ Global) → Takes r q now next (Ok (Some line)) → length r.held ≤ r.taken → q.taken ≤ MAX_INPUT
    → (unserved q < unserved r) × (length q.held ≤ q.taken)
line_advances r q now next line h inside within =
    let given = Takes-line r q now next line h in
    let held = Takes-within r q now next (Ok (Some line)) h inside in
    (omega (arith, given, held), held)

pub advances : (r q : Reader) (s : State) (b n : Devices) (next : Option (List ℕ)) (line : Vec ℕ Global) → Serves r s b n → Takes r q n.left next (Ok (Some line)) → q.taken ≤ MAX_INPUT
    → unserved q < unserved r
advances r q s b n next line h takes within = (line_advances r q n.left next line takes h.inside within).0

-- once the end was seen, the source is at its end
pub at_end : {S : Type 0} (left : S → Option (List ℕ)) (old new : S) (was is : Bool) → (was ≡ true → IsAtEnd (left old)) → (was ≡ false → is ≡ true → IsAtEnd (left new))
    → (was ≡ true → new ≡ old) → is ≡ true → IsAtEnd (left new)
at_end left old new true is before now same e = subst (λ s. IsAtEnd (left s)) (sym (same refl)) (before refl)
at_end left old new false is before now same e = now refl e

-- ---- the steps

-- the input of a reader that took nothing is what the source has left
follows_none : (left : Option (List ℕ)) → Follows left (prepend_known [] left) []
follows_none None = tt
follows_none (Some input) = refl

-- before the first line
pub begins : (b : Devices) → b.sink.gathered ≡ [] → Serves fresh_reader fresh_state b b
begins b none = record {
  lines = [];
  written = [];
  takes = subst (TakesLines fresh_state fresh_state []) (sym none) (takes_none fresh_state);
  wrote = Appends-nil b.sink.held;
  follows = follows_none b.left;
  given = λ _. record { bytes = []; taken = Consumes-nil b.left; divided = refl; whole = All-nil IsLine };
  took = took_none b.left;
  within = omega arith;
  inside = omega arith;
  few = omega arith;
  ended = λ e. absurd cc;
  healthy = refl;
  read_count = omega arith;
  write_count = omega arith;
}

-- the same source, and another sink
abbrev pub with_sink : Devices → Buffered → Devices
with_sink n k = record { left = n.left; reads = n.reads; sink = k }

-- a sink for which a text is gathered too
abbrev pub with_text : Buffered → List ℕ → Buffered
with_text b text = record { held = b.held; gathered = b.gathered ++ text; faults = b.faults }

-- some of what is gathered was written
pub after_writing : (r : Reader) (s : State) (b n : Devices) (k : Buffered) → Serves r s b n → Puts n.sink k [] → Serves r s b (with_sink n k)
after_writing r s b n k h w =
    let before = h.write_count in
    let counted = w.counted in
    record {
      lines = h.lines;
      written = h.written ++ w.written;
      takes = subst (TakesLines fresh_state s h.lines)
          (ap (λ (t : List ℕ). h.written ++ t) (sym (append-nil n.sink.gathered) ∙ w.parted) ∙ sym (append_assoc h.written w.written k.gathered)) h.takes;
      wrote = Appends-trans b.sink.held n.sink.held k.held _ _ h.wrote w.wrote;
      follows = h.follows;
      given = h.given;
      took = h.took;
      within = h.within;
      inside = h.inside;
      few = h.few;
      ended = h.ended;
      healthy = h.healthy;
      read_count = h.read_count;
      write_count = omega (arith, before, counted);
    }

-- a text that is put is first gathered, and then some of it may be written
pub puts_later : (a c : Buffered) (text : List ℕ) → Puts a c text → Puts (with_text a text) c []
puts_later a c text w = record { written = w.written; parted = append-nil (a.gathered ++ text) ∙ w.parted; wrote = w.wrote; counted = w.counted }

pub stops_later : (a c : Buffered) (text : List ℕ) → Stops a c text → Stops (with_text a text) c []
stops_later a c text w = record { part = subst (AppendsProperPrefix a.held c.held) (sym (append-nil (a.gathered ++ text))) w.part; rose = w.rose; counted = w.counted }

follows_on : (left now next : Option (List ℕ)) (lines : List (List ℕ)) (line : List ℕ) → Follows left now lines → LosesFirstLine now next line → Follows left next (lines ++ line ∷ [])
follows_on None now next lines line h e = tt
follows_on (Some input) None next lines line h e = absurd h
follows_on (Some input) (Some before) None lines line h e = absurd e
follows_on (Some input) (Some before) (Some after) lines line h e = h ∙ ap (λ (ls : List (List ℕ)). lines ++ ls) e ∙ sym (append_assoc lines (line ∷ []) (lines_of after))

-- one more line was given, which a line feed ends
given_on : (r q : Reader) (left now next : Option (List ℕ)) (lines : List (List ℕ)) (line : Vec ℕ Global) → Given left now lines r.held → Takes r q now next (Ok (Some line)) → q.ended ≡ false → Given left next (lines ++ line.items ∷ []) q.held
given_on r q left now next lines line h takes going =
    let fed = λ (l : List ℕ). l ++ LINE_FEED ∷ [] in
    let more = takes.3.1 going in
    record {
      bytes = h.bytes ++ takes.0;
      taken = Consumes-trans left now next h.bytes takes.0 h.taken takes.1;
      divided = ap (λ (b : List ℕ). b ++ takes.0) h.divided ∙ append_assoc (ended_lines lines) r.held takes.0 ∙ ap (λ (b : List ℕ). ended_lines lines ++ b) more
          ∙ ap (λ (b : List ℕ). ended_lines lines ++ b) (sym (append_assoc line.items (LINE_FEED ∷ []) q.held)) ∙ sym (append_assoc (ended_lines lines) (fed line.items) q.held)
          ∙ ap (λ (b : List ℕ). b ++ q.held) (ap (λ (b : List ℕ). ended_lines lines ++ b) (sym (append-nil (fed line.items))) ∙ sym (flat_map-append fed lines (line.items ∷ [])));
      whole = All-push IsLine lines line.items h.whole takes.3.0.0;
    }

not_ended : (was is : Bool) → (was ≡ true → is ≡ true) → is ≡ false → was ≡ false
not_ended true is h e = let yes = h refl in absurd cc
not_ended false is h e = refl

-- a line was given and taken
pub serves_on : (r q : Reader) (s t : State) (b n : Devices) (next : Option (List ℕ)) (reads : ℕ) (line : Vec ℕ Global) (text : List ℕ)
    → Serves r s b n → LosesFirstLine (input_of r n.left) (input_of q next) line.items → Takes r q n.left next (Ok (Some line)) → q.taken ≤ MAX_INPUT
    → (r.ended ≡ true → q.ended ≡ true) → (q.ended ≡ true → IsAtEnd next) → q.fault ≡ None → n.reads ≤ reads → length q.held ≤ MAX_READ → TakesLines s t (line.items ∷ []) text
    → Serves q t b (record { left = next; reads = reads; sink = with_text n.sink text })
serves_on r q s t b n next reads line text h loses takes within lasts ended healthy counted few puts =
    let advance = line_advances r q n.left next line takes h.inside within in
    let before = h.read_count in
    record {
      lines = h.lines ++ line.items ∷ [];
      written = h.written;
      takes = subst (TakesLines fresh_state t (h.lines ++ line.items ∷ [])) (append_assoc h.written n.sink.gathered text)
          (takes_more fresh_state s t h.lines (line.items ∷ []) (h.written ++ n.sink.gathered) text h.takes puts);
      wrote = h.wrote;
      follows = follows_on b.left (input_of r n.left) (input_of q next) h.lines line.items h.follows loses;
      given = λ going. given_on r q b.left n.left next h.lines line (h.given (not_ended r.ended q.ended lasts going)) takes going;
      took = took_more b.left n.left next r.taken q.taken takes.0 h.took takes.1 takes.2;
      within = within;
      inside = advance.1;
      few = few;
      ended = ended;
      healthy = healthy;
      read_count = omega (arith, before, counted);
      write_count = h.write_count;
    }

first_of_two : (b : Bool) (x y : Option (List ℕ)) → b ≡ true → (if b then x else y) ≡ x
first_of_two true x y e = refl
first_of_two false x y e = absurd cc

-- at the end of the input a reader has what it holds
input_of-ended : (r : Reader) (now : Option (List ℕ)) → r.ended ≡ true → input_of r now ≡ Some r.held
input_of-ended r now e = first_of_two r.ended (Some r.held) (prepend_known r.held now) e

-- and where it holds nothing, nothing is left
pub all_taken : (r : Reader) (now : Option (List ℕ)) → r.held ≡ [] → r.ended ≡ true → IsAtEnd (input_of r now)
all_taken r now none ended = subst IsAtEnd (sym (input_of-ended r now ended)) none

follows_to_end : (left now : Option (List ℕ)) (lines : List (List ℕ)) (held : List ℕ) → Follows left now lines → IsAtEnd now → held ≡ [] → Follows left (Some held) lines
follows_to_end None now lines held h at none = tt
follows_to_end (Some input) None lines held h at none = absurd h
follows_to_end (Some input) (Some before) lines held h at none = h ∙ ap (λ (b : List ℕ). lines ++ lines_of b) (at ∙ sym none)

-- no line was left, and all of the input was taken
pub serves_to_end : (r q : Reader) (s : State) (b n : Devices) (next : Option (List ℕ)) (reads : ℕ) → Serves r s b n
    → IsAtEnd (input_of r n.left) → Takes r q n.left next (Ok None) → q.taken ≤ MAX_INPUT → q.held ≡ [] → q.ended ≡ true → IsAtEnd next → q.fault ≡ None → n.reads ≤ reads
    → Serves q s b (record { left = next; reads = reads; sink = n.sink })
serves_to_end r q s b n next reads h at takes within none ended done healthy counted =
    let before = h.read_count in
    record {
      lines = h.lines;
      written = h.written;
      takes = h.takes;
      wrote = h.wrote;
      follows = subst (λ (i : Option (List ℕ)). Follows b.left i h.lines) (sym (input_of-ended q next ended)) (follows_to_end b.left (input_of r n.left) h.lines q.held h.follows at none);
      given = λ going. absurd cc;
      took = took_more b.left n.left next r.taken q.taken takes.0 h.took takes.1 takes.2;
      within = within;
      inside = Takes-within r q n.left next (Ok None) takes h.inside;
      few = omega (arith, ap length none);
      ended = λ e. done;
      healthy = healthy;
      read_count = omega (arith, before, counted);
      write_count = h.write_count;
    }

-- ---- the ends

-- of the replies that are gathered a prefix was written
pub prefix_of : (r : Reader) (s : State) (b n : Devices) (new : Option (List ℕ)) (front back : List ℕ) → Serves r s b n
    → n.sink.gathered ≡ front ++ back → Appends n.sink.held new front → WritesRunPrefix b.left b.sink.held new
prefix_of r s b n new front back h parts written =
    prefix_written b.left (input_of r n.left) b.sink.held new s h.lines (h.written ++ n.sink.gathered) (h.written ++ front) back h.takes h.follows
    (ap (λ (t : List ℕ). h.written ++ t) parts ∙ sym (append_assoc h.written front back)) (Appends-trans b.sink.held n.sink.held new _ _ h.wrote written)

-- and some of them is left
pub proper_prefix_of : (r : Reader) (s : State) (b n : Devices) (new : Option (List ℕ)) → Serves r s b n
    → AppendsProperPrefix n.sink.held new n.sink.gathered → WritesRunProperPrefix b.left b.sink.held new
proper_prefix_of r s b n new h part =
    proper_prefix_written b.left (input_of r n.left) b.sink.held new s h.lines (h.written ++ n.sink.gathered) (h.written ++ part.0) part.1 h.takes h.follows
    (ap (λ (t : List ℕ). h.written ++ t) part.2 ∙ sym (append_assoc h.written part.0 part.1)) part.3 (Appends-trans b.sink.held n.sink.held new _ _ h.wrote part.4)

-- a prefix of which some is left is one
pub weaker_prefix : (left old new : Option (List ℕ)) → WritesRunProperPrefix left old new → WritesRunPrefix left old new
weaker_prefix None old new h = tt
weaker_prefix (Some input) old new h = (h.0, h.1, h.2, (h.3.0, h.3.1, h.3.2, h.3.4))

-- a whole run is a prefix of one
pub prefix_of_run : (left old new : Option (List ℕ)) (refused : Bool) → WritesRun left old new refused → WritesRunPrefix left old new
prefix_of_run None old new refused h = tt
prefix_of_run (Some input) old new refused h = (h.0, refused, h.1, (h.0, [], sym (append-nil h.0), h.2))

-- the lines of an input, all of which were taken
all_lines : (input now : List ℕ) (lines : List (List ℕ)) → lines_of input ≡ lines ++ lines_of now → now ≡ [] → lines_of input ≡ lines
all_lines input now lines h e = h ∙ ap (λ (b : List ℕ). lines ++ lines_of b) e ∙ append-nil lines

-- the end of the input was taken: the replies are those of a run
run_answers : (left now : Option (List ℕ)) (s : State) (lines : List (List ℕ)) (text more : List ℕ) (b : Bool) → TakesLines fresh_state s lines text → Follows left now lines → IsAtEnd now → AnswersCommands s.pieces (cut_off s.pending) more b
    → (input : List ℕ) → left ≡ Some input → IsRun input (text ++ more) (s.refused || b)
run_answers None now s lines text more b h follows at k input e = absurd cc
run_answers (Some other) None s lines text more b h follows at k input e = absurd follows
run_answers (Some other) (Some bytes) s lines text more b h follows at k input e =
    let same : other ≡ input = cc in
    subst (λ (i : List ℕ). IsRun i (text ++ more) (s.refused || b)) same
    (answers_all _ (lines_of other) (text ++ more) (s.refused || b)
    (subst (λ (ls : List (List ℕ)). AnswersCommands [] (commands_of ls) (text ++ more) (s.refused || b)) (sym (all_lines other bytes lines follows at)) (whole_run s lines text more b h k)))

-- the whole run was written
run_written : (left now old new : Option (List ℕ)) (s : State) (lines : List (List ℕ)) (text more : List ℕ) (all b : Bool) → TakesLines fresh_state s lines text → Follows left now lines → IsAtEnd now
    → AnswersCommands s.pieces (cut_off s.pending) more b → all ≡ (s.refused || b) → Appends old new (text ++ more) → WritesRun left old new all
run_written None now old new s lines text more all b h follows at k mark wrote = tt
run_written (Some input) now old new s lines text more all b h follows at k mark wrote =
    (text ++ more, subst (IsRun input (text ++ more)) (sym mark) (run_answers (Some input) now s lines text more b h follows at k input refl), wrote)

pub run_of : (r : Reader) (s : State) (b n : Devices) (new : Option (List ℕ)) (text : List ℕ) (all m : Bool) → Serves r s b n → IsAtEnd (input_of r n.left)
    → PutsAnswers s.pieces (cut_off s.pending) m [] text → all ≡ (s.refused || m) → Appends n.sink.held new (n.sink.gathered ++ text) → WritesRun b.left b.sink.held new all
run_of r s b n new text all m h at puts mark written =
    let more = puts.0 in
    let last = subst (λ (t : List ℕ). Appends n.sink.held new (n.sink.gathered ++ t)) puts.2 written in
    run_written b.left (input_of r n.left) b.sink.held new s h.lines (h.written ++ n.sink.gathered) more all m h.takes h.follows at puts.1 mark
    (subst (Appends b.sink.held new) (sym (append_assoc h.written n.sink.gathered more)) (Appends-trans b.sink.held n.sink.held new h.written (n.sink.gathered ++ more) h.wrote last))

-- of the whole run a proper prefix was written
run_written_in_part : (left now old new : Option (List ℕ)) (s : State) (lines : List (List ℕ)) (text more : List ℕ) (b : Bool) → TakesLines fresh_state s lines text → Follows left now lines → IsAtEnd now
    → AnswersCommands s.pieces (cut_off s.pending) more b → AppendsProperPrefix old new (text ++ more) → WritesRunProperPrefix left old new
run_written_in_part None now old new s lines text more b h follows at k part = tt
run_written_in_part (Some input) now old new s lines text more b h follows at k part = (text ++ more, s.refused || b, run_answers (Some input) now s lines text more b h follows at k input refl, part)

pub run_in_part : (r : Reader) (s : State) (b n : Devices) (new : Option (List ℕ)) (text : List ℕ) (m : Bool) → Serves r s b n → IsAtEnd (input_of r n.left)
    → PutsAnswers s.pieces (cut_off s.pending) m [] text → AppendsProperPrefix n.sink.held new (n.sink.gathered ++ text) → WritesRunProperPrefix b.left b.sink.held new
run_in_part r s b n new text m h at puts part =
    let more = puts.0 in
    let last = subst (λ (t : List ℕ). AppendsProperPrefix n.sink.held new (n.sink.gathered ++ t)) puts.2 part in
    run_written_in_part b.left (input_of r n.left) b.sink.held new s h.lines (h.written ++ n.sink.gathered) more m h.takes h.follows at puts.1
    (subst (AppendsProperPrefix b.sink.held new) (sym (append_assoc h.written n.sink.gathered more)) (after_all b.sink.held n.sink.held new h.written (n.sink.gathered ++ more) h.wrote last))

-- ---- a source that failed, and one that is too long

-- nothing is gathered where a read failed, since the reader had no line and had not seen the end
pub nothing_gathered : (r q : Reader) (g : List ℕ) (now next : Option (List ℕ)) (fault : LineFault) → IsReady g r → Takes r q now next (Err fault) → IsLine q.held → (r.ended ≡ true → q.ended ≡ true) → q.ended ≡ false → g ≡ []
nothing_gathered r q g now next fault (inl none) takes line lasts going = none
nothing_gathered r q g now next fault (inr (inl there)) takes line lasts going =
    let feed = subst (λ (b : List ℕ). Contains b LINE_FEED) (sym takes.3) (Contains-append_left r.held takes.0 LINE_FEED there) in
    absurd (All-contains (λ b. b ≢ LINE_FEED) q.held LINE_FEED line feed refl)
nothing_gathered r q g now next fault (inr (inr ended)) takes line lasts going = let yes = lasts ended in absurd cc

-- nor where too many bytes came, since a read came
pub nothing_gathered_long : (r q : Reader) (g : List ℕ) → IsReady g r → (NeedsNoRead r.held r.ended → q.taken ≡ r.taken) → r.taken ≤ MAX_INPUT → MAX_INPUT < q.taken → g ≡ []
nothing_gathered_long r q g (inl none) unread few many = none
nothing_gathered_long r q g (inr no_need) unread few many = let same = unread no_need in absurd (omega (arith, same, few, many))

-- the bytes that were taken, where the reader had not seen the end
taken_now : (r q : Reader) (left now next : Option (List ℕ)) (lines : List (List ℕ)) (fault : LineFault) → Given left now lines r.held → Takes r q now next (Err fault) → Given left next lines q.held
taken_now r q left now next lines fault h takes = record {
  bytes = h.bytes ++ takes.0;
  taken = Consumes-trans left now next h.bytes takes.0 h.taken takes.1;
  divided = ap (λ (b : List ℕ). b ++ takes.0) h.divided ∙ append_assoc (ended_lines lines) r.held takes.0 ∙ ap (λ (b : List ℕ). ended_lines lines ++ b) (sym takes.3);
  whole = h.whole;
}

-- the replies to the whole lines of the bytes
lines_answered : (s : State) (lines : List (List ℕ)) (text tail : List ℕ) (old held : Option (List ℕ)) → TakesLines fresh_state s lines text → All IsLine lines → IsLine tail → Appends old held text
    → AnswersLines (ended_lines lines ++ tail) old held
lines_answered s lines text tail old held h whole line wrote =
    (text, h.refused, subst (λ (ls : List (List ℕ)). AnswersAll [] ls text h.refused) (sym (whole_lines-ended lines tail whole line)) (whole_answered lines text h.refused h.answers), wrote)

answers_taken : (left next old held : Option (List ℕ)) (s : State) (lines : List (List ℕ)) (text tail : List ℕ) → Given left next lines tail → TakesLines fresh_state s lines text → IsLine tail → Appends old held text
    → AnswersTaken left next old held
answers_taken None next old held s lines text tail given h line wrote = tt
answers_taken (Some input) next old held s lines text tail given h line wrote =
    (given.bytes, given.taken, subst (λ (b : List ℕ). AnswersLines b old held) (sym given.divided) (lines_answered s lines text tail old held h given.whole line wrote))

-- what was written answers the lines that were taken, where nothing is gathered
all_answered : (r : Reader) (s : State) (b n : Devices) (h : Serves r s b n) → n.sink.gathered ≡ [] → TakesLines fresh_state s h.lines h.written
all_answered r s b n h none = subst (TakesLines fresh_state s h.lines) (ap (λ (t : List ℕ). h.written ++ t) none ∙ append-nil h.written) h.takes

pub taken_answered : (r q : Reader) (s : State) (b n : Devices) (next : Option (List ℕ)) (fault : LineFault) → Serves r s b n
    → n.sink.gathered ≡ [] → Takes r q n.left next (Err fault) → IsLine q.held → (r.ended ≡ true → q.ended ≡ true) → q.ended ≡ false → AnswersTaken b.left next b.sink.held n.sink.held
taken_answered r q s b n next fault h none takes line lasts going =
    answers_taken b.left next b.sink.held n.sink.held s h.lines h.written q.held
    (taken_now r q b.left n.left next h.lines fault (h.given (not_ended r.ended q.ended lasts going)) takes) (all_answered r s b n h none) line h.wrote

answers_but_last : (left next old held : Option (List ℕ)) (s : State) (lines : List (List ℕ)) (text tail : List ℕ) → Given left next lines tail → TakesLines fresh_state s lines text → IsLineThenRead tail → Appends old held text
    → AnswersButLastBytes left next old held
answers_but_last None next old held s lines text tail given h part wrote = tt
answers_but_last (Some input) next old held s lines text tail given h part wrote =
    let front = ended_lines lines ++ part.0 in
    let spelled : given.bytes ≡ front ++ part.1 = given.divided ∙ ap (λ (b : List ℕ). ended_lines lines ++ b) part.2 ∙ sym (append_assoc (ended_lines lines) part.0 part.1) in
    (front, part.1, subst (Consumes (Some input) next) spelled given.taken, part.4, lines_answered s lines text part.0 old held h given.whole part.3 wrote)

pub last_bytes_unanswered : (r q : Reader) (s : State) (b n : Devices) (next : Option (List ℕ)) (fault : LineFault) → Serves r s b n
    → n.sink.gathered ≡ [] → Takes r q n.left next (Err fault) → IsLineThenRead q.held → (r.ended ≡ true → q.ended ≡ true) → q.ended ≡ false → AnswersButLastBytes b.left next b.sink.held n.sink.held
last_bytes_unanswered r q s b n next fault h none takes part lasts going =
    answers_but_last b.left next b.sink.held n.sink.held s h.lines h.written q.held
    (taken_now r q b.left n.left next h.lines fault (h.given (not_ended r.ended q.ended lasts going)) takes) (all_answered r s b n h none) part h.wrote

-- where all that was gathered is written, what was written is whole replies
replies_written : (left now next old new : Option (List ℕ)) (s : State) (lines : List (List ℕ)) (text : List ℕ) → TakesLines fresh_state s lines text → Follows left now lines → LeavesFew now next → Appends old new text → WritesWholeReplies left next old new
replies_written None now next old new s lines text h follows few wrote = tt
replies_written (Some input) None next old new s lines text h follows few wrote = absurd follows
replies_written (Some input) (Some rest) next old new s lines text h follows few wrote = (lines, lines_of rest, text, h.refused, follows, few, whole_answered lines text h.refused h.answers, wrote)

pub whole_replies : (r : Reader) (s : State) (b n : Devices) (next new : Option (List ℕ)) → Serves r s b n
    → LeavesFew (input_of r n.left) next → Appends n.sink.held new n.sink.gathered → WritesWholeReplies b.left next b.sink.held new
whole_replies r s b n next new h few written =
    replies_written b.left (input_of r n.left) next b.sink.held new s h.lines (h.written ++ n.sink.gathered) h.takes h.follows few (Appends-trans b.sink.held n.sink.held new _ _ h.wrote written)
