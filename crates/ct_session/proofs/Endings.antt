-- Each way in which the serving of a session ends.
use Rattle.std.proofs.Common.{◌≡◌, ◌≢◌, ℕ, ◌+◌, ◌<◌, ◌≤◌, Bool, true, false, List, [], ◌∷◌, ◌++◌, Option, None, Some, Result, Ok, Err, refl, sym, ap, ◌∙◌, subst, arith, inl, inr, ◌⊎◌, ◌||◌, append-nil}
use Rattle.std.proofs.lemmas.Bool.Decides.{leb_tells}
use Rattle.std.specs.Io.KnownBytes.{Appends, IsAtEnd}
use Rattle.std.proofs.KnownBytes.{Appends-nil}
use Rattle.ct_io.specs.Lines.{IsLine}
use Rattle.ct_io.specs.declared.TheConstants.{MAX_INPUT, MAX_READ}
use Rattle.ct_io.specs.declared.line_fault.LineFault.{LineFault}
use Rattle.ct_io.specs.declared.line_fault.LineFault.TheVariants as line_fault
use Rattle.ct_io.specs.Faults.{Rose}
use Rattle.ct_io.specs.Reader.{Reader, Takes, NeedsNoRead, IsLineThenRead, fresh_reader, input_of}
use Rattle.ct_io.specs.Buffered.{Buffered, Puts, Stops}
use Rattle.ct_io.specs.Told.{AppendsProperPrefix, fault_of_read}
use Rattle.ct_io.proofs.BufferedLemmas.{all_written}
use Rattle.ct_commands.specs.Command.{cut_off}
use Rattle.ct_io.specs.declared.run_fault.RunFault.{RunFault}
use Rattle.ct_io.specs.declared.run_fault.RunFault.TheVariants.{Read, Write, TooLong, Memory}
use Rattle.ct_session.specs.Run.{PutsAnswers}
use Rattle.ct_session.specs.Serve.{WritesRun, WritesRunPrefix, WritesRunProperPrefix, AnswersTaken, AnswersButLastBytes, WritesWholeReplies}
use Rattle.ct_session.specs.Ending.{Ends}
use Rattle.ct_session.specs.Inside.Serving.{Devices, EndsAt, LeavesFew, Took, Serves}
use Rattle.ct_session.specs.Inside.State.{State, fresh_state}
use Rattle.ct_session.specs.Inside.Writing.{BreaksOff, IsReady}
use Rattle.ct_session.proofs.FewLeft.{few_at_start, few_at_fault}
use Rattle.ct_session.proofs.Serving.{with_sink, begins, after_writing, took_more, not_long, long_exactly, one_read, all_taken, prefix_of, proper_prefix_of, weaker_prefix, prefix_of_run, run_of, run_in_part, nothing_gathered, nothing_gathered_long, taken_answered, last_bytes_unanswered, whole_replies}

ends_memory : (left now old new : Option (List ℕ)) (reads reads' writes writes' n : ℕ) → WritesRunPrefix left old new → WritesWholeReplies left now old new → Took left now n → n ≤ MAX_INPUT → Ends (Err Memory) left now old new reads reads' writes writes'
ends_memory left now old new reads reads' writes writes' n part whole took few = record {
  run = tt;
  to_end = tt;
  prefix = part;
  written_in_part = λ e. absurd cc;
  taken_answered = λ e. absurd cc;
  last_bytes_unanswered = λ e. absurd cc;
  whole_replies = λ e. whole;
  read_fault = λ e. absurd cc;
  write_fault = λ e. absurd cc;
  too_long = not_long _ left now n took few (λ e. cc);
  one_read_past = one_read left now n took (omega (arith, few));
}

ends_write : (left now old new : Option (List ℕ)) (reads reads' writes writes' n : ℕ) → WritesRunProperPrefix left old new → Rose writes writes' → Took left now n → n ≤ MAX_INPUT → Ends (Err Write) left now old new reads reads' writes writes'
ends_write left now old new reads reads' writes writes' n part rose took few = record {
  run = tt;
  to_end = tt;
  prefix = weaker_prefix left old new part;
  written_in_part = λ e. part;
  taken_answered = λ e. absurd cc;
  last_bytes_unanswered = λ e. absurd cc;
  whole_replies = λ e. absurd cc;
  read_fault = λ e. absurd cc;
  write_fault = λ e. rose;
  too_long = not_long _ left now n took few (λ e. cc);
  one_read_past = one_read left now n took (omega (arith, few));
}

ends_read : (left now old new : Option (List ℕ)) (reads reads' writes writes' n : ℕ) → WritesRunPrefix left old new → AnswersTaken left now old new → Rose reads reads' → Took left now n → n ≤ MAX_INPUT → Ends (Err Read) left now old new reads reads' writes writes'
ends_read left now old new reads reads' writes writes' n part answered rose took few = record {
  run = tt;
  to_end = tt;
  prefix = part;
  written_in_part = λ e. absurd cc;
  taken_answered = λ e. answered;
  last_bytes_unanswered = λ e. absurd cc;
  whole_replies = λ e. absurd cc;
  read_fault = λ e. rose;
  write_fault = λ e. absurd cc;
  too_long = not_long _ left now n took few (λ e. cc);
  one_read_past = one_read left now n took (omega (arith, few));
}

ends_long : (left now old new : Option (List ℕ)) (reads reads' writes writes' n : ℕ) → WritesRunPrefix left old new → AnswersButLastBytes left now old new → Took left now n → MAX_INPUT < n → n ≤ MAX_INPUT + MAX_READ → Ends (Err TooLong) left now old new reads reads' writes writes'
ends_long left now old new reads reads' writes writes' n part answered took many few = record {
  run = tt;
  to_end = tt;
  prefix = part;
  written_in_part = λ e. absurd cc;
  taken_answered = λ e. absurd cc;
  last_bytes_unanswered = λ e. answered;
  whole_replies = λ e. absurd cc;
  read_fault = λ e. absurd cc;
  write_fault = λ e. absurd cc;
  too_long = long_exactly _ left now n took (λ e. many) (λ above. refl);
  one_read_past = one_read left now n took few;
}

ends_run : (left now old new : Option (List ℕ)) (reads reads' writes writes' n : ℕ) (refused : Bool) → WritesRun left old new refused → IsAtEnd now → Took left now n → n ≤ MAX_INPUT → Ends (Ok refused) left now old new reads reads' writes writes'
ends_run left now old new reads reads' writes writes' n refused run at took few = record {
  run = run;
  to_end = at;
  prefix = prefix_of_run left old new refused run;
  written_in_part = λ e. absurd cc;
  taken_answered = λ e. absurd cc;
  last_bytes_unanswered = λ e. absurd cc;
  whole_replies = λ e. absurd cc;
  read_fault = λ e. absurd cc;
  write_fault = λ e. absurd cc;
  too_long = not_long _ left now n took few (λ e. cc);
  one_read_past = one_read left now n took (omega (arith, few));
}

rose_later : (a b c : ℕ) → a ≤ b → Rose b c → Rose a c
rose_later a b c h (inl more) = inl (omega (arith, h, more))
rose_later a b c h (inr last) = inr last

-- before anything was taken
pub ends_at_once : (left held : Option (List ℕ)) (reads writes : ℕ) → Ends (Err Memory) left left held held reads reads writes writes
ends_at_once left held reads writes =
    let b : Devices = record { left = left; reads = reads; sink = record { held = held; gathered = []; faults = writes } } in
    let h = begins b refl in
    ends_memory left left held held reads reads writes writes 0 (prefix_of fresh_reader fresh_state b b held [] [] h refl (Appends-nil held))
    (whole_replies fresh_reader fresh_state b b left held h (few_at_start left) (Appends-nil held)) h.took (omega arith)

-- the gathered replies could not be written
pub ends_unwritten : (r : Reader) (s : State) (b n : Devices) (k : Buffered) (f : RunFault) → Serves r s b n → Stops n.sink k [] → f ≡ Write → EndsAt (Err f) b (with_sink n k)
ends_unwritten r s b n k f h w is =
    subst (λ (e : RunFault). EndsAt (Err e) b (with_sink n k)) (sym is)
    (ends_write b.left n.left b.sink.held k.held b.reads n.reads b.sink.faults k.faults r.taken
    (proper_prefix_of r s b n k.held h (subst (AppendsProperPrefix n.sink.held k.held) (append-nil n.sink.gathered) w.part))
    (rose_later b.sink.faults n.sink.faults k.faults h.write_count w.rose) h.took h.within)

-- memory ran out, the gathered replies are written, and so many bytes were taken
pub ends_broken : (r : Reader) (s : State) (b n : Devices) (next : Option (List ℕ)) (reads : ℕ) (k : Buffered) (m : ℕ) (result : RunFault) → Serves r s b n
    → Took b.left next m → m ≤ MAX_INPUT → LeavesFew (input_of r n.left) next → BreaksOff Memory result n.sink k → EndsAt (Err result) b (record { left = next; reads = reads; sink = k })
ends_broken r s b n next reads k m result h took few rest (inl w) =
    let wrote = all_written n.sink k [] w.1 w.2 in
    let all = subst (Appends n.sink.held k.held) (append-nil n.sink.gathered) wrote in
    subst (λ (e : RunFault). EndsAt (Err e) b (record { left = next; reads = reads; sink = k })) (sym w.0)
    (ends_memory b.left next b.sink.held k.held b.reads reads b.sink.faults k.faults m (prefix_of r s b n k.held n.sink.gathered [] h (sym (append-nil n.sink.gathered)) all)
    (whole_replies r s b n next k.held h rest all) took few)
ends_broken r s b n next reads k m result h took few rest (inr w) =
    subst (λ (e : RunFault). EndsAt (Err e) b (record { left = next; reads = reads; sink = k })) (sym w.0)
    (ends_write b.left next b.sink.held k.held b.reads reads b.sink.faults k.faults m
    (proper_prefix_of r s b n k.held h (subst (AppendsProperPrefix n.sink.held k.held) (append-nil n.sink.gathered) w.1.part))
    (rose_later b.sink.faults n.sink.faults k.faults h.write_count w.1.rose) took few)

-- nothing is left of an empty text
no_part : (held new : Option (List ℕ)) → AppendsProperPrefix held new [] → ⊥
no_part held new part = empty part.0 part.1 part.2 part.3 where
  empty : (front back : List ℕ) → [] ≡ front ++ back → back ≢ [] → ⊥
  empty [] back e some = some (sym e)
  empty (b ∷ front) back e some = cc

below : (limit n : ℕ) → (limit < n → ⊥) → n ≤ limit
below limit n h = elim (leb_tells n limit) [ inl t ↦ t.1 | inr t ↦ absurd (h t.1) ]

pub risen : (was : Option LineFault) (a b : ℕ) → was ≡ None → (was ≡ Some line_fault.ReadFault) ⊎ Rose a b → Rose a b
risen was a b none (inl stays) = absurd (let e = sym none ∙ stays in cc)
risen was a b none (inr rose) = rose

-- what a call that gave a fault says, where no fault stood before it
pub record Faulted (r q : Reader) (reads reads' : ℕ) (fault : LineFault) : Type 0 where
  pub rose : fault ≡ line_fault.ReadFault → Rose reads reads'
  pub line : fault ≡ line_fault.ReadFault → IsLine q.held
  pub long : (t : ℕ) → fault ≡ line_fault.TooLong t → (t ≡ q.taken) × (MAX_INPUT < t)
  pub part : (t : ℕ) → fault ≡ line_fault.TooLong t → IsLineThenRead q.held
  pub above : MAX_INPUT < q.taken → fault ≡ line_fault.TooLong q.taken
  pub few : q.taken ≤ MAX_INPUT + MAX_READ
  pub looks : fault ≡ line_fault.Memory → (q.held ≡ r.held) ⊎ IsLineThenRead q.held
  pub unread : NeedsNoRead r.held r.ended → q.taken ≡ r.taken
  pub lasts : r.ended ≡ true → q.ended ≡ true
  pub going : fault ≢ line_fault.Memory → q.ended ≡ false

-- the replies that were gathered are none, and so all is written where a read failed
ends_unread : (r q : Reader) (s : State) (b n : Devices) (next : Option (List ℕ)) (reads : ℕ) (k : Buffered)
    → Serves r s b n → n.sink.gathered ≡ [] → Takes r q n.left next (Err line_fault.ReadFault) → Faulted r q n.reads reads line_fault.ReadFault → Puts n.sink k [] → k.gathered ≡ []
    → EndsAt (Err Read) b (record { left = next; reads = reads; sink = k })
ends_unread r q s b n next reads k h none takes f w empty =
    let unended = f.going (λ e. cc) in
    let h' = after_writing r s b n k h w in
    ends_read b.left next b.sink.held k.held b.reads reads b.sink.faults k.faults q.taken
    (prefix_of r s b (with_sink n k) k.held [] [] h' empty (Appends-nil k.held))
    (taken_answered r q s b (with_sink n k) next line_fault.ReadFault h' empty takes (f.line refl) f.lasts unended)
    (rose_later b.reads n.reads reads h.read_count (f.rose refl)) (took_more b.left n.left next r.taken q.taken takes.0 h.took takes.1 takes.2)
    (below MAX_INPUT q.taken (λ many. let e = f.above many in cc))

-- and where too many bytes came
ends_too_long : (r q : Reader) (s : State) (b n : Devices) (next : Option (List ℕ)) (reads : ℕ) (k : Buffered) (t : ℕ)
    → Serves r s b n → n.sink.gathered ≡ [] → Takes r q n.left next (Err (line_fault.TooLong t)) → Faulted r q n.reads reads (line_fault.TooLong t) → Puts n.sink k [] → k.gathered ≡ []
    → EndsAt (Err TooLong) b (record { left = next; reads = reads; sink = k })
ends_too_long r q s b n next reads k t h none takes f w empty =
    let unended = f.going (λ e. cc) in
    let many = f.long t refl in
    let above : MAX_INPUT < q.taken = omega (arith, many.0, many.1) in
    let h' = after_writing r s b n k h w in
    ends_long b.left next b.sink.held k.held b.reads reads b.sink.faults k.faults q.taken
    (prefix_of r s b (with_sink n k) k.held [] [] h' empty (Appends-nil k.held))
    (last_bytes_unanswered r q s b (with_sink n k) next (line_fault.TooLong t) h' empty takes (f.part t refl) f.lasts unended)
    (took_more b.left n.left next r.taken q.taken takes.0 h.took takes.1 takes.2) above f.few

-- the gathered replies are none where a read came
none_gathered : (r q : Reader) (s : State) (b n : Devices) (next : Option (List ℕ)) (reads : ℕ) (fault : LineFault)
    → Serves r s b n → IsReady n.sink.gathered r → Takes r q n.left next (Err fault) → Faulted r q n.reads reads fault → fault ≢ line_fault.Memory → n.sink.gathered ≡ []
none_gathered r q s b n next reads line_fault.ReadFault h ready takes f other = nothing_gathered r q n.sink.gathered n.left next line_fault.ReadFault ready takes (f.line refl) f.lasts (f.going other)
none_gathered r q s b n next reads (line_fault.TooLong t) h ready takes f other =
    let many = f.long t refl in
    nothing_gathered_long r q n.sink.gathered ready f.unread h.within (omega (arith, many.0, many.1))
none_gathered r q s b n next reads line_fault.Memory h ready takes f other = absurd (other refl)

-- where nothing is gathered, no write fails
no_stop : (a c : Buffered) → a.gathered ≡ [] → Stops a c [] → ⊥
no_stop a c none w = no_part a.held c.held (subst (AppendsProperPrefix a.held c.held) (ap (λ (t : List ℕ). t ++ []) none) w.part)

-- the reader gave a fault
pub ends_fault : (r q : Reader) (s : State) (b n : Devices) (next : Option (List ℕ)) (reads : ℕ) (k : Buffered) (fault : LineFault) (result : RunFault)
    → Serves r s b n → IsReady n.sink.gathered r → Takes r q n.left next (Err fault) → Faulted r q n.reads reads fault
    → BreaksOff (fault_of_read fault) result n.sink k → EndsAt (Err result) b (record { left = next; reads = reads; sink = k })
ends_fault r q s b n next reads k line_fault.ReadFault result h ready takes f (inl w) =
    subst (λ (e : RunFault). EndsAt (Err e) b (record { left = next; reads = reads; sink = k })) (sym w.0)
    (ends_unread r q s b n next reads k h (none_gathered r q s b n next reads line_fault.ReadFault h ready takes f (λ e. cc)) takes f w.1 w.2)
ends_fault r q s b n next reads k (line_fault.TooLong t) result h ready takes f (inl w) =
    subst (λ (e : RunFault). EndsAt (Err e) b (record { left = next; reads = reads; sink = k })) (sym w.0)
    (ends_too_long r q s b n next reads k t h (none_gathered r q s b n next reads (line_fault.TooLong t) h ready takes f (λ e. cc)) takes f w.1 w.2)
ends_fault r q s b n next reads k line_fault.ReadFault result h ready takes f (inr w) =
    absurd (no_stop n.sink k (none_gathered r q s b n next reads line_fault.ReadFault h ready takes f (λ e. cc)) w.1)
ends_fault r q s b n next reads k (line_fault.TooLong t) result h ready takes f (inr w) =
    absurd (no_stop n.sink k (none_gathered r q s b n next reads (line_fault.TooLong t) h ready takes f (λ e. cc)) w.1)
ends_fault r q s b n next reads k line_fault.Memory result h ready takes f w =
    ends_broken r s b n next reads k q.taken result h (took_more b.left n.left next r.taken q.taken takes.0 h.took takes.1 takes.2)
    (below MAX_INPUT q.taken (λ many. let e = f.above many in cc)) (few_at_fault r q n.left next h.few takes (f.looks refl)) w

-- all was taken, and the rest of the replies was written
pub ends_well : (r : Reader) (s : State) (b n : Devices) (k : Buffered) (text : List ℕ) (all m : Bool) → Serves r s b n
    → r.held ≡ [] → r.ended ≡ true → PutsAnswers s.pieces (cut_off s.pending) m [] text → all ≡ (s.refused || m) → Puts n.sink k text → k.gathered ≡ [] → EndsAt (Ok all) b (with_sink n k)
ends_well r s b n k text all m h none ended puts mark w empty =
    ends_run b.left n.left b.sink.held k.held b.reads n.reads b.sink.faults k.faults r.taken all
    (run_of r s b n k.held text all m h (all_taken r n.left none ended) puts mark (all_written n.sink k text w empty)) (h.ended ended) h.took h.within

-- all was taken, and the rest of the replies could not be written
pub ends_last_unwritten : (r : Reader) (s : State) (b n : Devices) (k : Buffered) (text : List ℕ) (m : Bool) (f : RunFault) → Serves r s b n
    → r.held ≡ [] → r.ended ≡ true → PutsAnswers s.pieces (cut_off s.pending) m [] text → Stops n.sink k text → f ≡ Write → EndsAt (Err f) b (with_sink n k)
ends_last_unwritten r s b n k text m f h none ended puts w is =
    subst (λ (e : RunFault). EndsAt (Err e) b (with_sink n k)) (sym is)
    (ends_write b.left n.left b.sink.held k.held b.reads n.reads b.sink.faults k.faults r.taken (run_in_part r s b n k.held text m h (all_taken r n.left none ended) puts w.part)
    (rose_later b.sink.faults n.sink.faults k.faults h.write_count w.rose) h.took h.within)

-- some of the gathered replies were written, and the reader is the same
pub readied : (r q : Reader) (s : State) (b n : Devices) (k : Buffered) → Serves r s b n → q ≡ r → Puts n.sink k [] → Serves q s b (with_sink n k)
readied r q s b n k h same w = subst (λ (x : Reader). Serves x s b (with_sink n k)) (sym same) (after_writing r s b n k h w)

pub err_is : {X : Type 0} (f f' : LineFault) → ◌≡◌ {A = Result X LineFault} (Err f) (Err f') → f ≡ f'
err_is {X} f f' e = cc
