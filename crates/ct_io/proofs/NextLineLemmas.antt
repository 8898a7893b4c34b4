-- What a call of a line reader comes to, where it answers a fault again, and where it does not.
use Rattle.std.proofs.Common.{◌≡◌, ◌≢◌, ℕ, ◌+◌, ◌<◌, ◌≤◌, Bool, true, false, List, [], ◌∷◌, ◌++◌, length, Option, Some, None, Ok, Err, OnOk, OnErr, IfErr, if◌then◌else◌, inl, inr, refl, sym, ap, ◌∙◌, subst, append-nil, append_assoc, arith}
use Rattle.std.specs.Io.KnownBytes.{Consumes, IsAtEnd, Keeps, prepend_known}
use Rattle.std.proofs.KnownBytes.{Consumes-nil, Keeps-refl}
use Rattle.ct_text.specs.declared.document_lines.TheConstants.{LINE_FEED}
use Rattle.ct_io.specs.Lines.{IsLine, IsNextLine}
use Rattle.ct_io.specs.declared.TheConstants.{MAX_INPUT, MAX_READ}
use Rattle.ct_io.specs.declared.intake.Intake.{Intake}
use Rattle.ct_io.specs.declared.line_fault.LineFault.{LineFault}
use Rattle.ct_io.specs.declared.line_fault.LineFault.TheVariants.{ReadFault, TooLong, Memory}
use Rattle.ct_io.specs.Faults.{Rose}
use Rattle.ct_io.specs.Inside.Intake.{Gives, IsFaultAt}
use Rattle.ct_io.specs.Inside.NextLine.{GivesNext}
use Rattle.ct_io.specs.Inside.Settled.{IsSettled}
use Rattle.ct_io.specs.Reader.{Answer, Reader, Divides, IfLine, IfNoLine, IsLineThenRead, LosesLine, input_of, lasting_fault}
use Rattle.ct_io.proofs.ReaderLemmas.{IfLine-first}

-- a reader by what it took in, and the fault that it stays with
abbrev reader : Intake → Option LineFault → Reader
reader i fault = record { held = i.held.bytes; kept = i.held.kept; taken = i.taken; ended = i.ended; fault = fault }

-- ---- a fault is answered again

settled_within : (held : List ℕ) (ended : Bool) (taken : ℕ) (fault : LineFault) → IsSettled held ended taken (Some fault) → taken ≤ MAX_INPUT + MAX_READ
settled_within held ended taken ReadFault h = omega (arith, h.0)
settled_within held ended taken (TooLong t) h = h.2
settled_within held ended taken Memory h = absurd h

settled_line : (held : List ℕ) (ended : Bool) (taken : ℕ) (fault : LineFault) → IsSettled held ended taken (Some fault) → ◌≡◌ {A = Answer} (Err fault) (Err ReadFault) → IsLine held
settled_line held ended taken ReadFault h e = h.1
settled_line held ended taken (TooLong t) h e = absurd cc
settled_line held ended taken Memory h e = absurd h

settled_long : (held : List ℕ) (ended : Bool) (taken : ℕ) (fault : LineFault) (t : ℕ) → IsSettled held ended taken (Some fault) → ◌≡◌ {A = Answer} (Err fault) (Err (TooLong t)) → (t ≡ taken) × (MAX_INPUT < t) × IsLineThenRead held
settled_long held ended taken ReadFault t h e = absurd cc
settled_long held ended taken (TooLong u) t h e = let same : u ≡ t = cc in (sym same ∙ h.0, omega (arith, same, h.0, h.1), h.3)
settled_long held ended taken Memory t h e = absurd h

settled_going : (held : List ℕ) (ended : Bool) (taken : ℕ) (fault : LineFault) → IsSettled held ended taken (Some fault) → ended ≡ false
settled_going held ended taken ReadFault h = h.2
settled_going held ended taken (TooLong t) h = h.4
settled_going held ended taken Memory h = absurd h

settled_above : (held : List ℕ) (ended : Bool) (taken : ℕ) (fault : LineFault) → IsSettled held ended taken (Some fault) → MAX_INPUT < taken → ◌≡◌ {A = Answer} (Err fault) (Err (TooLong taken))
settled_above held ended taken ReadFault h above = absurd (omega (arith, h.0, above))
settled_above held ended taken (TooLong t) h above = ap (λ (n : ℕ). Err (TooLong n)) h.0
settled_above held ended taken Memory h above = absurd h

settled_lasts : (held : List ℕ) (ended : Bool) (taken : ℕ) (fault : LineFault) → IsSettled held ended taken (Some fault) → Some fault ≡ lasting_fault (Err fault)
settled_lasts held ended taken ReadFault h = refl
settled_lasts held ended taken (TooLong t) h = refl
settled_lasts held ended taken Memory h = absurd h

settled_memory : (held : List ℕ) (ended : Bool) (taken : ℕ) (fault : LineFault) → IsSettled held ended taken (Some fault) → ◌≡◌ {A = Answer} (Err fault) (Err Memory) → Some fault ≡ None
settled_memory held ended taken ReadFault h e = absurd cc
settled_memory held ended taken (TooLong t) h e = absurd cc
settled_memory held ended taken Memory h e = absurd h

again : (fault other : LineFault) → ◌≡◌ {A = Option LineFault} (Some fault) (Some other) → ◌≡◌ {A = Answer} (Err fault) (Err other)
again fault other e = cc

answered_again : {S : Type 0} (left : S → Option (List ℕ)) (count : S → ℕ) (r : Reader) (s : S) (fault : LineFault) → r.fault ≡ Some fault → IsSettled r.held r.ended r.taken r.fault → length r.held ≤ r.kept
    → GivesNext left count r r s s (Err fault)
answered_again {S} left count r s fault is settled all =
    let h = subst (IsSettled r.held r.ended r.taken) is settled in
    record {
      line = tt;
      lines = tt;
      none = tt;
      kept = Keeps-refl (input_of r (left s));
      taken = ([], Consumes-nil (left s), omega arith, sym (append-nil r.held));
      end = λ was ended. let e = sym was ∙ ended in absurd cc;
      read_to_end = tt;
      ended = λ was. was;
      unread = λ ready. (refl, refl);
      little = tt;
      all_kept = all;
      dropped = omega arith;
      read_fault = λ e. inl (let same : fault ≡ ReadFault = cc in is ∙ ap Some same);
      too_long = λ t e. let long = settled_long r.held r.ended r.taken fault t h e in (long.0, long.1);
      within = tt;
      one_read_past = settled_within r.held r.ended r.taken fault h;
      no_line_held = settled_line r.held r.ended r.taken fault h;
      last_read = λ t e. (settled_long r.held r.ended r.taken fault t h e).2;
      unended = λ other. settled_going r.held r.ended r.taken fault h;
      above_limit = settled_above r.held r.ended r.taken fault h;
      remembered = is ∙ settled_lasts r.held r.ended r.taken fault h;
      no_lasting_memory = λ e. is ∙ settled_memory r.held r.ended r.taken fault h e;
      few_at_memory = λ e. inl refl;
      stays = λ f was. (again fault f (sym is ∙ was), refl, refl);
      counted = omega arith;
    }

pub GivesNext-again : {S : Type 0} (left : S → Option (List ℕ)) (count : S → ℕ) (i : Intake) (f : Option LineFault) (r : Reader) (s : S) (fault : LineFault) → reader i f ≡ r → f ≡ Some fault
    → IsSettled i.held.bytes i.ended i.taken f × (length i.held.bytes ≤ i.held.kept) → GivesNext left count r r s s (Err fault)
GivesNext-again {S} left count i f r s fault seen is h = subst (λ (q : Reader). GivesNext left count q q s s (Err fault)) seen (answered_again left count (reader i f) s fault is h.0 h.1)

-- ---- a call that goes on

-- the input before the call, and after it: the bytes held, those that came, and those that are left
record Inputs (held held' : List ℕ) (was is : Bool) (before after : Option (List ℕ)) (bytes : List ℕ) : Type 0 where
  pub came : Consumes before after bytes
  pub end : was ≡ false → is ≡ true → IsAtEnd after
  pub lasts : was ≡ true → is ≡ true
  pub none : was ≡ true → bytes ≡ []

abbrev input : List ℕ → Bool → Option (List ℕ) → Option (List ℕ)
input held ended left = if ended then Some held else prepend_known held left

loses_line : (held held' : List ℕ) (was is : Bool) (before after : Option (List ℕ)) (bytes line : List ℕ) → Inputs held held' was is before after bytes → IsNextLine (held ++ bytes) line held'
    → (is ≡ false → held ++ bytes ≡ line ++ LINE_FEED ∷ held') → LosesLine (input held was before) (input held' is after) line
loses_line held held' true true before after bytes line h next fed = subst (λ (b : List ℕ). IsNextLine b line held') (ap (λ (b : List ℕ). held ++ b) (h.none refl) ∙ append-nil held) next
loses_line held held' true false before after bytes line h next fed = let lasts : false ≡ true = h.lasts refl in absurd cc
loses_line held held' false is None after bytes line h next fed = tt
loses_line held held' false is (Some x) None bytes line h next fed = absurd h.came
loses_line held held' false true (Some x) (Some y) bytes line h next fed =
    let all : held ++ bytes ≡ held ++ x = ap (λ (b : List ℕ). held ++ b) (sym (h.came ∙ ap (λ (b : List ℕ). bytes ++ b) (h.end refl refl) ∙ append-nil bytes)) in
    subst (λ (b : List ℕ). IsNextLine b line held') all next
loses_line held held' false false (Some x) (Some y) bytes line h next fed = (
  next.0,
  inl (
      ap (λ (b : List ℕ). held ++ b) h.came ∙ sym (append_assoc held bytes y) ∙ ap (λ (b : List ℕ). b ++ y) (fed refl) ∙ append_assoc line (LINE_FEED ∷ held') y),
)

no_bytes : (a b : List ℕ) → a ++ b ≡ [] → (a ≡ []) × (b ≡ [])
no_bytes [] b e = (refl, e)
no_bytes (x ∷ a) b e = absurd cc

at_end_before : (held held' : List ℕ) (was : Bool) (before after : Option (List ℕ)) (bytes : List ℕ) → Inputs held held' was true before after bytes → held ++ bytes ≡ [] → IsAtEnd (input held was before)
at_end_before held held' true before after bytes h none = (no_bytes held bytes none).0
at_end_before held held' false None after bytes h none = tt
at_end_before held held' false (Some x) None bytes h none = absurd h.came
at_end_before held held' false (Some x) (Some y) bytes h none =
    ap (λ (b : List ℕ). held ++ b) (h.came ∙ ap (λ (b : List ℕ). bytes ++ b) (h.end refl refl) ∙ append-nil bytes) ∙ none

keeps_input : (held held' : List ℕ) (was is : Bool) (before after : Option (List ℕ)) (bytes : List ℕ) → Inputs held held' was is before after bytes → held' ≡ held ++ bytes → Keeps (input held was before) (input held' is after)
keeps_input held held' true true before after bytes h all = all ∙ ap (λ (b : List ℕ). held ++ b) (h.none refl) ∙ append-nil held
keeps_input held held' true false before after bytes h all = let lasts : false ≡ true = h.lasts refl in absurd cc
keeps_input held held' false is None after bytes h all = tt
keeps_input held held' false is (Some x) None bytes h all = absurd h.came
keeps_input held held' false true (Some x) (Some y) bytes h all =
    all ∙ ap (λ (b : List ℕ). held ++ b) (sym (h.came ∙ ap (λ (b : List ℕ). bytes ++ b) (h.end refl refl) ∙ append-nil bytes))
keeps_input held held' false false (Some x) (Some y) bytes h all =
    ap (λ (b : List ℕ). b ++ y) all ∙ append_assoc held bytes y ∙ ap (λ (b : List ℕ). held ++ b) (sym h.came)

no_length : (bytes : List ℕ) (m n : ℕ) → n ≡ m + length bytes → n ≡ m → bytes ≡ []
no_length [] m n e same = refl
no_length (b ∷ bytes) m n e same = absurd (omega (arith, e, same))

answered_line : (held held' : List ℕ) (was is : Bool) (before after : Option (List ℕ)) (bytes : List ℕ) (answer : Answer) → Inputs held held' was is before after bytes → Divides (held ++ bytes) answer held' is
    → IfLine answer (LosesLine (input held was before) (input held' is after))
answered_line held held' was is before after bytes (Ok (Some line)) h divides = loses_line held held' was is before after bytes line.items h divides.0 divides.1
answered_line held held' was is before after bytes (Ok None) h divides = tt
answered_line held held' was is before after bytes (Err fault) h divides = tt

ends_both : (held held' : List ℕ) (was is : Bool) (before after : Option (List ℕ)) (bytes : List ℕ) → Inputs held held' was is before after bytes → (held ++ bytes ≡ []) × (held' ≡ []) × (is ≡ true)
    → IsAtEnd (input held was before) × IsAtEnd (input held' is after)
ends_both held held' was true before after bytes h divides = (at_end_before held held' was before after bytes h divides.0, divides.1)
ends_both held held' was false before after bytes h divides = let ended = divides.2 in absurd cc

answered_none : (held held' : List ℕ) (was is : Bool) (before after : Option (List ℕ)) (bytes : List ℕ) (answer : Answer) → Inputs held held' was is before after bytes → Divides (held ++ bytes) answer held' is
    → IfNoLine answer (IsAtEnd (input held was before) × IsAtEnd (input held' is after))
answered_none held held' was is before after bytes (Ok (Some line)) h divides = tt
answered_none held held' was is before after bytes (Ok None) h divides = ends_both held held' was is before after bytes h divides
answered_none held held' was is before after bytes (Err fault) h divides = tt

answered_fault : (held held' : List ℕ) (was is : Bool) (before after : Option (List ℕ)) (bytes : List ℕ) (answer : Answer) → Inputs held held' was is before after bytes → Divides (held ++ bytes) answer held' is
    → OnErr answer (Keeps (input held was before) (input held' is after))
answered_fault held held' was is before after bytes (Ok (Some line)) h divides = tt
answered_fault held held' was is before after bytes (Ok None) h divides = tt
answered_fault held held' was is before after bytes (Err fault) h divides = keeps_input held held' was is before after bytes h divides

nothing_left : (bytes held' : List ℕ) (is : Bool) (answer : Answer) → Divides bytes answer held' is → IfNoLine answer ((held' ≡ []) × (is ≡ true))
nothing_left bytes held' is (Ok (Some line)) divides = tt
nothing_left bytes held' is (Ok None) divides = (divides.1, divides.2)
nothing_left bytes held' is (Err fault) divides = tt

-- what each fault says, where there is one
record Says (held : List ℕ) (ended : Bool) (taken old new : ℕ) (answer : Answer) : Type 0 where
  pub rose : answer ≡ Err ReadFault → Rose old new × IsLine held
  pub long : (t : ℕ) → answer ≡ Err (TooLong t) → (t ≡ taken) × (MAX_INPUT < t) × IsLineThenRead held
  pub few : taken ≤ MAX_INPUT + MAX_READ
  pub unended : IfErr answer (λ fault. fault ≢ Memory → ended ≡ false)
  pub above : MAX_INPUT < taken → answer ≡ Err (TooLong taken)
  pub memory : answer ≡ Err Memory → lasting_fault answer ≡ None

says : (held : List ℕ) (ended : Bool) (taken old new : ℕ) (answer : Answer) → (OnOk answer (taken ≤ MAX_INPUT)) → IfErr answer (IsFaultAt held ended taken old new) → Says held ended taken old new answer
says held ended taken old new (Ok line) within fault = record {
  rose = λ e. absurd cc;
  long = λ t e. absurd cc;
  few = omega (arith, within);
  unended = tt;
  above = λ many. absurd (omega (arith, within, many));
  memory = λ e. refl;
}
says held ended taken old new (Err ReadFault) within fault = record {
  rose = λ e. (fault.0, fault.2);
  long = λ t e. absurd cc;
  few = omega (arith, fault.1);
  unended = λ other. fault.3;
  above = λ many. absurd (omega (arith, fault.1, many));
  memory = λ e. absurd cc;
}
says held ended taken old new (Err (TooLong u)) within fault = record {
  rose = λ e. absurd cc;
  long = λ t e. let same : u ≡ t = cc in (sym same ∙ fault.0, omega (arith, same, fault.0, fault.1), fault.3);
  few = fault.2;
  unended = λ other. fault.4;
  above = λ many. ap (λ (n : ℕ). Err (TooLong n)) fault.0;
  memory = λ e. absurd cc;
}
says held ended taken old new (Err Memory) within fault = record {
  rose = λ e. absurd cc;
  long = λ t e. absurd cc;
  few = omega (arith, fault);
  unended = λ other. absurd (other refl);
  above = λ many. absurd (omega (arith, fault, many));
  memory = λ e. refl;
}

goes_on : {S : Type 0} (left : S → Option (List ℕ)) (count : S → ℕ) (i j : Intake) (f g : Option LineFault) (before after : S) (answer : Answer) → f ≡ None → g ≡ lasting_fault answer
    → Gives left count i j before after answer → GivesNext left count (reader i f) (reader j g) before after answer
goes_on {S} left count i j f g before after answer healthy lasting h =
    let bytes = h.passes.0 in
    let inputs : Inputs i.held.bytes j.held.bytes i.ended j.ended (left before) (left after) bytes = record {
      came = h.passes.1;
      end = h.passes.4;
      lasts = h.passes.5;
      none = λ was. no_length bytes i.taken j.taken h.passes.3 (h.unread (inr was)).0;
    } in
    let line = answered_line i.held.bytes j.held.bytes i.ended j.ended (left before) (left after) bytes answer inputs h.passes.2 in
    let told = says j.held.bytes j.ended j.taken (count before) (count after) answer h.within h.fault in
    record {
      line = line;
      lines = IfLine-first answer (input_of (reader i f) (left before)) (input_of (reader j g) (left after)) line;
      none = answered_none i.held.bytes j.held.bytes i.ended j.ended (left before) (left after) bytes answer inputs h.passes.2;
      kept = answered_fault i.held.bytes j.held.bytes i.ended j.ended (left before) (left after) bytes answer inputs h.passes.2;
      taken = (bytes, h.passes.1, h.passes.3, h.passes.2);
      end = h.passes.4;
      read_to_end = nothing_left (i.held.bytes ++ bytes) j.held.bytes j.ended answer h.passes.2;
      ended = h.passes.5;
      unread = h.unread;
      little = h.little;
      all_kept = h.all_kept;
      dropped = h.kept;
      read_fault = λ e. inr (told.rose e).0;
      too_long = λ t e. let long = told.long t e in (long.0, long.1);
      within = h.within;
      one_read_past = told.few;
      no_line_held = λ e. (told.rose e).1;
      last_read = λ t e. (told.long t e).2;
      unended = told.unended;
      above_limit = told.above;
      remembered = lasting;
      no_lasting_memory = λ e. lasting ∙ told.memory e;
      few_at_memory = h.memory;
      stays = λ fault was. let e = sym healthy ∙ was in absurd cc;
      counted = h.counted;
    }

pub GivesNext-on : {S : Type 0} (left : S → Option (List ℕ)) (count : S → ℕ) (i j : Intake) (f g : Option LineFault) (r : Reader) (before after : S) (answer : Answer) → reader i f ≡ r → f ≡ None → g ≡ lasting_fault answer
    → Gives left count i j before after answer → GivesNext left count r (reader j g) before after answer
GivesNext-on {S} left count i j f g r before after answer seen healthy lasting h =
    subst (λ (q : Reader). GivesNext left count q (reader j g) before after answer) seen (goes_on left count i j f g before after answer healthy lasting h)

-- what a reader means that stays with the fault of a call
pub settled-at_fault : (held : List ℕ) (ended : Bool) (taken old new : ℕ) (fault : LineFault) → IsFaultAt held ended taken old new fault
    → IsSettled held ended taken (lasting_fault (Err fault))
settled-at_fault held ended taken old new ReadFault h = (h.1, h.2, h.3)
settled-at_fault held ended taken old new (TooLong t) h = h
settled-at_fault held ended taken old new Memory h = h
