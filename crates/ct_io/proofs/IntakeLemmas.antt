-- Bytes that come to a reader in several reads, and go from it.
use Rattle.std.proofs.Common.{◌≡◌, ℕ, ◌+◌, ◌-◌, ◌*◌, ◌<◌, ◌≤◌, ◌↔◌, Bool, true, false, cond, IsTrue, length, List, [], ◌++◌, Option, Some, None, Result, Ok, Err, OnOk, IfErr, IfSome, IfNone, is_some, inl, inr, refl, sym, subst, ap, ◌∙◌, eqb, append-nil, length-append, length-take, append_assoc, arith, max, take}
use Rattle.std.specs.List.{Contains, slice_get}
use Rattle.std.proofs.KnownBytes.{Consumes-kept, Consumes-nil, Consumes-trans}
use Rattle.std.proofs.lemmas.Bool.{eqb-true, eqb-false}
use Rattle.std.proofs.lemmas.List.Elements.{All-contains, Contains-append_left}
use Rattle.ct_text.specs.declared.document_lines.TheConstants.{LINE_FEED}
use Rattle.ct_io.specs.declared.TheConstants.{MAX_INPUT, MAX_READ}
use Rattle.ct_io.specs.declared.intake.Intake.{Intake}
use Rattle.ct_io.specs.declared.line_fault.LineFault.{LineFault}
use Rattle.ct_io.specs.declared.line_fault.LineFault.TheVariants.{ReadFault, TooLong, Memory}
use Rattle.ct_io.specs.Faults.{Rose}
use Rattle.ct_io.specs.Inside.Buffer.{Buffer}
use Rattle.ct_io.specs.Inside.Filling.{Fills, FillsBy}
use Rattle.ct_io.specs.Inside.Intake.{Gathers, GathersLine, Gives, GivesOut, IsFaultAt, LooksFirst, ReadsOn}
use Rattle.ct_io.specs.Lines.{IsLine}
use Rattle.ct_io.specs.Reader.{Answer, Divides, IsLineThenRead, NeedsNoRead}
use Rattle.ct_io.proofs.FaultsLemmas.{Rose-after}
use Rattle.ct_io.proofs.FeedLemmas.{IsNoFeed, Contains-feed, drop-around, line_before_feed}

-- ---- one read

-- a read that failed, or had no space
failed_at : (old new : Intake) (f f' : ℕ) (fault : LineFault) → IsLine old.held.bytes → old.ended ≡ false → old.taken ≤ MAX_INPUT → new.taken ≡ old.taken → new.ended ≡ old.ended
    → new.held.bytes ≡ old.held.bytes → (◌≡◌ {A = Result ℕ LineFault} (Err fault) (Err ReadFault) → Rose f f') → ((t : ℕ) → ◌≡◌ {A = Result ℕ LineFault} (Err fault) (Err (TooLong t)) → ⊥)
    → IsFaultAt new.held.bytes new.ended new.taken f f' fault
failed_at old new f f' ReadFault line going within taken ended same failed short = (failed refl, omega (arith, taken, within), subst IsLine (sym same) line, ended ∙ going)
failed_at old new f f' (TooLong t) line going within taken ended same failed short = absurd (short t refl)
failed_at old new f f' Memory line going within taken ended same failed short = omega (arith, taken, within)

pub ReadsOn-failed : {X : Type 0} (old new : Intake) (piece : ℕ) (before after : Option (List ℕ)) (f f' : ℕ) (fault : LineFault) → IsLine old.held.bytes → old.ended ≡ false → old.taken ≤ MAX_INPUT
    → new.taken ≡ old.taken → new.ended ≡ old.ended → Fills old.held new.held piece before after f f' (Err fault) → ReadsOn {X = X} old new before after f f' (Err fault)
ReadsOn-failed {X} old new piece before after f f' fault line going within taken ended h = record {
  gathers = ([], Consumes-kept before before after [] (Consumes-nil before) h.untaken, h.same ∙ sym (append-nil old.held.bytes), omega (arith, taken), λ was is. let e = sym is ∙ ended ∙ going in absurd cc, λ was. ended ∙ was);
  last = (old.held.bytes, [], h.same ∙ sym (append-nil old.held.bytes), line, omega arith);
  kept = h.kept;
  all_kept = h.all_kept;
  further = tt;
  within = tt;
  fault = failed_at old new f f' fault line going within taken ended h.same h.failed h.short;
  counted = h.counted;
}

-- the bytes of a read
came : (old new : Intake) (before after : Option (List ℕ)) (n : ℕ) → old.ended ≡ false → new.taken ≡ old.taken + n → new.ended ≡ eqb n 0 → FillsBy old.held.bytes new.held.bytes before after n → Gathers old new before after
came old new before after n going taken ended h =
    (h.0, h.1, h.2, omega (arith, taken, h.3), λ was is. h.4 (eqb-true n 0 (sym ended ∙ is)), λ was. let e = sym going ∙ was in absurd cc)

none_came : (n : ℕ) → eqb n 0 ≡ false → 0 < n
none_came n e = let other = eqb-false n 0 e in omega (arith, other)

pub ReadsOn-read : {X : Type 0} (x : X) (old new : Intake) (piece : ℕ) (before after : Option (List ℕ)) (f f' n : ℕ) → IsLine old.held.bytes → old.ended ≡ false → piece ≡ MAX_READ
    → new.taken ≡ old.taken + n → new.ended ≡ eqb n 0 → new.taken ≤ MAX_INPUT → Fills old.held new.held piece before after f f' (Ok n) → ReadsOn old new before after f f' (Ok x)
ReadsOn-read {X} x old new piece before after f f' n line going long taken ended within h = record {
  gathers = came old new before after n going taken ended h.read;
  last = (old.held.bytes, h.read.0, h.read.2, line, omega (arith, h.read.3, h.within, long));
  kept = h.kept;
  all_kept = h.all_kept;
  further = λ more. let some = none_came n (sym ended ∙ more) in omega (arith, taken, some);
  within = within;
  fault = tt;
  counted = h.counted;
}

-- a read past the limit
pub ReadsOn-long : {X : Type 0} (old new : Intake) (piece : ℕ) (before after : Option (List ℕ)) (f f' n : ℕ) → IsLine old.held.bytes → old.ended ≡ false → old.taken ≤ MAX_INPUT → piece ≡ MAX_READ
    → new.taken ≡ old.taken + n → new.ended ≡ eqb n 0 → MAX_INPUT < new.taken → Fills old.held new.held piece before after f f' (Ok n) → ReadsOn {X = X} old new before after f f' (Err (TooLong new.taken))
ReadsOn-long {X} old new piece before after f f' n line going few long taken ended above h =
    let last : IsLineThenRead new.held.bytes = (old.held.bytes, h.read.0, h.read.2, line, omega (arith, h.read.3, h.within, long)) in
    record {
      gathers = came old new before after n going taken ended h.read;
      last = last;
      kept = h.kept;
      all_kept = h.all_kept;
      further = tt;
      within = tt;
      fault = (refl, above, omega (arith, taken, few, h.within, long), last, ended ∙ not_none n (omega (arith, taken, few, above)));
      counted = h.counted;
    }
  where
    not_none : (n : ℕ) → 0 < n → eqb n 0 ≡ false
    not_none n some = decided (eqb n 0) refl where
      decided : (b : Bool) → eqb n 0 ≡ b → eqb n 0 ≡ false
      decided true e = absurd (omega (arith, some, eqb-true n 0 e))
      decided false e = e

-- ---- any number of reads

-- what holds after any number of reads, which come only where they are needed
pub record HasGathered {S : Type 0} (left : S → Option (List ℕ)) (count : S → ℕ) (old new : Intake) (before after : S) : Type 0 where
  pub gathers : Gathers old new (left before) (left after)
  pub within : new.taken ≤ MAX_INPUT
  pub unread : NeedsNoRead old.held.bytes old.ended → (new.taken ≡ old.taken) × (after ≡ before)
  pub looks : LooksFirst old.held.bytes new.held.bytes
  pub kept : new.held.kept ≤ max old.held.kept (length new.held.bytes)
  pub counted : count before ≤ count after

pub HasGathered-none : {S : Type 0} (left : S → Option (List ℕ)) (count : S → ℕ) (old : Intake) (s : S) → old.taken ≤ MAX_INPUT → HasGathered left count old old s s
HasGathered-none {S} left count old s within = record {
  gathers = ([], Consumes-nil (left s), sym (append-nil old.held.bytes), omega arith, λ was is. let e = sym was ∙ is in absurd cc, λ was. was);
  within = within;
  unread = λ ready. (refl, refl);
  looks = inl refl;
  kept = omega arith;
  counted = omega arith;
}

-- looking for a line feed changes nothing
pub HasGathered-same : {S : Type 0} (left : S → Option (List ℕ)) (count : S → ℕ) (old new new' : Intake) (before after : S) → HasGathered left count old new before after
    → new'.held ≡ new.held → new'.taken ≡ new.taken → new'.ended ≡ new.ended → HasGathered left count old new' before after
HasGathered-same {S} left count old new new' before after h held taken ended =
    let bytes = ap (λ (b : Buffer). b.bytes) held in
    let kept = ap (λ (b : Buffer). b.kept) held in
    record {
      gathers = (h.gathers.0, h.gathers.1, bytes ∙ h.gathers.2, taken ∙ h.gathers.3, λ was is. h.gathers.4 was (sym ended ∙ is), λ was. ended ∙ h.gathers.5 was);
      within = omega (arith, taken, h.within);
      unread = λ ready. (taken ∙ (h.unread ready).0, (h.unread ready).1);
      looks = subst (LooksFirst old.held.bytes) (sym bytes) h.looks;
      kept = omega (arith, kept, ap length bytes, h.kept);
      counted = h.counted;
    }

gathers_on : (old mid new : Intake) (before between after : Option (List ℕ)) → Gathers old mid before between → mid.ended ≡ false → Gathers mid new between after → Gathers old new before after
gathers_on old mid new before between after h going k = (
  h.0 ++ k.0,
  Consumes-trans before between after h.0 k.0 h.1 k.1,
  k.2 ∙ ap (λ l. l ++ k.0) h.2 ∙ append_assoc old.held.bytes h.0 k.0,
  omega (arith, h.3, k.3, length-append h.0 k.0),
  λ _ end. k.4 going end,
  λ was. let ended : mid.ended ≡ true = h.5 was in let e = sym ended ∙ going in absurd cc,
)

longer : (mid new : Intake) (between after : Option (List ℕ)) → Gathers mid new between after → length mid.held.bytes ≤ length new.held.bytes
longer mid new between after k = omega (arith, ap length k.2, length-append mid.held.bytes k.0)

-- a read comes only where it is needed
pub needs_read : (old mid : Intake) (before between : Option (List ℕ)) → Gathers old mid before between → IsLine mid.held.bytes → mid.ended ≡ false → NeedsNoRead old.held.bytes old.ended → ⊥
needs_read old mid before between came line going ready =
    elim ready [
      | inl held ↦ All-contains IsNoFeed mid.held.bytes LINE_FEED line (subst (λ (l : List ℕ). Contains l LINE_FEED) (sym came.2) (Contains-append_left old.held.bytes came.0 LINE_FEED held)) refl
      | inr was ↦ let is : mid.ended ≡ true = came.5 was in cc
    ]

-- one read more
pub HasGathered-more : {S X : Type 0} (x : X) (left : S → Option (List ℕ)) (count : S → ℕ) (old mid new : Intake) (before between after : S) → HasGathered left count old mid before between
    → IsLine mid.held.bytes → mid.ended ≡ false → ReadsOn mid new (left between) (left after) (count between) (count after) (Ok x) → HasGathered left count old new before after
HasGathered-more {S} {X} x left count old mid new before between after h line going k = record {
  gathers = gathers_on old mid new (left before) (left between) (left after) h.gathers going k.gathers;
  within = k.within;
  unread = λ ready. absurd (needs_read old mid (left before) (left between) h.gathers line going ready);
  looks = inr k.last;
  kept = omega (arith, h.kept, k.kept, longer mid new (left between) (left after) k.gathers);
  counted = omega (arith, h.counted, k.counted);
}

less_left : (limit m n : ℕ) (was is : Bool) → was ≡ false → m ≤ n → n ≤ limit → (is ≡ false → m < n) → 2 * (limit - n) + cond is 0 1 < 2 * (limit - m) + cond was 0 1
less_left limit m n true is going up within further = absurd cc
less_left limit m n false true going up within further = omega arith
less_left limit m n false false going up within further = let more = further refl in omega (arith, more)

-- each read brings the limit or the end of the input nearer
pub ReadsOn-nearer : {X : Type 0} (x : X) (old new : Intake) (before after : Option (List ℕ)) (f f' : ℕ) → old.ended ≡ false → ReadsOn old new before after f f' (Ok x)
    → 2 * (MAX_INPUT - new.taken) + cond new.ended 0 1 < 2 * (MAX_INPUT - old.taken) + cond old.ended 0 1
ReadsOn-nearer {X} x old new before after f f' going h = less_left MAX_INPUT old.taken new.taken old.ended new.ended going (omega (arith, h.gathers.3)) h.within h.further

-- ---- a line is gathered

-- past a line there is no more than was held at first, or than one read gives
few_past : (old now : List ℕ) (n : ℕ) → LooksFirst old now → slice_get now n ≡ Some LINE_FEED → length now ≤ n + max (length old) MAX_READ
few_past old now n (inl same) feed = omega (arith, ap length same)
few_past old now n (inr read) feed =
    let front = line_before_feed read.0 read.1 (take n now) _ read.3 (sym read.2 ∙ drop-around now 0 n LINE_FEED feed) in
    omega (arith, front, length-take n now, ap length read.2, length-append read.0 read.1, read.4)

pub GathersLine-line : {S : Type 0} (left : S → Option (List ℕ)) (count : S → ℕ) (old new : Intake) (before after : S) (n : ℕ) → HasGathered left count old new before after
    → IsLine (take n new.held.bytes) → slice_get new.held.bytes n ≡ Some LINE_FEED → length new.held.bytes ≤ new.held.kept → GathersLine left count old new before after (Ok (Some n))
GathersLine-line {S} left count old new before after n h line feed all = record {
  gathers = h.gathers;
  found = (line, feed);
  little = few_past old.held.bytes new.held.bytes n h.looks feed;
  unread = h.unread;
  looks = h.looks;
  kept = h.kept;
  all_kept = all;
  within = h.within;
  fault = tt;
  counted = h.counted;
}

pub GathersLine-none : {S : Type 0} (left : S → Option (List ℕ)) (count : S → ℕ) (old new : Intake) (before after : S) → HasGathered left count old new before after
    → IsLine new.held.bytes → new.ended ≡ true → length new.held.bytes ≤ new.held.kept → GathersLine left count old new before after (Ok None)
GathersLine-none {S} left count old new before after h line ended all = record {
  gathers = h.gathers;
  found = (line, ended);
  little = tt;
  unread = h.unread;
  looks = h.looks;
  kept = h.kept;
  all_kept = all;
  within = h.within;
  fault = tt;
  counted = h.counted;
}

fault_after : (held : List ℕ) (ended : Bool) (taken a b c : ℕ) (fault : LineFault) → a ≤ b → IsFaultAt held ended taken b c fault → IsFaultAt held ended taken a c fault
fault_after held ended taken a b c ReadFault counted h = (Rose-after a b c counted h.0, h.1, h.2, h.3)
fault_after held ended taken a b c (TooLong t) counted h = h
fault_after held ended taken a b c Memory counted h = h

pub GathersLine-fault : {S X : Type 0} (left : S → Option (List ℕ)) (count : S → ℕ) (old mid new : Intake) (before between after : S) (fault : LineFault) → HasGathered left count old mid before between
    → IsLine mid.held.bytes → mid.ended ≡ false → ReadsOn {X = X} mid new (left between) (left after) (count between) (count after) (Err fault) → GathersLine left count old new before after (Err fault)
GathersLine-fault {S} {X} left count old mid new before between after fault h line going k = record {
  gathers = gathers_on old mid new (left before) (left between) (left after) h.gathers going k.gathers;
  found = tt;
  little = tt;
  unread = λ ready. absurd (needs_read old mid (left before) (left between) h.gathers line going ready);
  looks = inr k.last;
  kept = omega (arith, h.kept, k.kept, longer mid new (left between) (left after) k.gathers);
  all_kept = k.all_kept;
  within = tt;
  fault = fault_after new.held.bytes new.ended new.taken (count before) (count between) (count after) fault h.counted k.fault;
  counted = omega (arith, h.counted, k.counted);
}

-- ---- a line is given out

-- no line was gathered
pub Gives-fault : {S : Type 0} (left : S → Option (List ℕ)) (count : S → ℕ) (old new : Intake) (before after : S) (fault : LineFault) → GathersLine left count old new before after (Err fault)
    → Gives left count old new before after (Err fault)
Gives-fault {S} left count old new before after fault h = record {
  passes = (h.gathers.0, h.gathers.1, h.gathers.2, h.gathers.3, h.gathers.4, h.gathers.5);
  little = tt;
  unread = h.unread;
  kept = omega (arith, h.kept);
  all_kept = h.all_kept;
  within = tt;
  fault = h.fault;
  memory = λ e. h.looks;
  counted = h.counted;
}

on_ok : (answer : Answer) (P : Type 0) → P → OnOk answer P
on_ok (Ok line) P h = h
on_ok (Err fault) P h = tt

only_memory : (answer : Answer) (held : List ℕ) (ended : Bool) (taken f f' : ℕ) → IfErr answer (λ fault. fault ≡ Memory) → taken ≤ MAX_INPUT → IfErr answer (IsFaultAt held ended taken f f')
only_memory (Ok line) held ended taken f f' memory within = tt
only_memory (Err fault) held ended taken f f' memory within = subst (IsFaultAt held ended taken f f') (sym memory) within

-- a fault leaves the bytes that were held
held_at_fault : (bytes held : List ℕ) (ended : Bool) (answer : Answer) (fault : LineFault) → answer ≡ Err fault → Divides bytes answer held ended → held ≡ bytes
held_at_fault bytes held ended answer fault e h = subst (λ (a : Answer). Divides bytes a held ended) e h

pub Gives-found : {S : Type 0} (left : S → Option (List ℕ)) (count : S → ℕ) (old mid new : Intake) (before after : S) (found : Option ℕ) (answer : Answer)
    → GathersLine left count old mid before after (Ok found) → GivesOut mid new found answer → Gives left count old new before after answer
Gives-found {S} left count old mid new before after found answer h k = record {
  passes = (
    h.gathers.0,
    h.gathers.1,
    subst (λ (bytes : List ℕ). Divides bytes answer new.held.bytes new.ended) h.gathers.2 k.divides,
    k.taken ∙ h.gathers.3,
    λ was is. h.gathers.4 was (sym k.ended ∙ is),
    λ was. k.ended ∙ h.gathers.5 was,
  );
  little = k.rest (max (length old.held.bytes) MAX_READ) h.little;
  unread = λ ready. (k.taken ∙ (h.unread ready).0, (h.unread ready).1);
  kept = omega (arith, h.kept, k.kept, k.size);
  all_kept = k.all_kept;
  within = on_ok answer (new.taken ≤ MAX_INPUT) (omega (arith, k.taken, h.within));
  fault = only_memory answer new.held.bytes new.ended new.taken (count before) (count after) k.memory (omega (arith, k.taken, h.within));
  memory = λ e. subst (LooksFirst old.held.bytes) (sym (held_at_fault mid.held.bytes new.held.bytes new.ended answer Memory e k.divides)) h.looks;
  counted = h.counted;
}

-- ---- whether a read is needed

-- a search for a line feed tells whether a read is needed, where the end was not seen
pub NeedsNoRead-found : (held : List ℕ) (ended : Bool) (place : Option ℕ) → ended ≡ false → IfSome place (λ n. slice_get held n ≡ Some LINE_FEED) → IfNone place (IsLine held)
    → IsTrue (is_some place) ↔ NeedsNoRead held ended
NeedsNoRead-found held ended (Some n) going feed none = (λ _. inl (Contains-feed held n feed), λ _. refl)
NeedsNoRead-found held ended None going feed none = (
  λ found. cc,
  λ ready. absurd (elim ready [ inl has ↦ All-contains IsNoFeed held LINE_FEED none has refl | inr was ↦ cc ]),
)

-- no read is needed where the end was seen
pub NeedsNoRead-ended : (held : List ℕ) (ended : Bool) → ended ≡ true → IsTrue ended ↔ NeedsNoRead held ended
NeedsNoRead-ended held ended was = (λ _. inr was, λ _. was)
