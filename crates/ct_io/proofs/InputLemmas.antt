-- A source that is read to its end.
use Rattle.std.proofs.Common.{◌≡◌, ℕ, ◌+◌, ◌<◌, ◌≤◌, ◌↔◌, List, [], Option, Some, None, Result, Ok, Err, Vec, IfOk, OnOk, length, length-append, refl, sym, subst, ap, ◌∙◌, arith}
use Rattle.std.specs.declared.alloc.Global.{Global}
use Rattle.std.specs.Io.KnownBytes.{Consumes, IsAtEnd}
use Rattle.std.proofs.KnownBytes.{Consumes-nil, Consumes-trans, Consumes-kept}
use Rattle.ct_io.specs.declared.TheConstants.{MAX_INPUT, MAX_READ}
use Rattle.ct_io.specs.declared.line_fault.LineFault.{LineFault}
use Rattle.ct_io.specs.declared.line_fault.LineFault.TheVariants.{ReadFault, TooLong, Memory}
use Rattle.ct_io.specs.Faults.{Rose}
use Rattle.ct_io.specs.Told.{IsAboveLimit, IsTooLong, WhereTold}
use Rattle.ct_io.specs.Inside.Buffer.{Buffer}
use Rattle.ct_io.specs.Inside.Filling.{Fills, FillsBy}
use Rattle.ct_io.specs.Inside.WholeInput.{AreTaken, GathersAll, ReadsInput}
use Rattle.ct_io.proofs.FaultsLemmas.{Rose-after}

-- ---- the reads

-- the bytes that were taken in one more read
more_taken : (left mid now : Option (List ℕ)) (old new : List ℕ) (n : ℕ) → Consumes left mid old → FillsBy old new mid now n → Consumes left now new
more_taken left mid now old new n taken h = subst (Consumes left now) (sym h.2) (Consumes-trans left mid now old h.0 taken h.1)

more_bytes : (mid now : Option (List ℕ)) (old new : List ℕ) (n : ℕ) → FillsBy old new mid now n → length new ≡ length old + n
more_bytes mid now old new n h = let both = ap length h.2 ∙ length-append old h.0 in omega (arith, both, h.3)

-- how many bytes were taken when a read failed
failed_at : (now : Option (List ℕ)) (f f' f'' : ℕ) (bytes : List ℕ) (fault : LineFault) → length bytes ≤ MAX_INPUT → f ≤ f'
    → (◌≡◌ {A = Result ℕ LineFault} (Err fault) (Err ReadFault) → Rose f' f'') → ((t : ℕ) → ◌≡◌ {A = Result ℕ LineFault} (Err fault) (Err (TooLong t)) → ⊥)
    → AreTaken {X = Unit {0}} now f f'' bytes (Err fault)
failed_at now f f' f'' bytes ReadFault within counted failed short = (Rose-after f f' f'' counted (failed refl), within)
failed_at now f f' f'' bytes (TooLong t) within counted failed short = absurd (short t refl)
failed_at now f f' f'' bytes Memory within counted failed short = within

pub gathered_fault : (old new : Buffer) (piece : ℕ) (left mid now : Option (List ℕ)) (f f' f'' taken : ℕ) (fault : LineFault) → Consumes left mid old.bytes → taken ≡ length old.bytes → taken ≤ MAX_INPUT → f ≤ f'
    → Fills old new piece mid now f' f'' (Err fault) → GathersAll {X = Unit {0}} left now f f'' new.bytes (Err fault)
gathered_fault old new piece left mid now f f' f'' taken fault before count within counted h =
    let later = h.counted in
    record {
      consumed = subst (Consumes left now) (sym h.same) (Consumes-kept left mid now old.bytes before h.untaken);
      taken = failed_at now f f' f'' new.bytes fault (omega (arith, ap length h.same, count, within)) counted h.failed h.short;
      counted = omega (arith, counted, later);
    }

pub gathered_end : (old new : Buffer) (piece : ℕ) (left mid now : Option (List ℕ)) (f f' f'' taken n : ℕ) → Consumes left mid old.bytes → taken ≡ length old.bytes → taken ≤ MAX_INPUT → f ≤ f'
    → n ≡ 0 → Fills old new piece mid now f' f'' (Ok n) → GathersAll {X = Unit {0}} left now f f'' new.bytes (Ok tt)
gathered_end old new piece left mid now f f' f'' taken n before count within counted none h =
    let later = h.counted in
    let more = more_bytes mid now old.bytes new.bytes n h.read in
    record {
      consumed = more_taken left mid now old.bytes new.bytes n before h.read;
      taken = (h.read.4 none, omega (arith, more, none, count, within));
      counted = omega (arith, counted, later);
    }

pub gathered_long : (old new : Buffer) (piece : ℕ) (left mid now : Option (List ℕ)) (f f' f'' taken taken' n : ℕ) → Consumes left mid old.bytes → taken ≡ length old.bytes → taken ≤ MAX_INPUT → f ≤ f'
    → taken' ≡ taken + n → MAX_INPUT < taken' → piece ≡ MAX_READ → Fills old new piece mid now f' f'' (Ok n) → GathersAll {X = Unit {0}} left now f f'' new.bytes (Err (TooLong taken'))
gathered_long old new piece left mid now f f' f'' taken taken' n before count within counted sum above long h =
    let later = h.counted in
    let more = more_bytes mid now old.bytes new.bytes n h.read in
    let few = h.within in
    record {
      consumed = more_taken left mid now old.bytes new.bytes n before h.read;
      taken = (omega (arith, more, sum, count), omega (arith, more, sum, count, above), omega (arith, more, count, within, few, long));
      counted = omega (arith, counted, later);
    }

-- what lasts from read to read
pub record HasGatheredAll (left now : Option (List ℕ)) (f f' : ℕ) (bytes : List ℕ) (taken : ℕ) : Type 0 where
  pub consumed : Consumes left now bytes
  pub count : taken ≡ length bytes
  pub within : taken ≤ MAX_INPUT
  pub counted : f ≤ f'

pub gathered_more : (old new : Buffer) (piece : ℕ) (left mid now : Option (List ℕ)) (f f' f'' taken taken' n : ℕ) → HasGatheredAll left mid f f' old.bytes taken
    → taken' ≡ taken + n → taken' ≤ MAX_INPUT → Fills old new piece mid now f' f'' (Ok n) → HasGatheredAll left now f f'' new.bytes taken'
gathered_more old new piece left mid now f f' f'' taken taken' n h sum within read =
    let later = read.counted in
    let before = h.counted in
    let count = h.count in
    let more = more_bytes mid now old.bytes new.bytes n read.read in
    record {
      consumed = more_taken left mid now old.bytes new.bytes n h.consumed read.read;
      count = omega (arith, more, sum, count);
      within = within;
      counted = omega (arith, before, later);
    }

-- ---- the answer

-- as many bytes are left before as were taken and are left after
counted : (before after taken : List ℕ) → Consumes (Some before) (Some after) taken → length before ≡ length taken + length after
counted before after taken h = ap length h ∙ length-append taken after

-- a fact is said exactly where the bytes that were taken are above the limit
pub above_exactly : (P : Type 0) (left now : Option (List ℕ)) (taken : List ℕ) → Consumes left now taken → (P → MAX_INPUT < length taken) → (MAX_INPUT < length taken → P)
    → WhereTold left now (λ before after. P ↔ IsAboveLimit before after)
above_exactly P None now taken h to from = tt
above_exactly P (Some before) None taken h to from = absurd h
above_exactly P (Some before) (Some after) taken h to from =
    let e = counted before after taken h in
    (λ long. let above = to long in omega (arith, e, above), λ above. from (omega (arith, e, above)))

-- and so is each fact that holds where this one does
pub still_exactly : (P Q : Type 0) (left now : Option (List ℕ)) → (P → Q) → (Q → P) → WhereTold left now (λ before after. P ↔ IsAboveLimit before after)
    → WhereTold left now (λ before after. Q ↔ IsAboveLimit before after)
still_exactly P Q None now to from h = tt
still_exactly P Q (Some before) None to from h = absurd h
still_exactly P Q (Some before) (Some after) to from h = (λ q. h.0 (from q), λ above. to (h.1 above))

-- at most one read past the limit was taken
pub one_read_past : (left now : Option (List ℕ)) (taken : List ℕ) → Consumes left now taken → length taken ≤ MAX_INPUT + MAX_READ
    → WhereTold left now (λ before after. length before ≤ length after + MAX_INPUT + MAX_READ)
one_read_past None now taken h few = tt
one_read_past (Some before) None taken h few = absurd h
one_read_past (Some before) (Some after) taken h few = let e = counted before after taken h in omega (arith, e, few)

-- what the answer says of how many bytes were taken
pub long_from_answer : {X : Type 0} (now : Option (List ℕ)) (f f' : ℕ) (bytes : List ℕ) (answer : Result X LineFault) → AreTaken now f f' bytes answer → IsTooLong answer → MAX_INPUT < length bytes
long_from_answer {X} now f f' bytes (Ok x) h long = let e = long.1 in absurd cc
long_from_answer {X} now f f' bytes (Err ReadFault) h long = let e = long.1 in absurd cc
long_from_answer {X} now f f' bytes (Err (TooLong t)) h long = h.1
long_from_answer {X} now f f' bytes (Err Memory) h long = let e = long.1 in absurd cc

pub answer_from_long : {X : Type 0} (now : Option (List ℕ)) (f f' : ℕ) (bytes : List ℕ) (answer : Result X LineFault) → AreTaken now f f' bytes answer → MAX_INPUT < length bytes → IsTooLong answer
answer_from_long {X} now f f' bytes (Ok x) h long = absurd (omega (arith, h.1, long))
answer_from_long {X} now f f' bytes (Err ReadFault) h long = absurd (omega (arith, h.1, long))
answer_from_long {X} now f f' bytes (Err (TooLong t)) h long = (t, refl)
answer_from_long {X} now f f' bytes (Err Memory) h long = absurd (omega (arith, h, long))

pub few_taken : {X : Type 0} (now : Option (List ℕ)) (f f' : ℕ) (bytes : List ℕ) (answer : Result X LineFault) → AreTaken now f f' bytes answer → length bytes ≤ MAX_INPUT + MAX_READ
few_taken {X} now f f' bytes (Ok x) h = omega (arith, h.1)
few_taken {X} now f f' bytes (Err ReadFault) h = omega (arith, h.1)
few_taken {X} now f f' bytes (Err (TooLong t)) h = h.2
few_taken {X} now f f' bytes (Err Memory) h = omega (arith, h)

rose_from_answer : {X : Type 0} (now : Option (List ℕ)) (f f' : ℕ) (bytes : List ℕ) (answer : Result X LineFault) → AreTaken now f f' bytes answer → answer ≡ Err ReadFault → Rose f f'
rose_from_answer {X} now f f' bytes (Ok x) h is = absurd cc
rose_from_answer {X} now f f' bytes (Err ReadFault) h is = h.0
rose_from_answer {X} now f f' bytes (Err (TooLong t)) h is = absurd cc
rose_from_answer {X} now f f' bytes (Err Memory) h is = absurd cc

all_taken : (left now : Option (List ℕ)) (f f' : ℕ) (bytes : List ℕ) (answer : Result (Vec ℕ Global) LineFault) → GathersAll left now f f' bytes answer → IfOk answer (λ input. input.items ≡ bytes)
    → IfOk answer (λ input. Consumes left now input.items) × OnOk answer (IsAtEnd now) × IfOk answer (λ input. length input.items ≤ MAX_INPUT)
all_taken left now f f' bytes (Ok input) h is =
    let few = h.taken.1 in
    (subst (Consumes left now) (sym is) h.consumed, h.taken.0, omega (arith, ap length is, few))
all_taken left now f f' bytes (Err fault) h is = (tt, tt, tt)

-- what is given, where these bytes were taken
pub reads_input : (left now : Option (List ℕ)) (f f' : ℕ) (bytes : List ℕ) (answer : Result (Vec ℕ Global) LineFault) → GathersAll left now f f' bytes answer → IfOk answer (λ input. input.items ≡ bytes)
    → ReadsInput left now f f' answer
reads_input left now f f' bytes answer h is =
    let all = all_taken left now f f' bytes answer h is in
    record {
      input = all.0;
      to_end = all.1;
      within = all.2;
      read_fault = rose_from_answer now f f' bytes answer h.taken;
      too_long = above_exactly (IsTooLong answer) left now bytes h.consumed (long_from_answer now f f' bytes answer h.taken) (answer_from_long now f f' bytes answer h.taken);
      one_read_past = one_read_past left now bytes h.consumed (few_taken now f f' bytes answer h.taken);
      counted = h.counted;
    }

-- a fault says the same of an answer of another type
pub same_fault : {X Y : Type 0} (left now : Option (List ℕ)) (f f' : ℕ) (bytes : List ℕ) (fault : LineFault) → GathersAll {X = X} left now f f' bytes (Err fault) → GathersAll {X = Y} left now f f' bytes (Err fault)
same_fault {X} {Y} left now f f' bytes fault h = record { consumed = h.consumed; taken = same fault h.taken; counted = h.counted } where
  same : (fault : LineFault) → AreTaken {X = X} now f f' bytes (Err fault) → AreTaken {X = Y} now f f' bytes (Err fault)
  same ReadFault t = t
  same (TooLong n) t = t
  same Memory t = t

-- the end says the same of the bytes
pub same_end : {X : Type 0} (x : X) (left now : Option (List ℕ)) (f f' : ℕ) (bytes : List ℕ) (input : Vec ℕ Global) → GathersAll left now f f' bytes (Ok x) → GathersAll left now f f' bytes (Ok input)
same_end {X} x left now f f' bytes input h = record { consumed = h.consumed; taken = h.taken; counted = h.counted }

-- where memory ran out first nothing was taken
pub none_taken : {X : Type 0} (left : Option (List ℕ)) (f : ℕ) → GathersAll {X = X} left left f f [] (Err Memory)
none_taken {X} left f = record { consumed = Consumes-nil left; taken = omega arith; counted = omega arith }
