-- What is known of a step when it is known what the steps together give.
use Rattle.std.proofs.Common.{◌≡◌, ◌≢◌, Bool, true, false, Option, Some, None, Result, Ok, Err, ok_or, ◌⊎◌, inl, inr, refl, sym, ap}
use Rattle.ct_fields.specs.Steps.{◌>>=◌, check}
use Rattle.ct_fields.specs.declared.fault.DocumentFault.{DocumentFault}

-- where two steps give something, the first one gave something that the second one was handed
pub bind-ok : {A B : Type 0} (step : Result A DocumentFault) (next : A → Result B DocumentFault) (y : B) → (step >>= next) ≡ Ok y → (x : A) × (step ≡ Ok x) × (next x ≡ Ok y)
bind-ok (Ok x) next y e = (x, refl, e)
bind-ok (Err fault) next y e = absurd cc

-- the fault of two steps is the first one's, or else the second one's
pub bind-err : {A B : Type 0} (step : Result A DocumentFault) (next : A → Result B DocumentFault) (fault : DocumentFault) → (step >>= next) ≡ Err fault
    → (step ≡ Err fault) ⊎ ((x : A) × (step ≡ Ok x) × (next x ≡ Err fault))
bind-err (Ok x) next fault e = inr (x, refl, e)
bind-err (Err other) next fault e = let same : other ≡ fault = cc in inl (ap Err same)

-- a test that is passed
pub check-ok : (holds : Bool) (fault : DocumentFault) (x : Unit {0}) → check holds fault ≡ Ok x → holds ≡ true
check-ok true fault x e = refl
check-ok false fault x e = absurd cc

-- the fault of a test
pub check-err : (holds : Bool) (fault other : DocumentFault) → check holds fault ≡ Err other → (holds ≡ false) × (fault ≡ other)
check-err true fault other e = absurd cc
check-err false fault other e = (refl, cc)

-- what is there
pub ok_or-ok : {A : Type 0} (found : Option A) (fault : DocumentFault) (x : A) → ok_or found fault ≡ Ok x → found ≡ Some x
ok_or-ok None fault x e = absurd cc
ok_or-ok (Some y) fault x e = let same : y ≡ x = cc in ap Some same

-- the fault where nothing is there
pub ok_or-err : {A : Type 0} (found : Option A) (fault other : DocumentFault) → ok_or found fault ≡ Err other → (found ≡ None) × (fault ≡ other)
ok_or-err None fault other e = (refl, cc)
ok_or-err (Some y) fault other e = absurd cc

-- a step does not give something and a fault too
pub no_fault : {A : Type 0} (step : Result A DocumentFault) (x : A) (fault : DocumentFault) → step ≡ Ok x → step ≡ Err fault → ⊥
no_fault (Ok y) x fault ok err = absurd cc
no_fault (Err other) x fault ok err = absurd cc

-- a step that gives something hands it on
pub bind-at : {A B : Type 0} (step : Result A DocumentFault) (next : A → Result B DocumentFault) (x : A) → step ≡ Ok x → (step >>= next) ≡ next x
bind-at step next x e = rw e refl

-- the fault of a step is that of all
pub bind-at_err : {A B : Type 0} (step : Result A DocumentFault) (next : A → Result B DocumentFault) (fault : DocumentFault) → step ≡ Err fault → (step >>= next) ≡ Err fault
bind-at_err step next fault e = rw e refl

-- what holds of two steps holds of what follows where the first one gives something, and of its fault where it gives none
pub bind-cases : {A B : Type 0} (P : Result B DocumentFault → Type 0) (step : Result A DocumentFault) (next : A → Result B DocumentFault)
    → ((x : A) → step ≡ Ok x → P (next x)) → ((fault : DocumentFault) → step ≡ Err fault → P (Err fault)) → P (step >>= next)
bind-cases P (Ok x) next ok err = ok x refl
bind-cases P (Err fault) next ok err = err fault refl

-- a step that gives nothing, and whose faults are all one, gives that fault
pub only_fault : {A : Type 0} (step : Result A DocumentFault) (own : DocumentFault) → ((x : A) → step ≢ Ok x) → ((fault : DocumentFault) → step ≡ Err fault → own ≡ fault) → step ≡ Err own
only_fault (Ok x) own none same = absurd (none x refl)
only_fault (Err fault) own none same = ap Err (sym (same fault refl))
