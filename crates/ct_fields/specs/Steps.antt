-- The steps of a reading, one after another: the first fault ends it.
use Rattle.std.specs.Prelude.{Bool, if◌then◌else◌, Result, Ok, Err}
use Rattle.ct_fields.specs.declared.fault.DocumentFault.{DocumentFault}

infixl 10 ◌>>=◌
-- a step, and what follows with what it gives
abbrev pub ◌>>=◌ : {A B : Type 0} → Result A DocumentFault → (A → Result B DocumentFault) → Result B DocumentFault
(Ok x) >>= next = next x
(Err fault) >>= next = Err fault

infixl 10 ◌>>◌
-- a step, and what follows after it
abbrev pub ◌>>◌ : {A B : Type 0} → Result A DocumentFault → Result B DocumentFault → Result B DocumentFault
step >> next = step >>= (λ _. next)

-- the fault where the test does not hold
abbrev pub check : Bool → DocumentFault → Result (Unit {0}) DocumentFault
check holds fault = if holds then Ok tt else Err fault
