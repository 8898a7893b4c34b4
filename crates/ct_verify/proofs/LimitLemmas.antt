-- What is told of an input that was read.
use Rattle.std.proofs.Common.{◌≡◌, ℕ, ◌↔◌, List, Option, Some, None, Result, Ok, Err}
use Rattle.ct_io.specs.declared.run_fault.RunFault.{RunFault}
use Rattle.ct_io.specs.declared.run_fault.RunFault.TheVariants.{TooLong}
use Rattle.ct_io.specs.Told.{IsAboveLimit, IsTooLong, WhereTold}

-- where the reading does not fail for the length of the input, nor does the run
pub never_too_long : {X Y : Type 0} (x : X) (y : Y) (before after : Option (List ℕ)) → WhereTold before after (λ b a. IsTooLong (Ok x) ↔ IsAboveLimit b a)
    → WhereTold before after (λ b a. ◌≡◌ {A = Result Y RunFault} (Ok y) (Err TooLong) ↔ IsAboveLimit b a)
never_too_long x y None after h = tt
never_too_long x y (Some before) None h = absurd h
never_too_long x y (Some before) (Some after) h = (λ is. absurd cc, λ above. let long = (h.1 above).1 in absurd cc)

-- an answer is no fault
pub no_fault : {X E : Type 0} (x : X) (e : E) → ◌≡◌ {A = Result X E} (Ok x) (Err e) → ⊥
no_fault x e is = absurd cc
