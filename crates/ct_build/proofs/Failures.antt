-- Builds that fail, and such as do not.
use Rattle.std.proofs.Common.{◌≡◌, ℕ, false, true, List, [], ◌∷◌, length, Result, Ok, Err, refl, arith}
use Rattle.std.specs.Result.{IsErrAnd}
use Rattle.ct_build.specs.declared.fault.BuildFault.{BuildFault}
use Rattle.ct_build.specs.declared.fault.BuildFault.TheVariants.{Empty, Memory}

-- want of memory is not that there are no words
pub not_empty : {T : Type 0} (r : Result T BuildFault) → IsErrAnd r (λ e. e ≡ Memory) → r ≡ Err Empty → ⊥
not_empty (Ok v) none same = cc
not_empty (Err e) is same = cc

-- what is made is no fault
pub made : {T E : Type 0} (v : T) (e : E) → ◌≡◌ {A = Result T E} (Ok v) (Err e) → ⊥
made v e same = cc

-- and a test that fails does not pass
pub failed : false ≡ true → ⊥
failed passes = cc

-- no words are left where they are none
pub none_left : (words : List ℕ) → length words ≡ 0 → words ≡ []
none_left [] none = refl
none_left (x ∷ xs) none = absurd (omega arith)
