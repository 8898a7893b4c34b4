-- Whether the number of a call is among those that fail, by what a search in them answers.
use Rattle.std.proofs.Common.{◌≡◌, ℕ, Bool, true, false, List, get_or, refl, sym, subst, arith}
use Rattle.std.proofs.Math.Dec.{eqb}
use Rattle.std.specs.List.{Contains, IsAnyAnswer}
use Rattle.std.proofs.lemmas.Bool.{eqb-true, eqb-false, both_ways}

-- it is among them
pub failing : (numbers seen : List ℕ) (call : ℕ) (answer : Bool) → seen ≡ numbers → IsAnyAnswer (λ y b. eqb y call ≡ b) seen answer → answer ≡ true
    → Contains numbers call
failing numbers seen call true is (k, within, same) e =
    subst (λ (l : List ℕ). Contains l call) is (k, within, eqb-true (get_or seen k call) call (same call))
failing numbers seen call false is none e = absurd (both_ways false refl e)

-- it is not
pub not_failing : (numbers seen : List ℕ) (call : ℕ) (answer : Bool) → seen ≡ numbers → IsAnyAnswer (λ y b. eqb y call ≡ b) seen answer → answer ≡ false
    → Contains numbers call → false ≡ true
not_failing numbers seen call true is some e contained = absurd (both_ways true e refl)
not_failing numbers seen call false is none e contained =
    let (k, within, same) = subst (λ (l : List ℕ). Contains l call) (sym is) contained in
    absurd (eqb-false (get_or seen k call) call (none k call (omega arith) within) same)
