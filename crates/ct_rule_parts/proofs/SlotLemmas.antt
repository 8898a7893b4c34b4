-- Bounds that are no better than others.
use Rattle.std.proofs.Common.{◌≡◌, ℕ, zero, suc, ◌<◌, ◌≤◌, List, [], ◌∷◌, length, take, get_or, refl, inl, inr, arith}
use Rattle.std.specs.Prelude.{◌⊎◌}
use Rattle.std.proofs.lemmas.Bool.{cases_lt}
use Rattle.std.proofs.lemmas.List.{length-take-le}
use Rattle.ct_words.specs.declared.entry.Entry.{Entry}
use Rattle.ct_words.specs.declared.claim.Side.{Side}
use Rattle.ct_words.specs.declared.claim.Side.TheVariants.{Lower, Upper}
use Rattle.ct_words.specs.Code.{IsTrueLower}
use Rattle.ct_words.specs.Claim.{IsTrueOn}
use Rattle.ct_words.proofs.Constructions.FrontLemmas.{IsCode-take}
use Rattle.ct_rule_parts.specs.Slot.{IsNoBetter, AreNoBetter}

-- where some code has u words, some code has v ≤ u
pub IsTrueLower-fewer : (e : Entry) (u v : ℕ) → v ≤ u → IsTrueLower e u → IsTrueLower e v
IsTrueLower-fewer e u v few code =
    let size = code.2 in
    (take v code.0, IsCode-take e.n e.d e.w v code.0 code.1, length-take-le v code.0 (omega arith))

-- where a bound is true, so is each that is no better
pub IsTrueOn-no_better : (side : Side) (e : Entry) (u v : ℕ) → IsNoBetter side u v → IsTrueOn side e v → IsTrueOn side e u
IsTrueOn-no_better Lower e u v less truth = IsTrueLower-fewer e v u less truth
IsTrueOn-no_better Upper e u v less truth = λ words code. let most = truth words code in omega arith

-- of two bounds one is no better
pub IsNoBetter-either : (side : Side) (u v : ℕ) → IsNoBetter side u v ⊎ IsNoBetter side v u
IsNoBetter-either Lower u v = elim (cases_lt u v) [ inl less ↦ inl (omega arith) | inr more ↦ inr (omega arith) ]
IsNoBetter-either Upper u v = elim (cases_lt u v) [ inl less ↦ inr (omega arith) | inr more ↦ inl (omega arith) ]

-- a bound is no better than itself
pub IsNoBetter-self : (side : Side) (v : ℕ) → IsNoBetter side v v
IsNoBetter-self Lower v = omega arith
IsNoBetter-self Upper v = omega arith

-- as many bounds, none better than the one at its place
abbrev pub EachIsNoBetter : Side → List ℕ → List ℕ → Type 0
EachIsNoBetter side us vs =
    (length us ≡ length vs) × ((i : ℕ) → i < length us → IsNoBetter side (get_or us i 0) (get_or vs i 0))

-- what holds of the first and of each of the others
from_first : (R : ℕ → ℕ → Type 0) (u : ℕ) (us : List ℕ) (v : ℕ) (vs : List ℕ) → R u v
    → ((i : ℕ) → i < length us → R (get_or us i 0) (get_or vs i 0))
    → (i : ℕ) → i < length (u ∷ us) → R (get_or (u ∷ us) i 0) (get_or (v ∷ vs) i 0)
from_first R u us v vs first others zero within = first
from_first R u us v vs first others (suc i) within = others i (omega arith)

pub each_no_better : (side : Side) (us vs : List ℕ) → AreNoBetter side us vs → EachIsNoBetter side us vs
each_no_better side [] [] h = (refl, λ i within. absurd (omega arith))
each_no_better side [] (v ∷ vs) h = absurd h
each_no_better side (u ∷ us) [] h = absurd h
each_no_better side (u ∷ us) (v ∷ vs) h =
    let rest = each_no_better side us vs h.1 in
    let same = rest.0 in
    (omega arith, from_first (IsNoBetter side) u us v vs h.0 rest.1)

pub no_better_from_each : (side : Side) (us vs : List ℕ) → EachIsNoBetter side us vs → AreNoBetter side us vs
no_better_from_each side [] [] h = tt
no_better_from_each side [] (v ∷ vs) h = absurd (let long = h.0 in omega arith)
no_better_from_each side (u ∷ us) [] h = absurd (let long = h.0 in omega arith)
no_better_from_each side (u ∷ us) (v ∷ vs) h =
    let long = h.0 in
    (h.1 0 (omega arith), no_better_from_each side us vs (omega arith, λ i within. h.1 (suc i) (omega arith)))
