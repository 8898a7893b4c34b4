-- Plotkin's bound holds for every code, for even and for odd distances.
use Rattle.std.proofs.Common.{◌≡◌, ℕ, ◌+◌, ◌-◌, ◌*◌, ◌/◌, ◌%◌, ◌<◌, ◌≤◌, List, map, length, refl, arith, inl, inr, add-one}
use Rattle.std.proofs.Math.Nat.{div-le_self}
use Rattle.std.specs.Prelude.{Bool, ◌⊎◌, Option, Some, None, IfSome}
use Rattle.std.proofs.lemmas.Bool.{cases_lt, cases_eq, le-leb, lt-leb, lt-ltb, le-ltb, eq-eqb, ne_eqb}
use Rattle.std.proofs.lemmas.Nat.{le-div}
use Rattle.std.proofs.lemmas.List.{length-map}
use Rattle.ct_words.specs.declared.limits.TheConstants.{MAX_N, MAX_BOUND}
use Rattle.ct_words.specs.Code.{IsTrueUpper}
use Rattle.ct_words.specs.Entry.{unrestricted}
use Rattle.ct_elementary.specs.Bounds.{plotkin_even}
use Rattle.ct_words.proofs.Counting.Spread.{IsSpread}
use Rattle.ct_words.proofs.DigitCodes.{bound_from_spread}
use Rattle.ct_elementary.proofs.Averages.{spread_plotkin}
use Rattle.ct_elementary.proofs.Halves.{spread_double}
use Rattle.ct_words.proofs.Counting.Parity.{extended, spread_extended}

-- where the rule for an even distance gives a value, and which
even_cases : (n d v : ℕ) → 1 ≤ d → plotkin_even n d ≡ Some v → ((d ≤ n) × (n < 2 * d) × (2 * (d / (2 * d - n)) ≡ v)) ⊎ ((n ≡ 2 * d) × (4 * d ≡ v))
even_cases n d v h e =
    elim (cases_lt n d) [
      | inl short ↦
          let t = lt-leb d n short in
          let u = ne_eqb n (2 * d) (λ same. omega arith) in
          let none : plotkin_even n d ≡ None = rw (t, u) refl in
          absurd cc
      | inr long ↦
          let t = le-leb d n long in
          elim (cases_lt n (2 * d)) [
            | inl below ↦
                let u = lt-ltb n (2 * d) below in
                let value : plotkin_even n d ≡ Some (2 * (d / (2 * d - n))) = rw (t, u) refl in
                inl (long, below, cc)
            | inr above ↦
                let u = le-ltb n (2 * d) above in
                elim (cases_eq n (2 * d)) [
                  | inl same ↦
                      let w = eq-eqb n (2 * d) same in
                      let value : plotkin_even n d ≡ Some (4 * d) = rw (t, u, w) refl in
                      inr (same, cc)
                  | inr other ↦
                      let w = ne_eqb n (2 * d) other in
                      let none : plotkin_even n d ≡ None = rw (t, u, w) refl in
                      absurd cc
                ]
          ]
    ]

-- the rule bounds words of n digits, each two of which have distance at least d, whether d is even or not
even_bound : (n d v : ℕ) → 1 ≤ d → plotkin_even n d ≡ Some v → (cs : List (List Bool)) → IsSpread n d cs → length cs ≤ v
even_bound n d v h e cs spread =
    elim (even_cases n d v h e) [
      | inl (long, short, value) ↦ let bound = spread_plotkin n d long short cs spread in omega arith
      | inr (double, value) ↦ let bound = spread_double n d h double cs spread in omega arith
    ]

-- for an odd distance it is that of words with a parity digit
odd_bound : (n d v : ℕ) → d % 2 ≡ 1 → plotkin_even (n + 1) (d + 1) ≡ Some v → (cs : List (List Bool)) → IsSpread n d cs → length cs ≤ v
odd_bound n d v odd e cs spread =
    let spread' : IsSpread (n + 1) (d + 1) (map extended cs) = rw (add-one n, add-one d) (spread_extended n d odd cs spread) in
    let bound = even_bound (n + 1) (d + 1) v (omega arith) e (map extended cs) spread' in
    let same = length-map cs extended in
    omega arith

-- a fact about the value of an option, where there is one
if_some : {X : Type 0} (o : Option X) (P : X → Type 0) → ((x : X) → o ≡ Some x → P x) → IfSome o P
if_some None P h = tt
if_some (Some x) P h = h x refl

-- the value that the rule gives for an even distance is a true bound
pub even_sound : (n d : ℕ) → 1 ≤ d → IfSome (plotkin_even n d) (IsTrueUpper (unrestricted n d))
even_sound n d h = if_some (plotkin_even n d) (IsTrueUpper (unrestricted n d)) (λ v e. bound_from_spread n d v (even_bound n d v h e))

-- and the value for an odd one
pub odd_sound : (n d : ℕ) → d % 2 ≡ 1 → IfSome (plotkin_even (n + 1) (d + 1)) (IsTrueUpper (unrestricted n d))
odd_sound n d odd = if_some (plotkin_even (n + 1) (d + 1)) (IsTrueUpper (unrestricted n d)) (λ v e. bound_from_spread n d v (odd_bound n d v odd e))

-- the value is at least 1, and at most 4d
even_range : (n d v : ℕ) → 1 ≤ d → d ≤ MAX_N + 1 → plotkin_even n d ≡ Some v → (1 ≤ v) × (v ≤ MAX_BOUND)
even_range n d v h small e =
    elim (even_cases n d v h e) [
      | inl (long, short, value) ↦
          let least = le-div 1 d (2 * d - n) (omega arith) (omega arith) in
          let most = div-le_self d (2 * d - n) in
          (omega arith, omega arith)
      | inr (double, value) ↦ (omega arith, omega arith)
    ]

pub even_within : (n d : ℕ) → 1 ≤ d → d ≤ MAX_N + 1 → IfSome (plotkin_even n d) (λ v. (1 ≤ v) × (v ≤ MAX_BOUND))
even_within n d h small = if_some (plotkin_even n d) (λ v. (1 ≤ v) × (v ≤ MAX_BOUND)) (λ v e. even_range n d v h small e)
