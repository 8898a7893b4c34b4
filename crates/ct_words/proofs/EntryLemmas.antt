-- The limits of the entries of the table.
use Rattle.std.proofs.Common.{◌≡◌, ℕ, ◌%◌, ◌≤◌, ◌&&◌, ◌==◌, nat_le, true, Option, Some, None, IfSome, refl, ap, eq-eqb, eqb-true, leb-true, le-leb, arith}
use Rattle.std.proofs.lemmas.Bool.{and_parts, and_from}
use Rattle.ct_words.specs.declared.limits.TheConstants.{MAX_N}
use Rattle.ct_words.specs.declared.entry.Entry.{Entry}
use Rattle.ct_words.specs.Entry.{IsEntry, weight_fits, same_weight, same_entry}

-- what is asked of a weight that is given
abbrev pub WeightFits : Entry → Option ℕ → Type 0
WeightFits e w = IfSome w (λ k. (e.d % 2 ≡ 0) × (4 ≤ e.d) × (k ≤ e.n))

WeightFits-from : (e : Entry) (w : Option ℕ) → 3 ≤ e.d → weight_fits e w ≡ true → WeightFits e w
WeightFits-from e None far h = tt
WeightFits-from e (Some k) far h =
    let parts = and_parts (e.d % 2 == 0) (nat_le k e.n) h in
    let even = eqb-true (e.d % 2) 0 parts.0 in
    (even, omega arith, leb-true k e.n parts.1)

weight_fits_from : (e : Entry) (w : Option ℕ) → WeightFits e w → weight_fits e w ≡ true
weight_fits_from e None h = refl
weight_fits_from e (Some k) h = and_from (e.d % 2 == 0) (nat_le k e.n) (eq-eqb (e.d % 2) 0 h.0) (le-leb k e.n h.2)

-- the limits of an entry of the table
pub record Limits (e : Entry) : Type 0 where
  pub length_from : 1 ≤ e.n
  pub length_to : e.n ≤ MAX_N
  pub distance_from : 3 ≤ e.d
  pub distance_to : e.d ≤ MAX_N
  pub weight : WeightFits e e.w

-- an entry of the table is within the limits
pub entry_limits : (e : Entry) → IsEntry e → Limits e
entry_limits e h =
    let last = and_parts (nat_le 1 e.n && nat_le e.n MAX_N && nat_le 3 e.d && nat_le e.d MAX_N) (weight_fits e e.w) h in
    let fourth = and_parts (nat_le 1 e.n && nat_le e.n MAX_N && nat_le 3 e.d) (nat_le e.d MAX_N) last.0 in
    let third = and_parts (nat_le 1 e.n && nat_le e.n MAX_N) (nat_le 3 e.d) fourth.0 in
    let first = and_parts (nat_le 1 e.n) (nat_le e.n MAX_N) third.0 in
    record {
      length_from = leb-true 1 e.n first.0;
      length_to = leb-true e.n MAX_N first.1;
      distance_from = leb-true 3 e.d third.1;
      distance_to = leb-true e.d MAX_N fourth.1;
      weight = WeightFits-from e e.w (leb-true 3 e.d third.1) last.1;
    }

-- an entry within the limits is in the table
pub entry_from_limits : (e : Entry) → 1 ≤ e.n → e.n ≤ MAX_N → 3 ≤ e.d → e.d ≤ MAX_N → WeightFits e e.w → IsEntry e
entry_from_limits e some short far near fits =
    and_from (nat_le 1 e.n && nat_le e.n MAX_N && nat_le 3 e.d && nat_le e.d MAX_N) (weight_fits e e.w)
    (and_from (nat_le 1 e.n && nat_le e.n MAX_N && nat_le 3 e.d) (nat_le e.d MAX_N)
    (and_from (nat_le 1 e.n && nat_le e.n MAX_N) (nat_le 3 e.d)
    (and_from (nat_le 1 e.n) (nat_le e.n MAX_N) (le-leb 1 e.n some) (le-leb e.n MAX_N short)) (le-leb 3 e.d far)) (le-leb e.d MAX_N near))
    (weight_fits_from e e.w fits)

weights_are : (v w : Option ℕ) → same_weight v w ≡ true → v ≡ w
weights_are None None h = refl
weights_are (Some v) (Some w) h = ap Some (eqb-true v w h)
weights_are None (Some w) h = absurd cc
weights_are (Some v) None h = absurd cc

-- two entries that pass the test are one
pub same_entry_is : (e f : Entry) → same_entry e f ≡ true → e ≡ f
same_entry_is e f h =
    let parts = and_parts (e.n == f.n && e.d == f.d) (same_weight e.w f.w) h in
    let front = and_parts (e.n == f.n) (e.d == f.d) parts.0 in
    let n = eqb-true e.n f.n front.0 in
    let d = eqb-true e.d f.d front.1 in
    let w = weights_are e.w f.w parts.1 in
    λ i. record { n = n i; d = d i; w = w i }

same_weight-self : (w : Option ℕ) → same_weight w w ≡ true
same_weight-self None = refl
same_weight-self (Some v) = eq-eqb v v refl

-- an entry passes the test with itself
pub same_entry-self : (e : Entry) → same_entry e e ≡ true
same_entry-self e = and_from _ _ (and_from _ _ (eq-eqb e.n e.n refl) (eq-eqb e.d e.d refl)) (same_weight-self e.w)
