-- What a dual's allowances and the upper bounds add up to, one index after the other.
use Rattle.std.proofs.Common.{◌≡◌, ℕ, ◌+◌, ◌*◌, Bool, true, false, cond, List, [], ◌∷◌, refl, sym, ap, ◌∙◌, arith}
use Rattle.std.specs.Prelude.{ℤ, pos, int_lt, ◌≤ℤ◌, max, not, filter, map}
use Rattle.std.specs.List.{sum_by}
use Rattle.std.proofs.lemmas.Int.{ints}
use Rattle.std.proofs.lemmas.List.Sums.{sum_by-cons}
use Rattle.ct_words.specs.declared.entry.Entry.{Entry}
use Rattle.ct_duals.specs.Bound.{natural, positive, charges, is_far, greatest, near_charge, far_charge}
use Rattle.ct_duals.specs.Local.{local_charge}

-- whether a number is above 0
pub above_zero : (z : ℤ) → pos 1 ≤ℤ z → int_lt (pos 0) z ≡ true
above_zero z h = grind (arith, ints)

pub not_above_zero : (z : ℤ) → int_lt (pos 0) z ≡ false → z ≤ℤ pos 0
not_above_zero z h = grind (arith, ints)

pub from_above_zero : (z : ℤ) → int_lt (pos 0) z ≡ true → pos 1 ≤ℤ z
from_above_zero z h = grind (arith, ints)

-- the first index counts where more than 0 is allowed there
pub positive-yes : (p : ℕ × ℤ) (y : List (ℕ × ℤ)) → int_lt (pos 0) p.1 ≡ true → positive (p ∷ y) ≡ p ∷ positive y
positive-yes p y h = ap (λ b. cond b (p ∷ positive y) (positive y)) h

pub positive-no : (p : ℕ × ℤ) (y : List (ℕ × ℤ)) → int_lt (pos 0) p.1 ≡ false → positive (p ∷ y) ≡ positive y
positive-no p y h = ap (λ b. cond b (p ∷ positive y) (positive y)) h

-- the sum outside the group, by the first index
pub near_charge-first : (e : Entry) (i v : ℕ) (cs : List (ℕ × ℕ)) → near_charge e ((i, v) ∷ cs) ≡ cond (is_far e i) 0 v + near_charge e cs
near_charge-first e i v cs = go (is_far e i)
  where
    go : (b : Bool)
        → sum_by (λ p. p.1) (cond (not b) ((i, v) ∷ filter (λ p. not (is_far e p.0)) cs) (filter (λ p. not (is_far e p.0)) cs))
        ≡ cond b 0 v + near_charge e cs
    go true = omega arith
    go false = sum_by-cons (λ (p : ℕ × ℕ). p.1) (i, v) (filter (λ p. not (is_far e p.0)) cs)

-- the greatest in the group, by the first index
pub far_charge-first : (e : Entry) (i v : ℕ) (cs : List (ℕ × ℕ)) → far_charge e ((i, v) ∷ cs) ≡ max (cond (is_far e i) v 0) (far_charge e cs)
far_charge-first e i v cs = go (is_far e i)
  where
    go : (b : Bool)
        → greatest (map (λ p. p.1) (cond b ((i, v) ∷ filter (λ p. is_far e p.0) cs) (filter (λ p. is_far e p.0) cs)))
        ≡ max (cond b v 0) (far_charge e cs)
    go true = refl
    go false = omega arith

-- with what is gathered, the charges of the indices that are left make up those of all
pub record Gathers (e : Entry) (all : List (ℕ × ℕ)) (y : List (ℕ × ℤ)) (us : List ℕ) (near far : ℕ) : Type 0 where
  pub sum : near + near_charge e (charges (positive y) us) ≡ near_charge e all
  pub greatest_of : max far (far_charge e (charges (positive y) us)) ≡ far_charge e all

-- nothing is gathered at first
pub gathers-start : (e : Entry) (y : List (ℕ × ℤ)) (us : List ℕ) → Gathers e (charges (positive y) us) y us 0 0
gathers-start e y us = record { sum = omega arith; greatest_of = omega arith }

-- an index where nothing more than 0 is allowed
pub gathers-none : (e : Entry) (all : List (ℕ × ℕ)) (p : ℕ × ℤ) (y : List (ℕ × ℤ)) (us : List ℕ) (near far : ℕ)
    → int_lt (pos 0) p.1 ≡ false → Gathers e all (p ∷ y) us near far → Gathers e all y us near far
gathers-none e all p y us near far h g =
    let same = ap (λ ps. charges ps us) (positive-no p y h) in
    record {
      sum = ap (λ cs. near + near_charge e cs) (sym same) ∙ g.sum;
      greatest_of = ap (λ cs. max far (far_charge e cs)) (sym same) ∙ g.greatest_of;
    }

-- nothing comes of an index without an upper bound
charges-none : (ps : List (ℕ × ℤ)) → charges ps [] ≡ []
charges-none [] = refl
charges-none (p ∷ ps) = refl

pub gathers-past : (e : Entry) (all : List (ℕ × ℕ)) (y z : List (ℕ × ℤ)) (near far : ℕ) → Gathers e all y [] near far → Gathers e all z [] near far
gathers-past e all y z near far g =
    let same = charges-none (positive y) ∙ sym (charges-none (positive z)) in
    record {
      sum = ap (λ cs. near + near_charge e cs) (sym same) ∙ g.sum;
      greatest_of = ap (λ cs. max far (far_charge e cs)) (sym same) ∙ g.greatest_of;
    }

-- an index of the group, and one outside it
pub gathers-far : (e : Entry) (all : List (ℕ × ℕ)) (p : ℕ × ℤ) (y : List (ℕ × ℤ)) (u : ℕ) (us : List ℕ) (near far : ℕ)
    → int_lt (pos 0) p.1 ≡ true → is_far e p.0 ≡ true → Gathers e all (p ∷ y) (u ∷ us) near far
    → Gathers e all y us near (max far (natural p.1 * u))
gathers-far e all p y u us near far h group g =
    let rest = charges (positive y) us in
    let same : charges (positive (p ∷ y)) (u ∷ us) ≡ (p.0, natural p.1 * u) ∷ rest = ap (λ ps. charges ps (u ∷ us)) (positive-yes p y h) in
    let sum_is = ap (near_charge e) same ∙ near_charge-first e p.0 (natural p.1 * u) rest ∙ ap (λ b. cond b 0 (natural p.1 * u) + near_charge e rest) group in
    let greatest_is = ap (far_charge e) same ∙ far_charge-first e p.0 (natural p.1 * u) rest ∙ ap (λ b. max (cond b (natural p.1 * u) 0) (far_charge e rest)) group in
    let sum_was = g.sum in
    let greatest_was = g.greatest_of in
    record { sum = omega arith; greatest_of = omega arith }

pub gathers-near : (e : Entry) (all : List (ℕ × ℕ)) (p : ℕ × ℤ) (y : List (ℕ × ℤ)) (u : ℕ) (us : List ℕ) (near far : ℕ)
    → int_lt (pos 0) p.1 ≡ true → is_far e p.0 ≡ false → Gathers e all (p ∷ y) (u ∷ us) near far
    → Gathers e all y us (near + natural p.1 * u) far
gathers-near e all p y u us near far h other g =
    let rest = charges (positive y) us in
    let same : charges (positive (p ∷ y)) (u ∷ us) ≡ (p.0, natural p.1 * u) ∷ rest = ap (λ ps. charges ps (u ∷ us)) (positive-yes p y h) in
    let sum_is = ap (near_charge e) same ∙ near_charge-first e p.0 (natural p.1 * u) rest ∙ ap (λ b. cond b 0 (natural p.1 * u) + near_charge e rest) other in
    let greatest_is = ap (far_charge e) same ∙ far_charge-first e p.0 (natural p.1 * u) rest ∙ ap (λ b. max (cond b (natural p.1 * u) 0) (far_charge e rest)) other in
    let sum_was = g.sum in
    let greatest_was = g.greatest_of in
    record { sum = omega arith; greatest_of = omega arith }

-- nothing is left
pub gathers-end : (e : Entry) (all : List (ℕ × ℕ)) (us : List ℕ) (near far : ℕ)
    → Gathers e all [] us near far → near + far ≡ near_charge e all + far_charge e all
gathers-end e all us near far g =
    let sum_was = g.sum in
    let greatest_was = g.greatest_of in
    omega arith

-- the sum of the charges, by the first index
pub local-yes : (p : ℕ × ℤ) (y : List (ℕ × ℤ)) (u : ℕ) (us : List ℕ) → int_lt (pos 0) p.1 ≡ true
    → local_charge (p ∷ y) (u ∷ us) ≡ natural p.1 * u + local_charge y us
local-yes p y u us h =
    ap (λ ps. sum_by (λ (q : ℕ × ℕ). q.1) (charges ps (u ∷ us))) (positive-yes p y h)
    ∙ sum_by-cons (λ (q : ℕ × ℕ). q.1) (p.0, natural p.1 * u) (charges (positive y) us)

pub local-no : (p : ℕ × ℤ) (y : List (ℕ × ℤ)) (us : List ℕ) → int_lt (pos 0) p.1 ≡ false → local_charge (p ∷ y) us ≡ local_charge y us
local-no p y us h = ap (λ ps. sum_by (λ (q : ℕ × ℕ). q.1) (charges ps us)) (positive-no p y h)

pub local-past : (y : List (ℕ × ℤ)) → local_charge y [] ≡ 0
local-past y = ap (λ cs. sum_by (λ (q : ℕ × ℕ). q.1) cs) (charges-none (positive y))
