-- The pairs of a run's primal: a sum over them is one over the rows whose basic column is an a.
use Rattle.ct_finder.specs.Inside.Numbers.{numbers_of_range, is_of_a}
use Rattle.std.proofs.Common.{◌≡◌, ◌≢◌, ℕ, zero, suc, ◌+◌, ◌-◌, ◌<◌, ◌≤◌, ◌==◌, Bool, true, false, ◌&&◌, cond, nat_le, List, [], ◌∷◌, map, length, get_or, refl, sym, ap, ap₂, ◌∙◌, arith, eqb-true, leb-true, inl, inr}
use Rattle.std.specs.Prelude.{filter, zip, ℤ, pos, ◌+ℤ◌, ◌*ℤ◌, int_lt}
use Rattle.std.specs.List.{AllByRecursion, range_with_len}
use Rattle.std.proofs.lemmas.Int.{ints}
use Rattle.std.proofs.lemmas.Bool.{eqb-false, ne_eqb, cases_lt}
use Rattle.ct_words.specs.Counting.Sums.{total}
use Rattle.ct_words.proofs.Counting.Totals.{total-congruence, total-zero, total-add, total-map}
use Rattle.ct_words.proofs.Counting.PartTotals.{total-filter}
use Rattle.ct_finder.specs.Column.{Tableau}
use Rattle.ct_finder.specs.RunPrimal.{scaled, run_scale, number_at_place}

-- no two rows have the same basic column
abbrev pub AreApart : List (List ℤ × ℕ) → Type 0
AreApart [] = Unit {0}
AreApart (l ∷ ls) = AllByRecursion (λ m. m.1 ≢ l.1) ls × AreApart ls

-- indices with their places from a on: a term at one place
abbrev pub at_place : ℕ → (ℕ → ℤ) → ℕ × ℕ → ℤ
at_place b h v = cond (b == v.1) (h v.0) (pos 0)

placed-none : (b : ℕ) (h : ℕ → ℤ) (range : List ℕ) (a : ℕ) → b < a → total (at_place b h) (zip range (range_with_len a (length range))) ≡ pos 0
placed-none b h [] a low = refl
placed-none b h (i ∷ range) a low =
    let rest = placed-none b h range (a + 1) (omega arith) in
    let here : at_place b h (i, a) ≡ pos 0 = ap (λ t. cond t (h i) (pos 0)) (ne_eqb b a (λ e. omega arith)) in
    omega (arith, ints)

placed-past : (b : ℕ) (h : ℕ → ℤ) (range : List ℕ) (a : ℕ) → a + length range ≤ b → total (at_place b h) (zip range (range_with_len a (length range))) ≡ pos 0
placed-past b h [] a high = refl
placed-past b h (i ∷ range) a high =
    let rest = placed-past b h range (a + 1) (omega arith) in
    let here : at_place b h (i, a) ≡ pos 0 = ap (λ t. cond t (h i) (pos 0)) (ne_eqb b a (λ e. omega arith)) in
    omega (arith, ints)

placed-one : (j : ℕ) (h : ℕ → ℤ) (range : List ℕ) (a : ℕ) → j < length range
    → total (at_place (a + j) h) (zip range (range_with_len a (length range))) ≡ h (get_or range j 0)
placed-one j h [] a l = absurd (omega arith)
placed-one zero h (i ∷ range) a l =
    let rest = placed-none (a + 0) h range (a + 1) (omega arith) in
    let here : at_place (a + 0) h (i, a) ≡ h i = ap (λ t. cond t (h i) (pos 0)) (is (a + 0) a (omega arith)) in
    omega (arith, ints)
  where
    is : (x y : ℕ) → x ≡ y → (x == y) ≡ true
    is x y e = go (x == y) refl
      where
        go : (t : Bool) → (x == y) ≡ t → t ≡ true
        go true h = refl
        go false h = absurd (let no = eqb-false x y h in omega (arith, no, e))
placed-one (suc j) h (i ∷ range) a l =
    let next : a + suc j ≡ a + 1 + j = omega arith in
    let rest = placed-one j h range (a + 1) (omega arith) in
    let moved = ap (λ b. total (at_place b h) (zip range (range_with_len (a + 1) (length range)))) next in
    let here : at_place (a + suc j) h (i, a) ≡ pos 0 = ap (λ t. cond t (h i) (pos 0)) (ne_eqb (a + suc j) a (λ e. omega arith)) in
    omega (arith, ints)

-- the term of a row, where its basic column is an a
abbrev pub term_of : ℕ → List ℕ → (ℕ → ℤ) → List ℤ × ℕ → ℤ
term_of q range f l = cond (is_of_a (length range) l) (pos (scaled q l) *ℤ f (get_or range (l.1 - 1) 0)) (pos 0)

placed-term : (q : ℕ) (f : ℕ → ℤ) (range : List ℕ) (l : List ℤ × ℕ)
    → total (at_place l.1 (λ i. pos (scaled q l) *ℤ f i)) (zip range (range_with_len 1 (length range))) ≡ term_of q range f l
placed-term q f range l = go (nat_le 1 l.1) refl (nat_le l.1 (length range)) refl
  where
    h : ℕ → ℤ
    h i = pos (scaled q l) *ℤ f i

    above : (x y : ℕ) → nat_le x y ≡ false → y < x
    above x y e = elim (cases_lt y x) [ inl less ↦ less | inr past ↦ absurd (let no = le_is x y past in let both = sym e ∙ no in cc) ]
      where
        le_is : (x y : ℕ) → x ≤ y → nat_le x y ≡ true
        le_is x y p = grind arith

    go : (s : Bool) → nat_le 1 l.1 ≡ s → (t : Bool) → nat_le l.1 (length range) ≡ t
        → total (at_place l.1 h) (zip range (range_with_len 1 (length range))) ≡ cond (s && t) (h (get_or range (l.1 - 1) 0)) (pos 0)
    go false first t second = placed-none l.1 h range 1 (above 1 l.1 first)
    go true first false second = placed-past l.1 h range 1 (let far = above l.1 (length range) second in omega arith)
    go true first true second =
        let low = leb-true 1 l.1 first in
        let high = leb-true l.1 (length range) second in
        let whole : l.1 ≡ 1 + (l.1 - 1) = omega arith in
        ap (λ b. total (at_place b h) (zip range (range_with_len 1 (length range)))) whole ∙ placed-one (l.1 - 1) h range 1 (omega arith)

-- where no row has its basic column at the place, there is no number
number-none : (q b : ℕ) (ls : List (List ℤ × ℕ)) → AllByRecursion (λ m. m.1 ≢ b) ls → number_at_place q ls b ≡ 0
number-none q b [] h = refl
number-none q b (m ∷ ls) h = ap (λ t. cond t (scaled q m) (number_at_place q ls b)) (ne_eqb m.1 b h.0) ∙ number-none q b ls h.1

-- the numbers at all places, each times f, are the terms of the rows
numbers-total : (q : ℕ) (f : ℕ → ℤ) (range : List ℕ) (ls : List (List ℤ × ℕ)) → AreApart ls
    → total (λ v. pos (number_at_place q ls v.1) *ℤ f v.0) (zip range (range_with_len 1 (length range))) ≡ total (term_of q range f) ls
numbers-total q f range [] apart =
    total-congruence (λ v. pos 0 *ℤ f v.0) (λ v. pos 0) (zip range (range_with_len 1 (length range))) (λ v. none (f v.0)) ∙ total-zero (zip range (range_with_len 1 (length range)))
  where
    none : (z : ℤ) → pos 0 *ℤ z ≡ pos 0
    none z = omega (arith, ints)
numbers-total q f range (l ∷ ls) apart =
    let placed = zip range (range_with_len 1 (length range)) in
    let h : ℕ → ℤ = λ i. pos (scaled q l) *ℤ f i in
    total-congruence (λ v. pos (number_at_place q (l ∷ ls) v.1) *ℤ f v.0) (λ v. at_place l.1 h v +ℤ (pos (number_at_place q ls v.1) *ℤ f v.0)) placed
    (λ v. each v (l.1 == v.1) refl)
    ∙ total-add (at_place l.1 h) (λ v. pos (number_at_place q ls v.1) *ℤ f v.0) placed
    ∙ ap₂ (λ x y. x +ℤ y) (placed-term q f range l) (numbers-total q f range ls apart.1)
  where
    alone : (z y : ℤ) (n : ℕ) → n ≡ 0 → z ≡ z +ℤ (pos n *ℤ y)
    alone z y n e = let gone = ap (λ m. pos m *ℤ y) e in omega (arith, ints)

    before : (z : ℤ) → z ≡ pos 0 +ℤ z
    before z = omega (arith, ints)

    each : (v : ℕ × ℕ) (t : Bool) → (l.1 == v.1) ≡ t
        → pos (cond t (scaled q l) (number_at_place q ls v.1)) *ℤ f v.0
        ≡ cond t (pos (scaled q l) *ℤ f v.0) (pos 0) +ℤ (pos (number_at_place q ls v.1) *ℤ f v.0)
    each v true is =
        alone (pos (scaled q l) *ℤ f v.0) (f v.0) (number_at_place q ls v.1)
        (ap (number_at_place q ls) (sym (eqb-true l.1 v.1 is)) ∙ number-none q l.1 ls apart.0)
    each v false is = before (pos (number_at_place q ls v.1) *ℤ f v.0)

-- a sum over the pairs with a number above 0 is that over the rows
pub pairs-total : (f : ℕ → ℤ) (range : List ℕ) (t : Tableau) → AreApart (zip t.rows t.basics)
    → total (λ u. u.1 *ℤ f u.0) (filter (λ u. int_lt (pos 0) u.1) (numbers_of_range range t))
    ≡ total (term_of (run_scale (length range) t) range f) (zip t.rows t.basics)
pairs-total f range t apart =
    let q = run_scale (length range) t in
    let ls = zip t.rows t.basics in
    let placed = zip range (range_with_len 1 (length range)) in
    let made : ℕ × ℕ → ℕ × ℤ = λ v. (v.0, pos (number_at_place q ls v.1)) in
    total-filter (λ u. u.1 *ℤ f u.0) (λ u. int_lt (pos 0) u.1) (map made placed)
    ∙ total-map (λ u. cond (int_lt (pos 0) u.1) (u.1 *ℤ f u.0) (pos 0)) made placed
    ∙ total-congruence (λ v. cond (int_lt (pos 0) (pos (number_at_place q ls v.1))) (pos (number_at_place q ls v.1) *ℤ f v.0) (pos 0))
    (λ v. pos (number_at_place q ls v.1) *ℤ f v.0) placed (λ v. kept (number_at_place q ls v.1) (f v.0))
    ∙ numbers-total q f range ls apart
  where
    above : (n : ℕ) → int_lt (pos 0) (pos (suc n)) ≡ true
    above n = grind (arith, ints)

    kept : (n : ℕ) (z : ℤ) → cond (int_lt (pos 0) (pos n)) (pos n *ℤ z) (pos 0) ≡ pos n *ℤ z
    kept zero z = omega (arith, ints)
    kept (suc n) z = ap (λ b. cond b (pos (suc n) *ℤ z) (pos 0)) (above n)
