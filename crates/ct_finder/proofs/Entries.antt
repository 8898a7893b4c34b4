-- Entries of rows at their columns.
use Rattle.ct_finder.specs.Inside.Pivot.{crossed}
use Rattle.ct_finder.specs.Inside.Rows.{rows_to}
use Rattle.std.proofs.Common.{◌≡◌, ℕ, zero, suc, ◌+◌, ◌<◌, ◌≤◌, ◌==◌, Bool, true, false, cond, ◌||◌, List, [], ◌∷◌, ◌++◌, map, length, refl, sym, ap, ◌∙◌, arith, eqb-true}
use Rattle.std.specs.Prelude.{ℤ, pos, ◌-ℤ◌, ◌*ℤ◌, int_div, unsigned_abs}
use Rattle.std.specs.List.{AllByRecursion, range_with_len, list_any}
use Rattle.std.specs.Int.{◌∣◌}
use Rattle.std.proofs.lemmas.Int.{ints}
use Rattle.std.proofs.lemmas.Bool.{eqb-false}
use Rattle.ct_finder.specs.Column.{Column, same_column, columns}
use Rattle.ct_finder.specs.Column.Column.{Z, A, S, Constant}
use Rattle.ct_finder.specs.Divisor.{divisor, reduced}
use Rattle.ct_finder.specs.Run.{coefficient}
use Rattle.ct_finder.proofs.Divisors.{divisor-some, divisor-divides, quotient-exact}

-- columns that pass the test are one
pub same_column-is : (c d : Column) → same_column c d ≡ true → c ≡ d
same_column-is Z Z h = refl
same_column-is Z (A i) h = absurd cc
same_column-is Z (S k) h = absurd cc
same_column-is Z Constant h = absurd cc
same_column-is (A i) Z h = absurd cc
same_column-is (A i) (A j) h = ap A (eqb-true i j h)
same_column-is (A i) (S k) h = absurd cc
same_column-is (A i) Constant h = absurd cc
same_column-is (S k) Z h = absurd cc
same_column-is (S k) (A i) h = absurd cc
same_column-is (S k) (S l) h = ap S (eqb-true k l h)
same_column-is (S k) Constant h = absurd cc
same_column-is Constant Z h = absurd cc
same_column-is Constant (A i) h = absurd cc
same_column-is Constant (S k) h = absurd cc
same_column-is Constant Constant h = refl

-- whether a column is among others
abbrev pub is_among : List Column → Column → Bool
is_among cs c = list_any (λ x. same_column x c) cs

-- a row that is given column by column
pub coefficient-map : (f : Column → ℤ) (cs : List Column) (c : Column) → is_among cs c ≡ true → coefficient cs (map f cs) c ≡ f c
coefficient-map f [] c h = absurd cc
coefficient-map f (x ∷ cs) c h = go (same_column x c) refl (coefficient-map f cs c)
  where
    go : (t : Bool) → same_column x c ≡ t → (is_among cs c ≡ true → coefficient cs (map f cs) c ≡ f c) → cond t (f x) (coefficient cs (map f cs) c) ≡ f c
    go true is rest = ap f (same_column-is x c is)
    go false is rest = rest (ap (λ t. t || is_among cs c) (sym is) ∙ h)

-- which columns there are
pub among-a : (i : ℕ) (range : List ℕ) (rest : List Column) → list_any (λ j. j == i) range ≡ true → is_among (map A range ++ rest) (A i) ≡ true
among-a i [] rest h = absurd cc
among-a i (j ∷ range) rest h = go (j == i) refl (among-a i range rest)
  where
    go : (t : Bool) → (j == i) ≡ t → (list_any (λ m. m == i) range ≡ true → is_among (map A range ++ rest) (A i) ≡ true)
        → (t || is_among (map A range ++ rest) (A i)) ≡ true
    go true is ih = refl
    go false is ih = ih (ap (λ t. t || list_any (λ m. m == i) range) (sym is) ∙ h)

pub among-s : (k a n : ℕ) (rest : List Column) → a ≤ k → k < a + n → is_among (map S (range_with_len a n) ++ rest) (S k) ≡ true
among-s k a zero rest low high = absurd (omega arith)
among-s k a (suc n) rest low high = go (a == k) refl (among-s k (a + 1) n rest)
  where
    go : (t : Bool) → (a == k) ≡ t → (a + 1 ≤ k → k < a + 1 + n → is_among (map S (range_with_len (a + 1) n) ++ rest) (S k) ≡ true)
        → (t || is_among (map S (range_with_len (a + 1) n) ++ rest) (S k)) ≡ true
    go true is ih = refl
    go false is ih = ih (omega (arith, eqb-false a k is)) (omega arith)

later : (front rest : List Column) (c : Column) → is_among rest c ≡ true → is_among (front ++ rest) c ≡ true
later [] rest c h = h
later (x ∷ front) rest c h = go (same_column x c) (later front rest c h)
  where
    go : (t : Bool) → is_among (front ++ rest) c ≡ true → (t || is_among (front ++ rest) c) ≡ true
    go true ih = refl
    go false ih = ih

pub has-a : (range : List ℕ) (degree i : ℕ) → list_any (λ j. j == i) range ≡ true → is_among (columns range degree) (A i) ≡ true
has-a range degree i h = among-a i range (map S (rows_to degree) ++ Constant ∷ []) h

pub has-s : (range : List ℕ) (degree k : ℕ) → 1 ≤ k → k ≤ degree → is_among (columns range degree) (S k) ≡ true
has-s range degree k low high =
    later (map A range) (map S (rows_to degree) ++ Constant ∷ []) (S k) (among-s k 1 degree (Constant ∷ []) low (omega arith))

pub has-constant : (range : List ℕ) (degree : ℕ) → is_among (columns range degree) Constant ≡ true
has-constant range degree =
    later (map A range) (map S (rows_to degree) ++ Constant ∷ []) Constant (later (map S (rows_to degree)) (Constant ∷ []) Constant refl)

-- the entries of p · R - r · P
pub coefficient-crossed : (cs : List Column) (p r : ℤ) (pivot row : List ℤ) → length row ≡ length pivot → (c : Column)
    → coefficient cs (crossed p r pivot row) c ≡ (p *ℤ coefficient cs row c) -ℤ (r *ℤ coefficient cs pivot c)
coefficient-crossed [] p r pivot row e c = omega (arith, ints)
coefficient-crossed (x ∷ cs) p r [] [] e c = omega (arith, ints)
coefficient-crossed (x ∷ cs) p r [] (v ∷ row) e c = absurd (omega arith)
coefficient-crossed (x ∷ cs) p r (u ∷ pivot) [] e c = absurd (omega arith)
coefficient-crossed (x ∷ cs) p r (u ∷ pivot) (v ∷ row) e c = go (same_column x c) (coefficient-crossed cs p r pivot row (omega arith) c)
  where
    go : (t : Bool)
        → coefficient cs (crossed p r pivot row) c ≡ (p *ℤ coefficient cs row c) -ℤ (r *ℤ coefficient cs pivot c)
        → cond t ((p *ℤ v) -ℤ (r *ℤ u)) (coefficient cs (crossed p r pivot row) c)
        ≡ (p *ℤ cond t v (coefficient cs row c)) -ℤ (r *ℤ cond t u (coefficient cs pivot c))
    go true ih = refl
    go false ih = ih

-- the entries of a row whose entries are divided
coefficient-divided : (g : ℕ) → 1 ≤ g → (cs : List Column) (row : List ℤ) → AllByRecursion (λ z. g ∣ unsigned_abs z) row → (c : Column)
    → pos g *ℤ coefficient cs (map (λ z. int_div z (pos g)) row) c ≡ coefficient cs row c
coefficient-divided g some [] row h c = omega (arith, ints)
coefficient-divided g some (x ∷ cs) [] h c = omega (arith, ints)
coefficient-divided g some (x ∷ cs) (v ∷ row) h c = go (same_column x c) (coefficient-divided g some cs row h.1 c)
  where
    go : (t : Bool)
        → pos g *ℤ coefficient cs (map (λ z. int_div z (pos g)) row) c ≡ coefficient cs row c
        → pos g *ℤ cond t (int_div v (pos g)) (coefficient cs (map (λ z. int_div z (pos g)) row) c) ≡ cond t v (coefficient cs row c)
    go true ih = quotient-exact g v some h.0
    go false ih = ih

pub coefficient-reduced : (cs : List Column) (row : List ℤ) (c : Column) → pos (divisor row) *ℤ coefficient cs (reduced row) c ≡ coefficient cs row c
coefficient-reduced cs row c = coefficient-divided (divisor row) (divisor-some row) cs row (divisor-divides row) c
