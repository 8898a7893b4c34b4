-- Tables by Pascal's rule: each row is the sums of neighbours of the row above, after a 1.
use Rattle.std.proofs.Common.{◌≡◌, ℕ, zero, suc, ◌+◌, ◌-◌, ◌<◌, List, [], ◌∷◌, length, get_or, replicate, refl, sym, ap, ap₂, subst, ◌∙◌, arith}
use Rattle.ct_words.specs.Counting.Binomials.{choose, volume}
use Rattle.ct_words.proofs.Counting.Binomials.{volume-suc}
use Rattle.ct_words.specs.declared.triangle.TheConstants.{ROWS, BINOMIALS, BALLS}

-- the sums of neighbours, x before the numbers
abbrev sums : ℕ → List ℕ → List ℕ
sums x [] = []
sums x (y ∷ ys) = (x + y) ∷ sums y ys

-- the row below a row, as long as that
abbrev below : List ℕ → List ℕ
below [] = []
below (x ∷ xs) = 1 ∷ sums x xs

-- so many rows, each below the one before
abbrev rows : ℕ → List ℕ → List (List ℕ)
rows zero row = []
rows (suc m) row = row ∷ rows m (below row)

-- the two tables are such rows
binomials_are : BINOMIALS ≡ rows ROWS (1 ∷ replicate (ROWS - 1) 0)
binomials_are = refl

balls_are : BALLS ≡ rows ROWS (replicate ROWS 1)
balls_are = refl

-- Pascal's rule
record IsPascal (f : ℕ → ℕ → ℕ) : Type 0 where
  first : (n : ℕ) → f (suc n) 0 ≡ 1
  other : (n k : ℕ) → f (suc n) (suc k) ≡ f n k + f n (suc k)

-- the binomial coefficients have it by definition, the sizes of balls since they are sums of these
IsPascal-choose : IsPascal choose
IsPascal-choose = record { first = λ n. refl; other = λ n k. refl }

IsPascal-volume : IsPascal volume
IsPascal-volume = record {
  first = λ n. refl;
  other = λ n k. let sum = volume-suc n k in omega arith;
}

-- the numbers are f n k, f n (k + 1), and so on
abbrev AreValues : (ℕ → ℕ → ℕ) → ℕ → ℕ → List ℕ → Type 0
AreValues f n k [] = Unit {0}
AreValues f n k (x ∷ xs) = (x ≡ f n k) × AreValues f n (suc k) xs

AreValues-sums : (f : ℕ → ℕ → ℕ) (n k x : ℕ) (xs : List ℕ) → IsPascal f → x ≡ f n k → AreValues f n (suc k) xs
    → AreValues f (suc n) (suc k) (sums x xs)
AreValues-sums f n k x [] pascal is each = tt
AreValues-sums f n k x (y ∷ ys) pascal is each =
    (ap₂ (λ (i j : ℕ). i + j) is each.0 ∙ sym (pascal.other n k), AreValues-sums f n (suc k) y ys pascal each.0 each.1)

AreValues-below : (f : ℕ → ℕ → ℕ) (n : ℕ) (row : List ℕ) → IsPascal f → AreValues f n 0 row
    → AreValues f (suc n) 0 (below row)
AreValues-below f n [] pascal each = tt
AreValues-below f n (x ∷ xs) pascal each = (sym (pascal.first n), AreValues-sums f n 0 x xs pascal each.0 each.1)

-- so each row is
AreValues-row : (f : ℕ → ℕ → ℕ) (m n i j : ℕ) (row : List ℕ) → IsPascal f → AreValues f n 0 row → i < m → n + i ≡ j
    → AreValues f j 0 (get_or (rows m row) i [])
AreValues-row f zero n i j row pascal each within is = absurd (omega arith)
AreValues-row f (suc m) n zero j row pascal each within is =
    let same : n ≡ j = omega arith in
    subst (λ k. AreValues f k 0 row) same each
AreValues-row f (suc m) n (suc i) j row pascal each within is =
    AreValues-row f m (suc n) i j (below row) pascal (AreValues-below f n row pascal each) (omega arith) (omega arith)

-- and as long as the first
length-sums : (x : ℕ) (xs : List ℕ) → length (sums x xs) ≡ length xs
length-sums x [] = refl
length-sums x (y ∷ ys) = let rest = length-sums y ys in omega arith

length-below : (row : List ℕ) → length (below row) ≡ length row
length-below [] = refl
length-below (x ∷ xs) = let rest = length-sums x xs in omega arith

length-row : (m i : ℕ) (row : List ℕ) → i < m → length (get_or (rows m row) i []) ≡ length row
length-row zero i row within = absurd (omega arith)
length-row (suc m) zero row within = refl
length-row (suc m) (suc i) row within = length-row m i (below row) (omega arith) ∙ length-below row

-- a number of a row
number_at : (f : ℕ → ℕ → ℕ) (n k i j : ℕ) (xs : List ℕ) → AreValues f n k xs → i < length xs → k + i ≡ j
    → get_or xs i 0 ≡ f n j
number_at f n k i j [] each within is = absurd (omega arith)
number_at f n k zero j (x ∷ xs) each within is =
    let same : k ≡ j = omega arith in
    each.0 ∙ ap (f n) same
number_at f n k (suc i) j (x ∷ xs) each within is = number_at f n (suc k) i j xs each.1 (omega arith) (omega arith)

-- a number of a table
number_of_rows : (f : ℕ → ℕ → ℕ) (m n k : ℕ) (row : List ℕ) → IsPascal f → AreValues f 0 0 row → n < m → k < length row
    → get_or (get_or (rows m row) n []) k 0 ≡ f n k
number_of_rows f m n k row pascal each long within =
    let numbers = AreValues-row f m 0 n n row pascal each long (omega arith) in
    let size = length-row m n row long in
    number_at f n 0 k k (get_or (rows m row) n []) numbers (omega arith) (omega arith)

-- the first rows: of no places one coefficient is not 0, and each ball of no places has one word
coefficients_of_none : (m k : ℕ) → AreValues choose 0 (suc k) (replicate m 0)
coefficients_of_none zero k = tt
coefficients_of_none (suc m) k = (refl, coefficients_of_none m (suc k))

volume-none : (k : ℕ) → volume 0 k ≡ 1
volume-none zero = refl
volume-none (suc k) = let fewer = volume-none k in omega arith

balls_of_none : (m k : ℕ) → AreValues volume 0 k (replicate m 1)
balls_of_none zero k = tt
balls_of_none (suc m) k = (sym (volume-none k), balls_of_none m (suc k))

-- what is looked up
pub binomial_is : (n k : ℕ) → n < ROWS → k < ROWS → get_or (get_or BINOMIALS n []) k 0 ≡ choose n k
binomial_is n k long within =
    subst (λ table. get_or (get_or table n []) k 0 ≡ choose n k) (sym binomials_are)
    (number_of_rows choose ROWS n k (1 ∷ replicate (ROWS - 1) 0) IsPascal-choose (refl, coefficients_of_none (ROWS - 1) 0) long within)

pub ball_is : (n e : ℕ) → n < ROWS → e < ROWS → get_or (get_or BALLS n []) e 0 ≡ volume n e
ball_is n e long within =
    subst (λ table. get_or (get_or table n []) e 0 ≡ volume n e) (sym balls_are)
    (number_of_rows volume ROWS n e (replicate ROWS 1) IsPascal-volume (balls_of_none ROWS 0) long within)
