-- Duals of Delsarte's linear program (Delsarte 1973; MacWilliams and Sloane, chapter 17, section 4), and the spaces of words that they speak of.
use Rattle.std.specs.Prelude.{◌≡◌, ℕ, suc, ◌-◌, ◌*◌, ◌/◌, ◌%◌, ◌^◌, ◌<◌, ◌≤◌, min, Bool, true, false, not, ◌==◌, ◌&&◌, ◌||◌, nat_le, if◌then◌else◌, IsTrue, List, [], ◌∷◌, length, ℤ, pos, ◌≤ℤ◌, ◌<ℤ◌, All, AllPairs, Option, Some, None, IfSome}
use Rattle.ct_words.specs.Word.{weight, distance}
use Rattle.ct_words.specs.declared.entry.Entry.{Entry}
use Rattle.ct_words.specs.Entry.{IsEntry}
use Rattle.ct_words.specs.Numbers.{numbers_of}
use Rattle.ct_duals.specs.declared.dual.Dual.{Dual}

-- the words of the space of an entry: those of its length, and of its weight where one is given
abbrev pub IsWordOf : Entry → ℕ → Type 0
IsWordOf e x = (x < 2 ^ e.n) × IfSome e.w (λ w. weight e.n x ≡ w)

-- a distance as an index: half of it where there is a weight, since two words of one weight are at an even distance
abbrev pub as_index : Option ℕ → ℕ → ℕ
as_index None t = t
as_index (Some w) t = t / 2

-- the distance of two words of the space that have the index
abbrev pub as_distance : Option ℕ → ℕ → ℕ
as_distance None i = i
as_distance (Some w) i = 2 * i

-- the index of two words of the space
abbrev pub index_of : Entry → ℕ → ℕ → ℕ
index_of e x y = as_index e.w (distance e.n x y)

-- the greatest index of words of length n
abbrev pub greatest_index : ℕ → Option ℕ → ℕ
greatest_index n None = n
greatest_index n (Some w) = min w (n - w)

-- the degree of the scheme of an entry
abbrev pub degree_of : Entry → ℕ
degree_of e = greatest_index e.n e.w

-- a scheme is that of the entry: it has its space of words, with their index, its degree and its numbers
pub record Fits (belongs : ℕ → Type 0) (index : ℕ → ℕ → ℕ) (degree : ℕ) (number : ℕ → ℕ → ℤ) (e : Entry) : Type 0 where
  pub words : (x : ℕ) → IsWordOf e x → belongs x
  pub same_index : (x y : ℕ) → index x y ≡ index_of e x y
  pub same_degree : degree ≡ degree_of e
  pub numbers : (k i : ℕ) → number k i ≡ numbers_of e k i

-- what is allowed at i: y_i, and 0 where no y_i is named
abbrev pub allowed : List (ℕ × ℤ) → ℕ → ℤ
allowed [] i = pos 0
allowed (p ∷ y) i = if i == p.0 then p.1 else allowed y i

-- whether two words of a code of the entry may have the index: it is at least that of the distance d, at most the degree, and even where the dual speaks only of even distances
abbrev pub is_in_range : Entry → Bool → ℕ → Bool
is_in_range e even i = nat_le (as_index e.w e.d) i && nat_le i (degree_of e) && (not even || i % 2 == 0)

-- only duals of entries without weight speak of even distances alone
abbrev pub IsMarkOf : Option ℕ → Bool → Type 0
IsMarkOf None even = Unit {0}
IsMarkOf (Some w) even = even ≡ false

-- with a weight nothing is allowed
abbrev pub AllowsNone : Option ℕ → List (ℕ × ℤ) → Type 0
AllowsNone None y = Unit {0}
AllowsNone (Some w) y = y ≡ []

-- the form of a dual: it is of an entry of the table; c has 1 to degree + 1 numbers, all at least 0; y names indices of the range in ascending order, each with a number of at least 0; all these numbers are below 2^63
pub record IsDual (d : Dual) : Type 0 where
  pub entry : IsEntry d.entry
  pub even_distance : d.even ≡ true → d.entry.d % 2 ≡ 0
  pub weighted : IsMarkOf d.entry.w d.even
  pub some : 1 ≤ length d.c
  pub few : length d.c ≤ suc (degree_of d.entry)
  pub multipliers : All (λ z. pos 0 ≤ℤ z) d.c
  pub ascending : AllPairs (λ p q. p.0 < q.0) d.y
  pub allowances : All (λ p. IsTrue (is_in_range d.entry d.even p.0) × (pos 0 ≤ℤ p.1)) d.y
  pub signed : All (λ z. z <ℤ pos (2 ^ 63)) d.c × All (λ p. p.1 <ℤ pos (2 ^ 63)) d.y
