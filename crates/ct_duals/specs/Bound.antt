-- The bound that an accepted dual gives (Delsarte 1973), from bounds of the codes of constant weight that lie about a word (Best, Brouwer, MacWilliams, Odlyzko and Sloane 1978).
use Rattle.std.specs.Prelude.{◌≡◌, ℕ, ◌+◌, ◌*◌, ◌/◌, ◌≤◌, min, max, Bool, not, nat_le, List, [], ◌∷◌, length, map, filter, ℤ, pos, negsuc, ◌+ℤ◌, ◌*ℤ◌, ◌≤ℤ◌, int_lt}
use Rattle.std.specs.List.{sum_by}
use Rattle.ct_words.specs.declared.limits.TheConstants.{MAX_BOUND}
use Rattle.ct_words.specs.declared.entry.Entry.{Entry}
use Rattle.ct_words.specs.Entry.{constant_weight}
use Rattle.ct_words.specs.Numbers.{numbers_of, multiplier, combination}
use Rattle.ct_words.specs.Counting.PairTotals.{pair_total}
use Rattle.ct_words.specs.Code.{IsCodeOf, IsTrueUpper}
use Rattle.ct_words.specs.Constructions.Even.{even_from}
use Rattle.ct_duals.specs.declared.dual.Dual.{Dual}
use Rattle.ct_duals.specs.Dual.{as_distance, index_of, IsDual}
use Rattle.ct_duals.specs.Check.{IsBelow}

-- a whole number as a natural number, 0 where it is below 0
abbrev pub natural : ℤ → ℕ
natural (pos n) = n
natural (negsuc n) = 0

-- the indices where more than 0 is allowed
abbrev pub positive : List (ℕ × ℤ) → List (ℕ × ℤ)
positive y = filter (λ p. int_lt (pos 0) p.1) y

-- the entries whose bounds the dual rests on: A(n,2⌈d/2⌉,t) for the distance t of each index where more than 0 is allowed. The words at
-- distance t from a word of a code have, that word added, weight t
abbrev pub dual_premises : Dual → List Entry
dual_premises d = map (λ p. constant_weight d.entry.n (even_from d.entry.d) (as_distance d.entry.w p.0)) (positive d.y)

-- each entry has the upper bound at its place
abbrev pub AreTrueUppers : List Entry → List ℕ → Type 0
AreTrueUppers [] [] = Unit {0}
AreTrueUppers (e ∷ es) (u ∷ us) = IsTrueUpper e u × AreTrueUppers es us
AreTrueUppers es us = ⊥

-- as many numbers as others, each at most the one at its place among the others
abbrev pub AreAtMost : List ℕ → List ℕ → Type 0
AreAtMost [] [] = Unit {0}
AreAtMost (u ∷ us) (v ∷ vs) = (u ≤ v) × AreAtMost us vs
AreAtMost us vs = ⊥

-- y_i · U_i for each of the indices, with the index
abbrev pub charges : List (ℕ × ℤ) → List ℕ → List (ℕ × ℕ)
charges (p ∷ ps) (u ∷ us) = (p.0, natural p.1 * u) ∷ charges ps us
charges ps us = []

-- the group G, 2t ≥ 2n - d for the distance t of the index: two words at different distances of it from one word are closer to each other than d
abbrev pub is_far : Entry → ℕ → Bool
is_far e i = nat_le (2 * e.n) (2 * as_distance e.w i + e.d)

-- the greatest of the numbers, 0 where there is none
abbrev pub greatest : List ℕ → ℕ
greatest [] = 0
greatest (v ∷ vs) = max v (greatest vs)

-- S: the sum outside G
abbrev pub near_charge : Entry → List (ℕ × ℕ) → ℕ
near_charge e charges = sum_by (λ p. p.1) (filter (λ p. not (is_far e p.0)) charges)

-- T: the greatest in G
abbrev pub far_charge : Entry → List (ℕ × ℕ) → ℕ
far_charge e charges = greatest (map (λ p. p.1) (filter (λ p. is_far e p.0) charges))

-- f(0) + S + T: over a word of a code and all its words, each pair of different words at an index of the range, f adds up to at most that
abbrev pub dual_spread : Dual → ℤ → List ℕ → ℤ
dual_spread d at_zero uppers =
    let all = charges (positive d.y) uppers in
    at_zero +ℤ pos (near_charge d.entry all + far_charge d.entry all)

-- the least of MAX_BOUND and ⌊(f(0) + S + T)/c_0⌋
unfoldable pub dual_bound : Dual → ℤ → List ℕ → ℕ
dual_bound d at_zero uppers = min MAX_BOUND (natural (dual_spread d at_zero uppers) / natural (multiplier d.c 0))

-- each code of an entry has as many words as a code of the entry over whose ordered pairs, each word with itself included, f adds up to at most s for each word
abbrev pub IsSpread : Entry → (ℕ → ℤ) → ℤ → Type 0
IsSpread e f s =
    (words : List ℕ) → IsCodeOf e words
    → (others : List ℕ) × (length others ≡ length words) × IsCodeOf e others × (pair_total (λ x y. f (index_of e x y)) others ≤ℤ (pos (length words) *ℤ s))

-- a dual as callers of an accepted one see it, and what stands for its f(0)
pub record AcceptedValue : Type 0 where
  pub dual : Dual
  pub at_zero : ℤ

-- a dual stands: it has the form of one, c_0 is at least 1, and f(i) at most y_i at each index i of the range, where y_i is 0 if it is not named and f is made of the numbers of the scheme of its entry; `at_zero` is f(0)
pub record IsAccepted (a : AcceptedValue) : Type 0 where
  pub form : IsDual a.dual
  pub lead : pos 1 ≤ℤ multiplier a.dual.c 0
  pub below : IsBelow (numbers_of a.dual.entry) a.dual
  pub at_zero_is : a.at_zero ≡ combination (numbers_of a.dual.entry) a.dual.c 0
