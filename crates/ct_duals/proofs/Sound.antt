-- No code is larger than the bound of an accepted dual, by the laws of a scheme alone.
use Rattle.std.proofs.Common.{◌≡◌, ℕ, suc, ◌+◌, ◌-◌, ◌*◌, ◌<◌, ◌≤◌, true, false, cond, ◌==◌, List, [], ◌∷◌, length, get_or, refl, sym, ap, ◌∙◌, subst, arith, inl, inr, eqb-true, ne_eqb}
use Rattle.std.specs.Prelude.{ℤ, pos, ◌*ℤ◌, ◌≤ℤ◌, Option, None, Some}
use Rattle.std.specs.List.{All, AllPairs, AllByRecursion}
use Rattle.std.proofs.lemmas.Int.{ints}
use Rattle.std.proofs.lemmas.Nat.{mul-le}
use Rattle.std.proofs.lemmas.List.Elements.{All-cons, All-nil, recursion_from_All}
use Rattle.ct_words.specs.Counting.Sums.{total}
use Rattle.ct_words.specs.Counting.PairTotals.{pair_total}
use Rattle.ct_words.specs.Counting.Alternating.{total_below}
use Rattle.ct_words.proofs.Counting.Pairs.{AllPairs-others}
use Rattle.ct_words.proofs.Counting.DoubleCounting.{count_by-le_one}
use Rattle.ct_words.proofs.Counting.PairTotals.{pair_total-congruence_within}
use Rattle.ct_words.specs.Word.{distance}
use Rattle.ct_words.proofs.WordLemmas.{distance_comm, distance_same, distance-triangle}
use Rattle.ct_words.specs.Scheme.{IsPositive}
use Rattle.ct_words.proofs.EntryLemmas.{entry_limits}
use Rattle.ct_duals.specs.declared.dual.Dual.{Dual}
use Rattle.ct_words.specs.Numbers.{multiplier, combination}
use Rattle.ct_duals.specs.Dual.{IsWordOf, as_index, index_of, Fits, allowed, is_in_range, IsDual}
use Rattle.ct_duals.specs.Check.{IsBelow}
use Rattle.ct_words.proofs.Counting.Combinations.{combination-below, total-le_within, total-constant, words-within}
use Rattle.ct_duals.proofs.Allowed.{count_at, weighed, weighed-cons, allowed-within}

-- what a scheme keeps
pub record AreLaws (belongs : ℕ → Type 0) (index : ℕ → ℕ → ℕ) (degree : ℕ) (number : ℕ → ℕ → ℤ) : Type 0 where
  pub positive_rows : (k : ℕ) → k ≤ degree → IsPositive belongs index (number k)
  pub ones : (i : ℕ) → i ≤ degree → number 0 i ≡ pos 1
  pub within : (x y : ℕ) → belongs x → belongs y → index x y ≤ degree
  pub itself : (x : ℕ) → belongs x → index x x ≡ 0

-- each two words are far apart, and their index is in the range
abbrev pub AreInRange : Dual → ℕ → ℕ → Type 0
AreInRange d x y = (d.entry.d ≤ distance d.entry.n x y) × (is_in_range d.entry d.even (index_of d.entry x y) ≡ true)

-- an index of 0 is a distance of at most 1
zero_index : (w : Option ℕ) (t : ℕ) → as_index w t ≡ 0 → t ≤ 1
zero_index None t h = omega arith
zero_index (Some w) t h = omega arith

-- a distance from 3 on has no index of 0
pub some_index : (w : Option ℕ) (t : ℕ) → 3 ≤ t → 1 ≤ as_index w t
some_index None t h = omega arith
some_index (Some w) t h = omega arith

-- f over a word of a code and all its words adds up to at most f(0) and what is allowed for as many words as there are at each index
row-within : (number : ℕ → ℕ → ℤ) (d : Dual) (a : ℕ) (words : List ℕ) → 3 ≤ d.entry.d → All (λ p. pos 0 ≤ℤ p.1) d.y → IsBelow number d
    → combination number d.c 0 ≡ pos a → AllPairs (AreInRange d) words
    → (p e : ℕ) → p < length words
    → total (λ z. combination number d.c (index_of d.entry (get_or words p e) z)) words
    ≤ℤ pos (a + weighed (count_at (index_of d.entry (get_or words p e)) words) d.y)
row-within number d a words least some below start apart p e l =
    let n = d.entry.n in
    let x = get_or words p e in
    let t : ℕ → ℕ = index_of d.entry x in
    let y : List (ℕ × ℤ) = (0, pos a) ∷ d.y in
    let turns : (u v : ℕ) → AreInRange d u v → AreInRange d v u =
    λ u v h.
    let same = distance_comm n u v in
    (subst (λ t. d.entry.d ≤ t) same h.0, ap (λ t. is_in_range d.entry d.even (as_index d.entry.w t)) (sym same) ∙ h.1) in
    let nonneg : AllByRecursion (λ p. pos 0 ≤ℤ p.1) y = (omega (arith, ints), recursion_from_All (λ p. pos 0 ≤ℤ p.1) d.y some) in
    let each : All (λ z. combination number d.c (t z) ≤ℤ allowed y (t z)) words =
    λ k f r.
    let z = get_or words k f in
    elim (AllPairs-others (AreInRange d) words turns apart p e l k f r) [
      | inl same ↦
          let itself : t z ≡ 0 = ap t (sym same) ∙ ap (as_index d.entry.w) (distance_same n x) ∙ zero_at d.entry.w in
          let value = ap (combination number d.c) itself ∙ start in
          let limit = ap (allowed y) itself in
          omega (arith, ints)
      | inr far ↦
          let value = below (t z) far.1 in
          let index = some_index d.entry.w (distance n x z) (omega (arith, far.0)) in
          let limit : allowed y (t z) ≡ allowed d.y (t z) = past (t z) index in
          omega (arith, ints)
    ] in
    let sums = total-le_within (λ z. combination number d.c (t z)) (λ z. allowed y (t z)) words
    (recursion_from_All (λ z. combination number d.c (t z) ≤ℤ allowed y (t z)) words each) in
    let all = allowed-within t words y nonneg in
    let split = weighed-cons (count_at t words) (0, pos a) d.y in
    let once : count_at t words 0 ≤ 1 =
    count_by-le_one (λ z. t z == 0) words (λ i j f order r first.
    let u = get_or words i f in
    let v = get_or words j f in
    let far = (apart i j f order r).0 in
    not_zero (t v) (λ second.
    let near_u = zero_index d.entry.w (distance n x u) (eqb-true (t u) 0 first) in
    let near_v = zero_index d.entry.w (distance n x v) second in
    let turned = distance_comm n x u in
    let triangle = distance-triangle n u x v in
    omega arith)) in
    let product = mul-le a (count_at t words 0) a 1 (omega arith) once in
    omega (arith, ints)
  where
    zero_at : (w : Option ℕ) → as_index w 0 ≡ 0
    zero_at None = refl
    zero_at (Some w) = refl

    past : (i : ℕ) → 1 ≤ i → allowed ((0, pos a) ∷ d.y) i ≡ allowed d.y i
    past i h = ap (λ b. cond b (pos a) (allowed d.y i)) (ne_eqb i 0 (λ e. omega arith))

    not_zero : (i : ℕ) → (i ≡ 0 → ⊥) → (i == 0) ≡ false
    not_zero i h = ne_eqb i 0 h

-- a combination adds up to at least c_0 times the number of pairs, over the pairs of words of the space
pub pairs-at_least : (belongs : ℕ → Type 0) (index : ℕ → ℕ → ℕ) (degree : ℕ) (number : ℕ → ℕ → ℤ) (d : Dual) → AreLaws belongs index degree number
    → Fits belongs index degree number d.entry → IsDual d → (words : List ℕ) → All (IsWordOf d.entry) words
    → (multiplier d.c 0 *ℤ pos (length words * length words)) ≤ℤ pair_total (λ x y. combination number d.c (index_of d.entry x y)) words
pairs-at_least belongs index degree number d laws fits form words all =
    let e = d.entry in
    let m = length d.c - 1 in
    let rows_are : suc m ≡ length d.c = omega (arith, form.some) in
    let f : ℕ → ℕ → ℕ → ℤ = λ k x y. number k (index_of e x y) in
    let ours : All belongs words = λ k o l. fits.words _ (all k o l) in
    let same : index ≡ index_of e = λ i x y. fits.same_index x y i in
    let first : pair_total (f 0) words ≡ pair_total (λ x y. pos 1) words =
    pair_total-congruence_within (IsWordOf e) (f 0) (λ x y. pos 1) words
    (λ x y p q. laws.ones (index_of e x y) (subst (λ t. t ≤ degree) (fits.same_index x y) (laws.within x y (fits.words x p) (fits.words y q)))) all in
    let row = total-constant 1 words in
    let counted : pair_total (λ x y. pos 1) words ≡ pos (length words * length words) =
    ap (λ (z : ℤ). total (λ x. z) words) row ∙ total-constant (length words * 1) words ∙ ap pos (omega arith) in
    let rows : (k : ℕ) → k ≤ m → pos 0 ≤ℤ pair_total (f k) words =
    λ k l. subst (λ (ix : ℕ → ℕ → ℕ). pos 0 ≤ℤ pair_total (λ x y. number k (ix x y)) words) same
    (laws.positive_rows k (omega (arith, form.few, form.some, fits.same_degree)) words ours) in
    let below = combination-below (multiplier d.c) f m words (λ k l. form.multipliers k (pos 0) (omega (arith, form.some))) (first ∙ counted) rows in
    subst (λ c. (multiplier d.c 0 *ℤ pos (length words * length words)) ≤ℤ pair_total (λ x y. total_below (λ k. multiplier d.c k *ℤ f k x y) c) words) rows_are below

-- so f(0) is at least c_0
pub lead-within : (belongs : ℕ → Type 0) (index : ℕ → ℕ → ℕ) (degree : ℕ) (number : ℕ → ℕ → ℤ) (d : Dual) → AreLaws belongs index degree number
    → Fits belongs index degree number d.entry → IsDual d → (x : ℕ) → IsWordOf d.entry x → multiplier d.c 0 ≤ℤ combination number d.c 0
lead-within belongs index degree number d laws fits form x word =
    let pairs = pairs-at_least belongs index degree number d laws fits form (x ∷ []) (All-cons (IsWordOf d.entry) x [] word (All-nil (IsWordOf d.entry))) in
    let itself = ap (combination number d.c) (sym (fits.same_index x x) ∙ laws.itself x (fits.words x word)) in
    omega (arith, ints)

-- where each word has at most r allowed, f adds up to at most f(0) + r for each word
pub pairs-at_most : (number : ℕ → ℕ → ℤ) (d : Dual) → IsDual d → IsBelow number d → (a r : ℕ) → combination number d.c 0 ≡ pos a
    → (words : List ℕ) → AllPairs (AreInRange d) words
    → ((p e : ℕ) → p < length words → weighed (count_at (index_of d.entry (get_or words p e)) words) d.y ≤ r)
    → pair_total (λ x y. combination number d.c (index_of d.entry x y)) words ≤ℤ pos (length words * (a + r))
pairs-at_most number d form below a r start words apart rests =
    let e = d.entry in
    let limits = entry_limits e form.entry in
    let f : ℕ → ℕ → ℤ = λ x z. combination number d.c (index_of e x z) in
    let each : All (λ x. total (f x) words ≤ℤ pos (a + r)) words =
    λ p o l.
    let row = row-within number d a words limits.distance_from (λ k q h. (form.allowances k q h).1) below start apart p o l in
    let rest = rests p o l in
    omega (arith, ints) in
    let most = total-le_within (λ x. total (f x) words) (λ x. pos (a + r)) words (recursion_from_All (λ x. total (f x) words ≤ℤ pos (a + r)) words each) in
    let size = total-constant (a + r) words in
    omega (arith, ints)

-- where each word has at most r allowed, there are at most (f(0) + r) / c_0 words
pub size-within : (belongs : ℕ → Type 0) (index : ℕ → ℕ → ℕ) (degree : ℕ) (number : ℕ → ℕ → ℤ) (d : Dual) → AreLaws belongs index degree number
    → Fits belongs index degree number d.entry → IsDual d → IsBelow number d → (a c r : ℕ) → combination number d.c 0 ≡ pos a → multiplier d.c 0 ≡ pos c → 1 ≤ c
    → (words : List ℕ) → All (IsWordOf d.entry) words → AllPairs (AreInRange d) words
    → ((p e : ℕ) → p < length words → weighed (count_at (index_of d.entry (get_or words p e)) words) d.y ≤ r)
    → c * length words ≤ a + r
size-within belongs index degree number d laws fits form below a c r start lead some words all apart rests =
    let pairs = pairs-at_least belongs index degree number d laws fits form words all in
    let most = pairs-at_most number d form below a r start words apart rests in
    let lead_is = ap (λ z. z *ℤ pos (length words * length words)) lead in
    words-within c (a + r) (length words) some (omega (arith, ints))
