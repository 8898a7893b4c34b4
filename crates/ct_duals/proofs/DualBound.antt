-- The bound of an accepted dual is true, by the laws of a scheme alone.
use Rattle.std.proofs.Common.{◌≡◌, ℕ, suc, ◌+◌, ◌*◌, ◌/◌, ◌%◌, ◌^◌, ◌<◌, ◌≤◌, Bool, true, false, not, ◌==◌, ◌&&◌, ◌||◌, List, [], ◌∷◌, length, get_or, refl, sym, ap, ap₂, ◌∙◌, subst, arith, eq-eqb, leb-true, le-leb}
use Rattle.std.specs.Prelude.{min, ℤ, pos, ◌+ℤ◌, ◌*ℤ◌, ◌≤ℤ◌, int_lt, Option, None, Some, nat_le, IsTrue}
use Rattle.std.specs.List.{All, AllPairs}
use Rattle.std.proofs.lemmas.Int.{ints}
use Rattle.std.proofs.lemmas.Nat.{le-div}
use Rattle.std.proofs.Math.Nat.{pow-le-pow_right}
use Rattle.std.proofs.lemmas.List.Kept.{AllPairs-filter}
use Rattle.ct_words.proofs.Counting.Pairs.{AllPairs-weaker, AllPairs-head, AllPairs-tail}
use Rattle.std.proofs.lemmas.List.Elements.{All-head, All-tail}
use Rattle.std.proofs.lemmas.Bool.{and_parts}
use Rattle.ct_words.specs.declared.limits.TheConstants.{MAX_BOUND, MAX_N}
use Rattle.ct_words.specs.Word.{distance}
use Rattle.ct_words.specs.Counting.PairTotals.{pair_total}
use Rattle.ct_words.specs.declared.entry.Entry.{Entry}
use Rattle.ct_words.specs.Entry.{IsEntry}
use Rattle.ct_words.specs.Code.{IsCode, IsCodeOf, IsTrueUpper}
use Rattle.ct_words.proofs.EntryLemmas.{entry_limits}
use Rattle.ct_words.proofs.BoundLemmas.{one_is_lower}
use Rattle.ct_words.proofs.CheckLemmas.{code_size-le}
use Rattle.ct_duals.specs.declared.dual.Dual.{Dual}
use Rattle.ct_words.specs.Numbers.{multiplier, combination}
use Rattle.ct_duals.specs.Dual.{IsWordOf, as_index, index_of, greatest_index, degree_of, Fits, is_in_range, IsDual, IsMarkOf}
use Rattle.ct_duals.specs.Check.{dual_fault}
use Rattle.ct_duals.specs.Bound.{natural, positive, charges, is_far, near_charge, far_charge, dual_premises, dual_spread, IsSpread, dual_bound, AreTrueUppers}
use Rattle.ct_duals.proofs.Allowed.{count_at, weighed, weighed-positive, weighed-charge, natural-is}
use Rattle.ct_duals.proofs.Neighbours.{words_of_code, within_uppers, one_far, evened, length-evened, IsCode-evened, distances-evened}
use Rattle.ct_duals.proofs.Sound.{AreLaws, AreInRange, some_index, lead-within, pairs-at_most, size-within}
use Rattle.ct_duals.proofs.Faults.{below-from_none}

-- a greater distance has no smaller index
as_index-le : (w : Option ℕ) (s t : ℕ) → s ≤ t → as_index w s ≤ as_index w t
as_index-le None s t h = h
as_index-le (Some w) s t h = omega arith

-- the parts of the range
in_range : (e : Entry) (even : Bool) (i : ℕ) → as_index e.w e.d ≤ i → i ≤ degree_of e → (not even || i % 2 == 0) ≡ true → is_in_range e even i ≡ true
in_range e even i low high fits =
    rw (le-leb (as_index e.w e.d) i low, le-leb i (degree_of e) high) fits

-- each two words of a code have an index of the range, but for the parity
pairs-in_range : (belongs : ℕ → Type 0) (index : ℕ → ℕ → ℕ) (degree : ℕ) (number : ℕ → ℕ → ℤ) (d : Dual) → AreLaws belongs index degree number
    → Fits belongs index degree number d.entry → (words : List ℕ) → IsCodeOf d.entry words
    → AllPairs (λ x y. (not d.even || index_of d.entry x y % 2 == 0) ≡ true) words → AllPairs (AreInRange d) words
pairs-in_range belongs index degree number d laws fits words code parity =
    let e = d.entry in
    let all = words_of_code e words code in
    λ i j o l m.
    let x = get_or words i o in
    let y = get_or words j o in
    let far = code.apart i j o l m in
    let near = laws.within x y (fits.words x (all i o (omega arith))) (fits.words y (all j o m)) in
    let index_is = fits.same_index x y in
    let degree_is = fits.same_degree in
    (far, in_range e d.even (index_of e x y) (as_index-le e.w e.d (distance e.n x y) far) (omega arith) (parity i j o l m))

-- what is allowed about a word of a code is at most what the upper bounds allow
allowed_about : (d : Dual) (us : List ℕ) (words : List ℕ) → IsDual d → IsCodeOf d.entry words → AreTrueUppers (dual_premises d) us → (x : ℕ) → IsWordOf d.entry x
    → weighed (count_at (index_of d.entry x) words) d.y ≤ near_charge d.entry (charges (positive d.y) us) + far_charge d.entry (charges (positive d.y) us)
allowed_about d us words form code known x word =
    let e = d.entry in
    let A = count_at (index_of e x) words in
    let some = weighed-positive A d.y in
    let within = within_uppers e x words word code (positive d.y) us known in
    let R : ℕ × ℤ → ℕ × ℤ → Type 0 = λ p q. is_far e p.0 ≡ true → is_far e q.0 ≡ true → (A p.0 ≡ 0 → ⊥) → A q.0 ≡ 0 in
    let one = AllPairs-weaker (λ (p q : ℕ × ℤ). p.0 < q.0) R (positive d.y) (λ p q less far_p far_q other. one_far e x p.0 q.0 words word code less far_p far_q other)
    (AllPairs-filter (λ (p q : ℕ × ℤ). p.0 < q.0) (λ (p : ℕ × ℤ). int_lt (pos 0) p.1) d.y form.ascending) in
    let most = weighed-charge e A (positive d.y) us within one in
    omega arith

-- a code of the entry of as many words, whose indices are in the range
ranged_code : (belongs : ℕ → Type 0) (index : ℕ → ℕ → ℕ) (degree : ℕ) (number : ℕ → ℕ → ℤ) (d : Dual) → AreLaws belongs index degree number
    → Fits belongs index degree number d.entry → IsDual d → (words : List ℕ) → IsCodeOf d.entry words
    → (others : List ℕ) × (length others ≡ length words) × IsCodeOf d.entry others × AllPairs (AreInRange d) others
ranged_code belongs index degree number d laws fits form words code = go d.even refl
  where
    even_code : (w : Option ℕ) → d.entry.w ≡ w → d.even ≡ true → IsMarkOf w d.even → IsCode d.entry.n d.entry.d w words
        → (others : List ℕ) × (length others ≡ length words) × IsCode d.entry.n d.entry.d w others × AllPairs (λ x y. index_of d.entry x y % 2 ≡ 0) others
    even_code (Some w) is even marked code = absurd (let e = sym even ∙ marked in cc)
    even_code None is even marked code =
        let limits = entry_limits d.entry form.entry in
        let least = limits.distance_from in
        let other = evened d.entry.n words in
        let parities = AllPairs-weaker (λ x y. distance d.entry.n x y % 2 ≡ 0) (λ x y. index_of d.entry x y % 2 ≡ 0) other
        (λ x y h. ap (λ v. as_index v (distance d.entry.n x y) % 2) is ∙ h) (distances-evened d.entry.n words limits.length_from) in
        (other, length-evened d.entry.n words, IsCode-evened d.entry.n d.entry.d words limits.length_from (omega arith) (form.even_distance even) code, parities)

    go : (b : Bool) → d.even ≡ b → (others : List ℕ) × (length others ≡ length words) × IsCodeOf d.entry others × AllPairs (AreInRange d) others
    go false is = (
      words,
      refl,
      code,
      pairs-in_range belongs index degree number d laws fits words code (λ i j o l m. ap (λ b. not b || index_of d.entry (get_or words i o) (get_or words j o) % 2 == 0) is),
    )
    go true is =
        let found = even_code d.entry.w refl is form.weighted code in (
          found.0,
          found.1,
          found.2,
          pairs-in_range belongs index degree number d laws fits found.0 found.2 (λ i j o l m.
              let index = index_of d.entry (get_or found.0 i o) (get_or found.0 j o) % 2 in
              ap₂ (λ b c. not b || c) is (eq-eqb index 0 (found.3 i j o l m))),
        )

-- the least of f(0) is c_0
pub lead-least : (belongs : ℕ → Type 0) (index : ℕ → ℕ → ℕ) (degree : ℕ) (number : ℕ → ℕ → ℤ) (d : Dual) → AreLaws belongs index degree number
    → Fits belongs index degree number d.entry → IsDual d → multiplier d.c 0 ≤ℤ combination number d.c 0
lead-least belongs index degree number d laws fits form =
    let some = one_is_lower d.entry form.entry in
    let word = words_of_code d.entry some.0 some.1 0 0 (omega (arith, some.2)) in
    lead-within belongs index degree number d laws fits form (get_or some.0 0 0) word

-- f adds up to at most the spread for each word of a code, where the upper bounds that it rests on are true
pub dual_spread-true : (belongs : ℕ → Type 0) (index : ℕ → ℕ → ℕ) (degree : ℕ) (number : ℕ → ℕ → ℤ) (d : Dual) → AreLaws belongs index degree number
    → Fits belongs index degree number d.entry → IsDual d → dual_fault number d ≡ None → (us : List ℕ) → AreTrueUppers (dual_premises d) us
    → IsSpread d.entry (combination number d.c) (dual_spread d (combination number d.c 0) us)
dual_spread-true belongs index degree number d laws fits form none us known words code =
    let e = d.entry in
    let kept = below-from_none number d none in
    let lead = kept.0 in
    let least = lead-least belongs index degree number d laws fits form in
    let a = natural (combination number d.c 0) in
    let start : combination number d.c 0 ≡ pos a = natural-is (combination number d.c 0) (omega (arith, ints)) in
    let cs = charges (positive d.y) us in
    let r = near_charge e cs + far_charge e cs in
    let other = ranged_code belongs index degree number d laws fits form words code in
    let all = words_of_code e other.0 other.2 in
    let most = pairs-at_most number d form kept.1 a r start other.0 other.3 (λ p o l. allowed_about d us other.0 form other.2 known (get_or other.0 p o) (all p o l)) in
    let sum : combination number d.c 0 +ℤ pos r ≡ pos (a + r) = ap (λ z. z +ℤ pos r) start in
    let many = ap (λ (m : ℕ). m * (a + r)) other.1 in
    let product : pos (length other.0 * (a + r)) ≡ pos (length words) *ℤ (combination number d.c 0 +ℤ pos r) = ap pos many ∙ ap (λ z. pos (length words) *ℤ z) (sym sum) in
    (other.0, other.1, other.2, subst (λ (z : ℤ). pair_total (λ x y. combination number d.c (index_of e x y)) other.0 ≤ℤ z) product most)

-- where about each word of a code of the entry at most r is allowed, no code of the entry is larger than ⌊(f(0) + r)/c_0⌋
pub allowing_bound-true : (belongs : ℕ → Type 0) (index : ℕ → ℕ → ℕ) (degree : ℕ) (number : ℕ → ℕ → ℤ) (d : Dual) → AreLaws belongs index degree number
    → Fits belongs index degree number d.entry → IsDual d → dual_fault number d ≡ None → (r : ℕ)
    → ((words : List ℕ) → IsCodeOf d.entry words → (x : ℕ) → IsWordOf d.entry x → weighed (count_at (index_of d.entry x) words) d.y ≤ r)
    → IsTrueUpper d.entry (min MAX_BOUND (natural (combination number d.c 0 +ℤ pos r) / natural (multiplier d.c 0)))
allowing_bound-true belongs index degree number d laws fits form none r rests words code =
    let e = d.entry in
    let limits = entry_limits e form.entry in
    let kept = below-from_none number d none in
    let least = lead-least belongs index degree number d laws fits form in
    let c = natural (multiplier d.c 0) in
    let a = natural (combination number d.c 0) in
    let lead = kept.0 in
    let lead_is : multiplier d.c 0 ≡ pos c = natural-is (multiplier d.c 0) (omega (arith, ints)) in
    let start : combination number d.c 0 ≡ pos a = natural-is (combination number d.c 0) (omega (arith, ints)) in
    let some : 1 ≤ c = omega (arith, ints) in
    let other = ranged_code belongs index degree number d laws fits form words code in
    let all = words_of_code e other.0 other.2 in
    let size = size-within belongs index degree number d laws fits form kept.1 a c r start lead_is some other.0 all other.3
    (λ p o l. rests other.0 other.2 (get_or other.0 p o) (all p o l)) in
    let same = other.1 in
    let products = ap (λ m. c * m) same in
    let product : length words * c ≤ a + r = omega (arith, size, products) in
    let quotient = le-div (length words) (a + r) c some product in
    let sum : natural (combination number d.c 0 +ℤ pos r) ≡ a + r = ap (λ z. natural (z +ℤ pos r)) start in
    let value : natural (combination number d.c 0 +ℤ pos r) / c ≡ (a + r) / c = ap (λ z. z / c) sum in
    let few = code_size-le e.n e.d e.w words code in
    let power : 2 ^ e.n ≤ 2 ^ MAX_N = pow-le-pow_right (omega arith) limits.length_to in
    let limit : length words ≤ MAX_BOUND = omega arith in
    omega arith

-- no code of the entry is larger than the bound, where the upper bounds that it rests on are true
pub dual_bound-true : (belongs : ℕ → Type 0) (index : ℕ → ℕ → ℕ) (degree : ℕ) (number : ℕ → ℕ → ℤ) (d : Dual) → AreLaws belongs index degree number
    → Fits belongs index degree number d.entry → IsDual d → dual_fault number d ≡ None → (us : List ℕ) → AreTrueUppers (dual_premises d) us
    → IsTrueUpper d.entry (dual_bound d (combination number d.c 0) us)
unfolding dual_bound
dual_bound-true belongs index degree number d laws fits form none us known =
    let cs = charges (positive d.y) us in
    allowing_bound-true belongs index degree number d laws fits form none (near_charge d.entry cs + far_charge d.entry cs)
    (λ words code x word. allowed_about d us words form code known x word)

-- numbers of a range in ascending order are no more than the range has
ascending-few : (low high : ℕ) (y : List (ℕ × ℤ)) → AllPairs (λ p q. p.0 < q.0) y → All (λ p. low ≤ p.0) y → All (λ p. p.0 < high) y → low ≤ high → low + length y ≤ high
ascending-few low high [] ordered above below some = omega arith
ascending-few low high (p ∷ y) ordered above below some =
    let R : ℕ × ℤ → ℕ × ℤ → Type 0 = λ a b. a.0 < b.0 in
    let here = All-head (λ (q : ℕ × ℤ). low ≤ q.0) p y above in
    let end = All-head (λ (q : ℕ × ℤ). q.0 < high) p y below in
    let rest = ascending-few (suc p.0) high y (AllPairs-tail R p y ordered) (λ k d l. AllPairs-head R p y ordered k d l) (All-tail (λ (q : ℕ × ℤ). q.0 < high) p y below) end in
    omega arith

-- so a list names no more than MAX_N indices of the range of an entry in ascending order
pub few_indices : (e : Entry) (even : Bool) (y : List (ℕ × ℤ)) → IsEntry e → AllPairs (λ p q. p.0 < q.0) y
    → All (λ p. IsTrue (is_in_range e even p.0) × (pos 0 ≤ℤ p.1)) y → length y ≤ MAX_N
few_indices e even y entry ascending each =
    let limits = entry_limits e entry in
    let ends : (i : ℕ) → is_in_range e even i ≡ true → (1 ≤ i) × (i < suc e.n) =
    λ i h.
    let parts = and_parts (nat_le (as_index e.w e.d) i && nat_le i (degree_of e)) (not even || i % 2 == 0) h in
    let both = and_parts (nat_le (as_index e.w e.d) i) (nat_le i (degree_of e)) parts.0 in
    let low = leb-true (as_index e.w e.d) i both.0 in
    let high = leb-true i (degree_of e) both.1 in
    let first = some_index e.w e.d limits.distance_from in
    let last = greatest_index-le e.n e.w in
    (omega arith, omega arith) in
    let few = ascending-few 1 (suc e.n) y ascending (λ k o l. (ends _ (is_true (each k o l).0)).0) (λ k o l. (ends _ (is_true (each k o l).0)).1) (omega arith) in
    let short = limits.length_to in
    omega arith
  where
    greatest_index-le : (n : ℕ) (w : Option ℕ) → greatest_index n w ≤ n
    greatest_index-le n None = omega arith
    greatest_index-le n (Some w) = omega arith

    is_true : {b : Bool} → IsTrue b → b ≡ true
    is_true h = h

-- so a dual allows something at no more than MAX_N indices
pub few_allowances : (d : Dual) → IsDual d → length d.y ≤ MAX_N
few_allowances d form = few_indices d.entry d.even d.y form.entry form.ascending form.allowances
