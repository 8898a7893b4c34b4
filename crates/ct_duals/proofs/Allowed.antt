-- What a dual allows, added over words by how many have each index.
use Rattle.std.proofs.Common.{◌≡◌, ◌≢◌, ℕ, ◌+◌, ◌*◌, ◌≤◌, Bool, true, false, cond, ◌==◌, List, [], ◌∷◌, refl, ap, ◌∙◌, arith, inl, inr}
use Rattle.std.specs.Prelude.{ℤ, pos, negsuc, ◌+ℤ◌, ◌≤ℤ◌, int_lt, max, count_by}
use Rattle.std.specs.List.{sum_by, AllByRecursion, AllPairs}
use Rattle.std.proofs.lemmas.Int.{ints}
use Rattle.std.proofs.lemmas.Nat.{mul-le}
use Rattle.std.proofs.lemmas.Bool.{cases_Bool, cases_eq}
use Rattle.std.proofs.lemmas.List.Elements.{recursion_from_All}
use Rattle.std.proofs.lemmas.List.Sums.{sum_by-cons}
use Rattle.ct_words.specs.Counting.Sums.{total}
use Rattle.ct_words.proofs.Counting.Sums.{sum_by-scale}
use Rattle.ct_words.proofs.Counting.Totals.{total-zero, total-add}
use Rattle.ct_words.proofs.Counting.Pairs.{AllPairs-head, AllPairs-tail}
use Rattle.ct_words.specs.declared.entry.Entry.{Entry}
use Rattle.ct_duals.specs.Dual.{allowed}
use Rattle.ct_duals.specs.Bound.{natural, positive, charges, is_far, near_charge, far_charge}
use Rattle.ct_duals.proofs.Charges.{positive-yes, positive-no, near_charge-first, far_charge-first}
use Rattle.ct_words.proofs.Counting.Combinations.{total-le_within}

-- how many elements have the index i
abbrev pub count_at : {X : Type 0} → (X → ℕ) → List X → ℕ → ℕ
count_at t xs i = count_by (λ x. t x == i) xs

-- the sum of y_i times a number A_i
abbrev pub weighed : (ℕ → ℕ) → List (ℕ × ℤ) → ℕ
weighed A y = sum_by (λ p. natural p.1 * A p.0) y

pub weighed-cons : (A : ℕ → ℕ) (p : ℕ × ℤ) (y : List (ℕ × ℤ)) → weighed A (p ∷ y) ≡ natural p.1 * A p.0 + weighed A y
weighed-cons A p y = sum_by-cons (λ (q : ℕ × ℤ). natural q.1 * A q.0) p y

-- a number that is not negative is its natural number
pub natural-is : (z : ℤ) → pos 0 ≤ℤ z → z ≡ pos (natural z)
natural-is (pos n) h = refl
natural-is (negsuc n) h = absurd (omega (arith, ints))

natural-none : (z : ℤ) → int_lt (pos 0) z ≡ false → natural z ≡ 0
natural-none (pos n) h = grind (arith, ints)
natural-none (negsuc n) h = refl

-- where no number is negative, none is allowed
pub allowed-nonneg : (y : List (ℕ × ℤ)) (i : ℕ) → AllByRecursion (λ p. pos 0 ≤ℤ p.1) y → pos 0 ≤ℤ allowed y i
allowed-nonneg [] i h = omega (arith, ints)
allowed-nonneg (p ∷ y) i h = go (i == p.0) h.0 (allowed-nonneg y i h.1)
  where
    go : (b : Bool) → pos 0 ≤ℤ p.1 → pos 0 ≤ℤ allowed y i → pos 0 ≤ℤ cond b p.1 (allowed y i)
    go true first rest = first
    go false first rest = rest

-- a total of natural numbers
pub total-natural : {X : Type 0} (f : X → ℕ) (xs : List X) → total (λ x. pos (f x)) xs ≡ pos (sum_by f xs)
total-natural f [] = refl
total-natural f (x ∷ xs) =
    let ih = total-natural f xs in
    let first = sum_by-cons f x xs in
    omega (arith, ints)

-- what is allowed at the indices of the elements adds up to at most the numbers times how many have them
pub allowed-within : {X : Type 0} (t : X → ℕ) (xs : List X) (y : List (ℕ × ℤ)) → AllByRecursion (λ p. pos 0 ≤ℤ p.1) y
    → total (λ x. allowed y (t x)) xs ≤ℤ pos (weighed (count_at t xs) y)
allowed-within t xs [] h = let none = total-zero xs in omega (arith, ints)
allowed-within {X} t xs (p ∷ y) h =
    let ih = allowed-within t xs y h.1 in
    let k = natural p.1 in
    let here : X → ℕ = λ x. cond (t x == p.0) 1 0 in
    let first : X → ℕ = λ x. k * here x in
    let rest : X → ℤ = λ x. allowed y (t x) in
    let each = total-le_within (λ x. allowed (p ∷ y) (t x)) (λ x. pos (first x) +ℤ rest x) xs
    (recursion_from_All (λ x. allowed (p ∷ y) (t x) ≤ℤ (pos (first x) +ℤ rest x)) xs (λ i d l. one (t _ == p.0) h.0 (allowed-nonneg y _ h.1))) in
    let split = total-add (λ x. pos (first x)) rest xs in
    let sum = total-natural first xs in
    let scale = sum_by-scale k here xs in
    let more = weighed-cons (count_at t xs) p y in
    omega (arith, ints)
  where
    one : (b : Bool) {a : ℤ} → pos 0 ≤ℤ p.1 → pos 0 ≤ℤ a → cond b p.1 a ≤ℤ (pos (natural p.1 * cond b 1 0) +ℤ a)
    one true some rest = let same = natural-is p.1 some in omega (arith, ints)
    one false some rest = omega (arith, ints)

-- the indices where nothing more than 0 is allowed add nothing
pub weighed-positive : (A : ℕ → ℕ) (y : List (ℕ × ℤ)) → weighed A y ≡ weighed A (positive y)
weighed-positive A [] = refl
weighed-positive A (p ∷ y) = go (int_lt (pos 0) p.1) refl (weighed-positive A y)
  where
    go : (b : Bool) → int_lt (pos 0) p.1 ≡ b → weighed A y ≡ weighed A (positive y) → weighed A (p ∷ y) ≡ weighed A (positive (p ∷ y))
    go true h ih =
        let first = weighed-cons A p y in
        let kept = ap (weighed A) (positive-yes p y h) ∙ weighed-cons A p (positive y) in
        omega arith
    go false h ih =
        let first = weighed-cons A p y ∙ ap (λ k. k * A p.0 + weighed A y) (natural-none p.1 h) in
        let dropped = ap (weighed A) (positive-no p y h) in
        omega arith

-- each A_i is at most the upper bound at its place
abbrev pub AreWithin : (ℕ → ℕ) → List (ℕ × ℤ) → List ℕ → Type 0
AreWithin A [] [] = Unit {0}
AreWithin A (p ∷ ps) (u ∷ us) = (A p.0 ≤ u) × AreWithin A ps us
AreWithin A ps us = ⊥

-- where no A_i of the group is above 0, the sum is at most that outside the group
weighed-near : (e : Entry) (A : ℕ → ℕ) (ps : List (ℕ × ℤ)) (us : List ℕ) → AreWithin A ps us
    → AllByRecursion (λ p. is_far e p.0 ≡ true → A p.0 ≡ 0) ps → weighed A ps ≤ near_charge e (charges ps us)
weighed-near e A [] [] within none = omega arith
weighed-near e A [] (u ∷ us) within none = absurd within
weighed-near e A (p ∷ ps) [] within none = absurd within
weighed-near e A (p ∷ ps) (u ∷ us) within none =
    let rest = weighed-near e A ps us within.1 none.1 in
    let first = weighed-cons A p ps in
    let sum = near_charge-first e p.0 (natural p.1 * u) (charges ps us) in
    let product = mul-le (natural p.1) (A p.0) (natural p.1) u (omega arith) within.0 in
    elim (cases_Bool (is_far e p.0)) [
      | inl far ↦
          let sum_is = sum ∙ ap (λ b. cond b 0 (natural p.1 * u) + near_charge e (charges ps us)) far in
          let nothing = ap (λ a. natural p.1 * a) (none.0 far) in
          omega arith
      | inr near ↦ let sum_is = sum ∙ ap (λ b. cond b 0 (natural p.1 * u) + near_charge e (charges ps us)) near in omega arith
    ]

-- where at most one A_i of the group is above 0, the sum is at most that outside the group and the greatest in it
pub weighed-charge : (e : Entry) (A : ℕ → ℕ) (ps : List (ℕ × ℤ)) (us : List ℕ) → AreWithin A ps us
    → AllPairs (λ p q. is_far e p.0 ≡ true → is_far e q.0 ≡ true → A p.0 ≢ 0 → A q.0 ≡ 0) ps
    → weighed A ps ≤ near_charge e (charges ps us) + far_charge e (charges ps us)
weighed-charge e A [] [] within one = omega arith
weighed-charge e A [] (u ∷ us) within one = absurd within
weighed-charge e A (p ∷ ps) [] within one = absurd within
weighed-charge e A (p ∷ ps) (u ∷ us) within one =
    let R : ℕ × ℤ → ℕ × ℤ → Type 0 = λ p q. is_far e p.0 ≡ true → is_far e q.0 ≡ true → A p.0 ≢ 0 → A q.0 ≡ 0 in
    let v = natural p.1 * u in
    let cs = charges ps us in
    let rest = weighed-charge e A ps us within.1 (AllPairs-tail R p ps one) in
    let first = weighed-cons A p ps in
    let sum = near_charge-first e p.0 v cs in
    let top = far_charge-first e p.0 v cs in
    let product = mul-le (natural p.1) (A p.0) (natural p.1) u (omega arith) within.0 in
    elim (cases_Bool (is_far e p.0)) [
      | inl far ↦
          let sum_is = sum ∙ ap (λ b. cond b 0 v + near_charge e cs) far in
          let top_is = top ∙ ap (λ b. max (cond b v 0) (far_charge e cs)) far in
          elim (cases_eq (A p.0) 0) [
            | inl nothing ↦ let zero = ap (λ a. natural p.1 * a) nothing in omega arith
            | inr some ↦
                let others = weighed-near e A ps us within.1
                (recursion_from_All (λ q. is_far e q.0 ≡ true → A q.0 ≡ 0) ps (λ k d l group. AllPairs-head R p ps one k d l far group some)) in
                omega arith
          ]
      | inr near ↦
          let sum_is = sum ∙ ap (λ b. cond b 0 v + near_charge e cs) near in
          let top_is = top ∙ ap (λ b. max (cond b v 0) (far_charge e cs)) near in
          omega arith
    ]
