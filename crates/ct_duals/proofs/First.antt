-- What a function gives at the least number below a bound where it gives something.
use Rattle.std.proofs.Common.{◌≡◌, ℕ, zero, suc, ◌+◌, ◌<◌, refl, sym, ap, ◌∙◌, arith, add-one, inl, inr}
use Rattle.std.specs.Prelude.{Option, Some, None}
use Rattle.std.proofs.lemmas.Bool.{cases_lt}
use Rattle.std.proofs.lemmas.Option.{none-some}
use Rattle.ct_words.specs.Pairs.{first_of}
use Rattle.ct_duals.specs.Check.{first_below}

-- one number more that gives nothing, and one that gives something
pub first_below-more : {X : Type 0} (f : ℕ → Option X) (k : ℕ) → first_below f k ≡ None → f k ≡ None → first_below f (k + 1) ≡ None
first_below-more f k none fails = ap (first_below f) (add-one k) ∙ ap (λ o. first_of o (f k)) none ∙ fails

pub first_below-found : {X : Type 0} (f : ℕ → Option X) (k : ℕ) (x : X) → first_below f k ≡ None → f k ≡ Some x → (m : ℕ) → k < m → first_below f m ≡ Some x
first_below-found f k x none gives zero l = absurd (omega arith)
first_below-found f k x none gives (suc m) l = elim (cases_lt k m) [
  | inl before ↦ ap (λ o. first_of o (f m)) (first_below-found f k x none gives m before)
  | inr last ↦
      let same : m ≡ k = omega arith in
      ap (λ n. first_below f (suc n)) same ∙ ap (λ o. first_of o (f k)) none ∙ gives
]

-- where nothing comes below the bound, each number gives nothing
pub none_below : {X : Type 0} (f : ℕ → Option X) (m : ℕ) → first_below f m ≡ None → (k : ℕ) → k < m → f k ≡ None
none_below f zero none k l = absurd (omega arith)
none_below {X} f (suc m) none k l = go (first_below f m) refl (λ is. none_below f m is k) none
  where
    go : (o : Option X) → first_below f m ≡ o → (first_below f m ≡ None → k < m → f k ≡ None) → first_of o (f m) ≡ None → f k ≡ None
    go (Some x) was before is = absurd (none-some x (sym is))
    go None was before is = elim (cases_lt k m) [
      | inl less ↦ before was less
      | inr last ↦ let same : k ≡ m = omega arith in ap f same ∙ is
    ]

-- where something comes, it is from the least number that gives something
pub found_below : {X : Type 0} (f : ℕ → Option X) (m : ℕ) (x : X) → first_below f m ≡ Some x
    → (k : ℕ) × (k < m) × (f k ≡ Some x) × (first_below f k ≡ None)
found_below f zero x found = absurd (none-some x found)
found_below {X} f (suc m) x found = go (first_below f m) refl (found_below f m) found
  where
    go : (o : Option X) → first_below f m ≡ o → ((y : X) → first_below f m ≡ Some y → (k : ℕ) × (k < m) × (f k ≡ Some y) × (first_below f k ≡ None))
        → first_of o (f m) ≡ Some x → (k : ℕ) × (k < suc m) × (f k ≡ Some x) × (first_below f k ≡ None)
    go (Some y) was before is =
        let at = before x (was ∙ is) in
        let less = at.1 in
        (at.0, omega arith, at.2, at.3)
    go None was before is = (m, omega arith, is, was)
