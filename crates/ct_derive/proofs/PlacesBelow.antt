-- The marked places below a place, one place more, and all of them.
use Rattle.std.proofs.Common.{◌≡◌, ℕ, ◌+◌, ◌<◌, ◌≤◌, Bool, true, false, List, [], ◌∷◌, ◌++◌, length, All, ◌⊎◌, inl, inr, sym, ap, subst, ◌∙◌, length-append, arith}
use Rattle.std.specs.Prelude.{◌↔◌, slice_index, Contains}
use Rattle.std.specs.List.Sorted.{IsStrictlyIncreasing}
use Rattle.std.proofs.lemmas.Bool.{both_ways}
use Rattle.std.proofs.lemmas.List.{get_or_append_left}
use Rattle.std.proofs.Math.Seq.{get_or-append_seam}
use Rattle.std.proofs.lemmas.List.Elements.{All-nil, All-weaker, All-push, All-contains, Contains-append_left, Contains-push}
use Rattle.ct_derive.specs.Pruning.{is_marked, ArePlacesBelow}
use Rattle.ct_derive.proofs.PrunedLines.{under}
use Rattle.ct_derive.proofs.MarkedLines.{marked-within}

-- a greater number after ascending ones
ascending-push : (n : ℕ) (places : List ℕ) → IsStrictlyIncreasing places → All (λ p. p < n) places
    → IsStrictlyIncreasing (places ++ n ∷ [])
ascending-push n places ascending below k h = go (under (k + 1) (length places))
  where
    last : length (places ++ n ∷ []) ≡ length places + 1
    last = length-append places (n ∷ [])

    go : (k + 1 < length places) ⊎ (length places ≤ k + 1)
        → slice_index (places ++ n ∷ []) k < slice_index (places ++ n ∷ []) (k + 1)
    go (inl inside) =
        let one = get_or_append_left places (n ∷ []) 0 k (omega arith) in
        let two = get_or_append_left places (n ∷ []) 0 (k + 1) inside in
        let up = ascending k inside in
        omega arith
    go (inr past) =
        let same : k + 1 ≡ length places = omega (arith, last, h) in
        let one = get_or_append_left places (n ∷ []) 0 k (omega arith) in
        let two = ap (λ j. slice_index (places ++ n ∷ []) j) same ∙ get_or-append_seam places n [] 0 in
        let up = below k 0 (omega arith) in
        omega arith

-- none are below the first
pub below-none : (marks : List Bool) → ArePlacesBelow 0 marks []
below-none marks = record {
  ascending = λ k h. absurd (omega arith);
  marked = All-nil (λ p. (p < 0) × (is_marked marks p ≡ true));
  all = λ p h marked. absurd (omega arith);
}

-- one place more, and what is below it
module _ (marks : List Bool) (places : List ℕ) (n : ℕ) where
  split : (p : ℕ) → p < n + 1 → (p < n) ⊎ (p ≡ n)
  split p h = elim (under p n) [ inl low ↦ inl low | inr high ↦ inr (omega arith) ]

  further : All (λ p. (p < n) × (is_marked marks p ≡ true)) places → All (λ p. (p < n + 1) × (is_marked marks p ≡ true)) places
  further below =
      All-weaker (λ p. (p < n) × (is_marked marks p ≡ true)) (λ p. (p < n + 1) × (is_marked marks p ≡ true))
      (λ p h. let low = h.0 in (omega arith, h.1)) places below

  pub below-unmarked : is_marked marks n ≡ false → ArePlacesBelow n marks places → ArePlacesBelow (n + 1) marks places
  below-unmarked is below = record {
    ascending = below.ascending;
    marked = further below.marked;
    all = λ p h marked. elim (split p h) [
      | inl low ↦ below.all p low marked
      | inr same ↦ absurd (both_ways (is_marked marks p) (ap (is_marked marks) same ∙ is) marked)
    ];
  }

  pub below-marked : is_marked marks n ≡ true → ArePlacesBelow n marks places → ArePlacesBelow (n + 1) marks (places ++ n ∷ [])
  below-marked is below = record {
    ascending =
        ascending-push n places below.ascending
        (All-weaker (λ p. (p < n) × (is_marked marks p ≡ true)) (λ p. p < n) (λ p h. h.0) places below.marked);
    marked = All-push (λ p. (p < n + 1) × (is_marked marks p ≡ true)) places n (further below.marked) (omega arith, is);
    all = λ p h marked. elim (split p h) [
      | inl low ↦ Contains-append_left places (n ∷ []) p (below.all p low marked)
      | inr same ↦ subst (Contains (places ++ n ∷ [])) (sym same) (Contains-push places n)
    ];
  }

-- below the end, they are the marked places
pub below-whole : (marks : List Bool) (places : List ℕ) (n : ℕ) → length marks ≤ n → ArePlacesBelow n marks places
    → (p : ℕ) → Contains places p ↔ (is_marked marks p ≡ true)
below-whole marks places n ends below p = (
  λ has. (All-contains (λ q. (q < n) × (is_marked marks q ≡ true)) places p below.marked has).1,
  λ marked. let within = marked-within marks p marked in below.all p (omega arith) marked,
)
