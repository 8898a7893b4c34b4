-- The schemes of the entries: their numbers at index 0 are not negative, and a sound primal lies below every dual.
use Rattle.std.proofs.Common.{◌≡◌, ℕ, ◌^◌, ◌<◌, ◌≤◌, List, [], ◌∷◌, length, get_or, refl, sym, ap, arith, subst}
use Rattle.std.specs.Prelude.{Option, Some, None, IfSome, All, pos, ◌≤ℤ◌}
use Rattle.std.proofs.lemmas.Int.{ints}
use Rattle.std.proofs.lemmas.List.Elements.{All-cons, All-nil}
use Rattle.ct_words.specs.Word.{weight, distance}
use Rattle.ct_words.proofs.WordLemmas.{distance-le, distance_same}
use Rattle.ct_words.proofs.PairProducts.{half_distance-le, half_distance-same}
use Rattle.ct_words.specs.declared.entry.Entry.{Entry}
use Rattle.ct_words.specs.Entry.{IsEntry}
use Rattle.ct_words.specs.Numbers.{number_at, numbers_of, combination}
use Rattle.ct_words.proofs.BoundLemmas.{one_is_lower}
use Rattle.ct_krawtchouk.specs.Hamming.{krawtchouk-positive, krawtchouk-first}
use Rattle.ct_scheme.specs.Johnson.{johnson-positive, johnson-first}
use Rattle.ct_duals.specs.declared.dual.Dual.{Dual}
use Rattle.ct_duals.specs.Dual.{IsWordOf, IsDual, as_index, index_of, greatest_index, degree_of, Fits}
use Rattle.ct_duals.specs.Check.{dual_fault}
use Rattle.ct_duals.specs.Bound.{dual_bound}
use Rattle.ct_duals.proofs.Sound.{AreLaws}
use Rattle.ct_primal.specs.Primal.{PrimalValue, IsPrimal, IsSound, primal_value}
use Rattle.ct_primal.proofs.PrimalFaults.{primal-least}
use Rattle.ct_finder.specs.Found.{bound_without_allowances}

laws_of : (n : ℕ) (w : Option ℕ)
    → AreLaws (λ x. (x < 2 ^ n) × IfSome w (λ v. weight n x ≡ v)) (λ x y. as_index w (distance n x y)) (greatest_index n w) (number_at n w)
laws_of n None = record {
  positive_rows = λ k h. krawtchouk-positive n k (λ x. (x < 2 ^ n) × Unit {0});
  ones = λ i h. krawtchouk-first n i;
  within = λ x y p q. distance-le n x y;
  itself = λ x p. distance_same n x;
}
laws_of n (Some w) = record {
  positive_rows = λ k h. johnson-positive n w k;
  ones = λ i h. johnson-first n w i;
  within = λ x y p q. half_distance-le n w x y p.1 q.1;
  itself = λ x p. half_distance-same n x;
}

-- a sound primal lies below every dual of the entry and mark that is accepted and allows nothing
pub below-duals : (p : PrimalValue) → IsPrimal p → IsSound (numbers_of p.entry) p → (d : Dual) → IsDual d → d.entry ≡ p.entry → d.even ≡ p.even → d.y ≡ []
    → dual_fault (numbers_of d.entry) d ≡ None → primal_value p ≤ bound_without_allowances d
below-duals p form sound d dual entry even nothing accepted =
    let e = p.entry in
    let fits : Fits (IsWordOf e) (index_of e) (degree_of e) (numbers_of e) e =
    record { words = λ x h. h; same_index = λ x y. refl; same_degree = refl; numbers = λ k i. refl } in
    subst (λ (f : Entry). primal_value p ≤ dual_bound d (combination (numbers_of f) d.c 0) []) (sym entry)
    (primal-least (IsWordOf e) (index_of e) (degree_of e) (numbers_of e) p (laws_of e.n e.w) fits form sound d dual entry even nothing
    (subst (λ (f : Entry). dual_fault (numbers_of f) d ≡ None) entry accepted))

-- the numbers at index 0
pub numbers-nonneg : (e : Entry) → IsEntry e → (k : ℕ) → k ≤ degree_of e → pos 0 ≤ℤ numbers_of e k 0
numbers-nonneg e entry k within =
    let laws = laws_of e.n e.w in
    let some = one_is_lower e entry in
    let code = some.0 in
    let x = get_or code 0 0 in
    let one : 0 < length code = omega (arith, some.2) in
    let word : IsWordOf e x = (some.1.lengths 0 0 one, weighted e.w code some.1.weights one) in
    let whole = laws.positive_rows k within (x ∷ []) (All-cons (IsWordOf e) x [] word (All-nil (IsWordOf e))) in
    let index = ap (λ i. numbers_of e k i) (laws.itself x word) in
    omega (arith, ints, whole, index)
  where
    weighted : (w : Option ℕ) (words : List ℕ) → IfSome w (λ v. All (λ y. weight e.n y ≡ v) words) → 0 < length words → IfSome w (λ v. weight e.n (get_or words 0 0) ≡ v)
    weighted None words h l = tt
    weighted (Some v) words h l = h 0 0 l

-- those of k = 0
pub numbers-first : (e : Entry) (i : ℕ) → numbers_of e 0 i ≡ pos 1
numbers-first e i = first e.n e.w i
  where
    first : (n : ℕ) (w : Option ℕ) (i : ℕ) → number_at n w 0 i ≡ pos 1
    first n None i = krawtchouk-first n i
    first n (Some w) i = johnson-first n w i
