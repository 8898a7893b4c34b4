-- The local bound of an accepted dual is true, by the laws of a scheme alone; it is at least 1, and smaller numbers give no greater one.
use Rattle.std.proofs.Common.{◌≡◌, ℕ, ◌*◌, ◌≤◌, List, [], ◌∷◌, map, length, ap, subst, arith}
use Rattle.std.specs.Prelude.{ℤ, pos, ◌≤ℤ◌, Some, None, IfSome}
use Rattle.std.specs.List.{sum_by}
use Rattle.std.proofs.lemmas.Nat.{mul-le}
use Rattle.std.proofs.lemmas.List.{length-map}
use Rattle.std.proofs.lemmas.List.Sums.{sum_by-cons}
use Rattle.ct_words.specs.Word.{weight}
use Rattle.ct_words.specs.declared.entry.Entry.{Entry}
use Rattle.ct_words.specs.Code.{IsCode, IsCodeOf, IsTrueUpper}
use Rattle.ct_words.specs.Numbers.{multiplier, combination}
use Rattle.ct_words.specs.Constructions.Translation.{selected}
use Rattle.ct_duals.specs.declared.dual.Dual.{Dual}
use Rattle.ct_duals.specs.Dual.{IsWordOf, as_distance, index_of, Fits, IsDual}
use Rattle.ct_duals.specs.Check.{dual_fault}
use Rattle.ct_duals.specs.Bound.{AcceptedValue, natural, positive, charges, AreAtMost}
use Rattle.ct_duals.specs.Local.{AreTrueLocals, local_charge, local_bound}
use Rattle.ct_duals.proofs.Allowed.{count_at, weighed, weighed-cons, weighed-positive, AreWithin}
use Rattle.ct_duals.proofs.Neighbours.{count_at-index}
use Rattle.ct_duals.proofs.LocalCodes.{read_about, IsDoubly-about}
use Rattle.ct_duals.proofs.Sound.{AreLaws}
use Rattle.ct_duals.proofs.DualBound.{allowing_bound-true}
use Rattle.ct_duals.proofs.Monotone.{allowing_bound-le}
use Rattle.ct_duals.proofs.SomeBound.{allowing_bound-some}

-- about a word there are at most as many words of a code at an index as the bound of the doubly constant codes allows
within_locals : (e : Entry) (w x : ℕ) (words : List ℕ) → e.w ≡ Some w → IsWordOf e x → IsCodeOf e words → (ps : List (ℕ × ℤ)) (us : List ℕ)
    → AreTrueLocals e w ps us → AreWithin (count_at (index_of e x) words) ps us
within_locals e w x words is word code [] [] known = tt
within_locals e w x words is word code [] (u ∷ us) known = absurd known
within_locals e w x words is word code (p ∷ ps) [] known = absurd known
within_locals e w x words is word code (p ∷ ps) (u ∷ us) known =
    let heavy : weight e.n x ≡ w = subst (λ v. IfSome v (λ k. weight e.n x ≡ k)) is word.1 in
    let about = IsDoubly-about e.n e.d w x p.0 words word.0 heavy (subst (λ v. IsCode e.n e.d v words) is code) in
    let most = known.0 (map (read_about e.n x) (selected e.n x (2 * p.0) words)) about in
    let same = length-map (selected e.n x (2 * p.0) words) (read_about e.n x) in
    let size = count_at-index e x p.0 words word code in
    let twice = ap (λ v. length (selected e.n x (as_distance v p.0) words)) is in
    (omega arith, within_locals e w x words is word code ps us known.1)

-- so what is allowed about it is at most the sum
weighed-local : (A : ℕ → ℕ) (ps : List (ℕ × ℤ)) (us : List ℕ) → AreWithin A ps us → weighed A ps ≤ sum_by (λ p. p.1) (charges ps us)
weighed-local A [] [] within = omega arith
weighed-local A [] (u ∷ us) within = absurd within
weighed-local A (p ∷ ps) [] within = absurd within
weighed-local A (p ∷ ps) (u ∷ us) within =
    let rest = weighed-local A ps us within.1 in
    let first = weighed-cons A p ps in
    let sum = sum_by-cons (λ (q : ℕ × ℕ). q.1) (p.0, natural p.1 * u) (charges ps us) in
    let product = mul-le (natural p.1) (A p.0) (natural p.1) u (omega arith) within.0 in
    omega arith

-- no code of the entry is larger than the local bound
pub local_bound-true : (belongs : ℕ → Type 0) (index : ℕ → ℕ → ℕ) (degree : ℕ) (number : ℕ → ℕ → ℤ) (d : Dual) → AreLaws belongs index degree number
    → Fits belongs index degree number d.entry → IsDual d → dual_fault number d ≡ None → (w : ℕ) → d.entry.w ≡ Some w → (us : List ℕ)
    → AreTrueLocals d.entry w (positive d.y) us → IsTrueUpper d.entry (local_bound d (combination number d.c 0) us)
unfolding local_bound
local_bound-true belongs index degree number d laws fits form none w is us known =
    allowing_bound-true belongs index degree number d laws fits form none (local_charge d.y us) (λ words code x word.
    let A = count_at (index_of d.entry x) words in
    let some = weighed-positive A d.y in
    let most = weighed-local A (positive d.y) us (within_locals d.entry w x words is word code (positive d.y) us known) in
    omega arith)

-- it is at least 1
pub local_bound-some : (a : AcceptedValue) (us : List ℕ) → pos 1 ≤ℤ multiplier a.dual.c 0 → multiplier a.dual.c 0 ≤ℤ a.at_zero
    → 1 ≤ local_bound a.dual a.at_zero us
unfolding local_bound
local_bound-some a us lead least = allowing_bound-some a (local_charge a.dual.y us) lead least

-- smaller numbers give no greater one
charge-le : (ps : List (ℕ × ℤ)) (us vs : List ℕ) → AreAtMost us vs → sum_by (λ p. p.1) (charges ps us) ≤ sum_by (λ p. p.1) (charges ps vs)
charge-le [] us vs h = omega arith
charge-le (p ∷ ps) [] [] h = omega arith
charge-le (p ∷ ps) [] (v ∷ vs) h = absurd h
charge-le (p ∷ ps) (u ∷ us) [] h = absurd h
charge-le (p ∷ ps) (u ∷ us) (v ∷ vs) h =
    let rest = charge-le ps us vs h.1 in
    let product = mul-le (natural p.1) u (natural p.1) v (omega arith) h.0 in
    let first = sum_by-cons (λ (q : ℕ × ℕ). q.1) (p.0, natural p.1 * u) (charges ps us) in
    let second = sum_by-cons (λ (q : ℕ × ℕ). q.1) (p.0, natural p.1 * v) (charges ps vs) in
    omega arith

pub local_bound-monotone : (d : Dual) (at_zero : ℤ) (us vs : List ℕ) → AreAtMost us vs → local_bound d at_zero us ≤ local_bound d at_zero vs
unfolding local_bound
local_bound-monotone d at_zero us vs h =
    allowing_bound-le d at_zero (local_charge d.y us) (local_charge d.y vs) (charge-le (positive d.y) us vs h)
