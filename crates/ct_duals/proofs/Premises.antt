-- The entries that a dual rests on, one index after the other; they are entries of the table.
use Rattle.std.proofs.Common.{◌≡◌, ◌≢◌, ℕ, zero, suc, ◌%◌, ◌≤◌, true, false, ◌&&◌, ◌||◌, ◌==◌, not, ◌↔◌, List, [], ◌∷◌, length, map, get_or, Contains, All, refl, sym, ap, subst, ◌∙◌, arith, leb-true}
use Rattle.std.specs.Prelude.{Bool, ℤ, pos, int_lt, nat_le, nat_eq, Option, Some, None, slice_get, option_map}
use Rattle.std.specs.Option.{option_eq}
use Rattle.std.proofs.lemmas.Option.{slice_get-map, slice_get_within, get_or_from_slice_get, none-some, same_Some}
use Rattle.std.proofs.lemmas.Bool.{and_parts}
use Rattle.std.proofs.lemmas.List.Elements.{All-map, All-filter}
use Rattle.ct_words.specs.declared.entry.Entry.{Entry}
use Rattle.ct_words.specs.Entry.{IsEntry, constant_weight, same_entry, same_weight}
use Rattle.ct_words.proofs.EntryLemmas.{entry_limits, entry_from_limits}
use Rattle.ct_words.specs.Constructions.Even.{even_from}
use Rattle.ct_words.specs.declared.limits.TheConstants.{MAX_N}
use Rattle.ct_duals.specs.declared.dual.Dual.{Dual}
use Rattle.ct_duals.specs.Dual.{IsDual, as_index, as_distance, degree_of, greatest_index, is_in_range}
use Rattle.ct_duals.specs.Bound.{positive, dual_premises}
use Rattle.ct_duals.proofs.Charges.{positive-yes, positive-no}
use Rattle.ct_duals.proofs.DualBound.{few_allowances}
use Rattle.std.proofs.lemmas.List.{length-map}

-- the entries of the indices where more than 0 is allowed
abbrev pub premises : Entry → List (ℕ × ℤ) → List Entry
premises e y = map (λ p. constant_weight e.n (even_from e.d) (as_distance e.w p.0)) (positive y)

-- by the first index: the place among the others is one less where more than 0 is allowed there
pub place-yes : (p : ℕ × ℤ) (y : List (ℕ × ℤ)) (k : ℕ) → int_lt (pos 0) p.1 ≡ true → slice_get (positive (p ∷ y)) (suc k) ≡ slice_get (positive y) k
place-yes p y k h = ap (λ ps. slice_get ps (suc k)) (positive-yes p y h)

pub place-first : (p : ℕ × ℤ) (y : List (ℕ × ℤ)) → int_lt (pos 0) p.1 ≡ true → slice_get (positive (p ∷ y)) 0 ≡ Some p
place-first p y h = ap (λ ps. slice_get ps 0) (positive-yes p y h)

pub place-no : (p : ℕ × ℤ) (y : List (ℕ × ℤ)) (k : ℕ) → int_lt (pos 0) p.1 ≡ false → slice_get (positive (p ∷ y)) k ≡ slice_get (positive y) k
place-no p y k h = ap (λ ps. slice_get ps k) (positive-no p y h)

-- the test of the language whether two entries are one
pub entry_test : (e f : Entry) → (e.n == f.n && (e.d == f.d && option_eq nat_eq e.w f.w)) ≡ same_entry e f
entry_test e f =
    ap (λ b. e.n == f.n && (e.d == f.d && b)) (weights e.w f.w) ∙ regrouped (e.n == f.n) (e.d == f.d) (same_weight e.w f.w)
  where
    regrouped : (a b c : Bool) → (a && (b && c)) ≡ (a && b && c)
    regrouped true b c = refl
    regrouped false b c = refl

    weights : (v w : Option ℕ) → option_eq nat_eq v w ≡ same_weight v w
    weights None None = refl
    weights None (Some w) = refl
    weights (Some v) None = refl
    weights (Some v) (Some w) = refl

-- an entry is the first premise, or one of the others
pub among-first : (e f : Entry) (p : ℕ × ℤ) (y : List (ℕ × ℤ)) → int_lt (pos 0) p.1 ≡ true → constant_weight e.n (even_from e.d) (as_distance e.w p.0) ≡ f
    → Contains (premises e (p ∷ y)) f
among-first e f p y some is =
    subst (λ ps. Contains (map (λ q. constant_weight e.n (even_from e.d) (as_distance e.w q.0)) ps) f) (sym (positive-yes p y some)) (0, omega arith, is)

pub among-others : (e f : Entry) (p : ℕ × ℤ) (y : List (ℕ × ℤ)) → int_lt (pos 0) p.1 ≡ true → constant_weight e.n (even_from e.d) (as_distance e.w p.0) ≢ f
    → Contains (premises e (p ∷ y)) f ↔ Contains (premises e y) f
among-others e f p y some other = (
  λ there. past (subst (λ ps. Contains (map at ps) f) (positive-yes p y some) there),
  λ there.
      subst (λ ps. Contains (map at ps) f) (sym (positive-yes p y some)) (suc there.0, (let within = there.1 in omega arith), there.2),
)
  where
    at : ℕ × ℤ → Entry
    at q = constant_weight e.n (even_from e.d) (as_distance e.w q.0)

    past : Contains (at p ∷ map at (positive y)) f → Contains (map at (positive y)) f
    past (zero, within, is) = absurd (other is)
    past (suc k, within, is) = (k, omega arith, is)

pub among-none : (e f : Entry) (p : ℕ × ℤ) (y : List (ℕ × ℤ)) → int_lt (pos 0) p.1 ≡ false
    → Contains (premises e (p ∷ y)) f ↔ Contains (premises e y) f
among-none e f p y none =
    let same = positive-no p y none in (
      λ there. subst (λ ps. Contains (map (λ q. constant_weight e.n (even_from e.d) (as_distance e.w q.0)) ps) f) same there,
      λ there. subst (λ ps. Contains (map (λ q. constant_weight e.n (even_from e.d) (as_distance e.w q.0)) ps) f) (sym same) there,
    )

-- the distance of an index of the range is at most the length
within_length : (e : Entry) (even : Bool) (i : ℕ) → is_in_range e even i ≡ true → as_distance e.w i ≤ e.n
within_length e even i h =
    let parts = and_parts (nat_le (as_index e.w e.d) i && nat_le i (degree_of e)) (not even || i % 2 == 0) h in
    let both = and_parts (nat_le (as_index e.w e.d) i) (nat_le i (degree_of e)) parts.0 in
    go e.w (leb-true i (degree_of e) both.1)
  where
    go : (w : Option ℕ) → i ≤ greatest_index e.n w → as_distance w i ≤ e.n
    go None most = most
    go (Some w) most = omega arith

-- so is the index
as_distance-le : (w : Option ℕ) (i : ℕ) → i ≤ as_distance w i
as_distance-le None i = omega arith
as_distance-le (Some w) i = omega arith

-- each index where something is allowed is at most the degree
pub indices_within : (d : Dual) → IsDual d → All (λ p. p.0 ≤ degree_of d.entry) d.y
indices_within d form = λ k o l.
    let i = (get_or d.y k o).0 in
    let parts = and_parts (nat_le (as_index d.entry.w d.entry.d) i && nat_le i (degree_of d.entry)) (not d.even || i % 2 == 0) (form.allowances k o l).0 in
    leb-true i (degree_of d.entry) (and_parts (nat_le (as_index d.entry.w d.entry.d) i) (nat_le i (degree_of d.entry)) parts.0).1

pub small_indices : (d : Dual) → IsDual d → All (λ p. p.0 ≤ MAX_N) d.y
small_indices d form = λ k o l.
    let limits = entry_limits d.entry form.entry in
    let short = limits.length_to in
    let i = (get_or d.y k o).0 in
    let within = within_length d.entry d.even i (form.allowances k o l).0 in
    let least = as_distance-le d.entry.w i in
    omega arith

-- what a dual rests on is in the table
pub premises_are_entries : (d : Dual) → IsDual d → All IsEntry (dual_premises d)
premises_are_entries d form =
    All-map IsEntry at (positive d.y) (All-filter (λ p. int_lt (pos 0) p.1) (λ p. IsEntry (at p)) d.y
    (λ k o l. entry (get_or d.y k o) (form.allowances k o l).0))
  where
    at : ℕ × ℤ → Entry
    at p = constant_weight d.entry.n (even_from d.entry.d) (as_distance d.entry.w p.0)

    entry : (p : ℕ × ℤ) → is_in_range d.entry d.even p.0 ≡ true → IsEntry (at p)
    entry p h =
        let limits = entry_limits d.entry form.entry in
        let most = within_length d.entry d.even p.0 h in
        let low = limits.length_from in
        let high = limits.length_to in
        let near = limits.distance_from in
        let far = limits.distance_to in
        entry_from_limits (at p) low high (omega arith) (omega arith) (omega arith, omega arith, most)

-- no more of them than indices
pub positive_few : (y : List (ℕ × ℤ)) → length (positive y) ≤ length y
positive_few [] = omega arith
positive_few (p ∷ y) = go (positive_few y) (int_lt (pos 0) p.1) refl
  where
    go : length (positive y) ≤ length y → (b : Bool) → int_lt (pos 0) p.1 ≡ b → length (positive (p ∷ y)) ≤ length (p ∷ y)
    go rest true h = let same = ap (λ (ps : List (ℕ × ℤ)). length ps) (positive-yes p y h) in omega arith
    go rest false h = let same = ap (λ (ps : List (ℕ × ℤ)). length ps) (positive-no p y h) in omega arith

-- a dual rests on MAX_N upper bounds at most
pub premises_few : (d : Dual) → IsDual d → length (dual_premises d) ≤ MAX_N
premises_few d form =
    let few = few_allowances d form in
    let fewer = positive_few d.y in
    let same = length-map (positive d.y) (λ p. constant_weight d.entry.n (even_from d.entry.d) (as_distance d.entry.w p.0)) in
    omega arith

-- an index where more than 0 is allowed is small
pub small_index : (d : Dual) (place i : ℕ) → IsDual d → option_map (λ p. p.0) (slice_get (positive d.y) place) ≡ Some i → i ≤ MAX_N
small_index d place i form h = go (slice_get (positive d.y) place) refl h
  where
    small : All (λ p. p.0 ≤ MAX_N) (positive d.y)
    small = All-filter (λ p. int_lt (pos 0) p.1) (λ p. p.0 ≤ MAX_N) d.y (small_indices d form)

    go : (o : Option (ℕ × ℤ)) → slice_get (positive d.y) place ≡ o → option_map (λ p. p.0) o ≡ Some i → i ≤ MAX_N
    go None at h = absurd (none-some i h)
    go (Some p) at h =
        let within = slice_get_within (positive d.y) place p at in
        let there = get_or_from_slice_get (positive d.y) place p p at in
        let least = small place p within in
        let same = same_Some p.0 i h in
        let moved = ap (λ (q : ℕ × ℤ). q.0) there in
        omega arith

-- the entry at a place, by the index there
pub premise_there : (d : Dual) (place i : ℕ) → option_map (λ p. p.0) (slice_get (positive d.y) place) ≡ Some i
    → slice_get (dual_premises d) place ≡ Some (constant_weight d.entry.n (even_from d.entry.d) (as_distance d.entry.w i))
premise_there d place i h = slice_get-map at (positive d.y) place ∙ go (slice_get (positive d.y) place) h
  where
    at : ℕ × ℤ → Entry
    at p = constant_weight d.entry.n (even_from d.entry.d) (as_distance d.entry.w p.0)

    go : (o : Option (ℕ × ℤ)) → option_map (λ p. p.0) o ≡ Some i → option_map at o ≡ Some (constant_weight d.entry.n (even_from d.entry.d) (as_distance d.entry.w i))
    go None h = absurd (none-some i h)
    go (Some p) h = ap (λ j. Some (constant_weight d.entry.n (even_from d.entry.d) (as_distance d.entry.w j))) (same_Some p.0 i h)
