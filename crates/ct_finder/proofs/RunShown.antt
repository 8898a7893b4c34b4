-- The primal of a run that ends as least has the form of one, is sound, and has the value of the dual's bound.
use Rattle.ct_finder.specs.Inside.Rows.{rows_to}
use Rattle.ct_finder.specs.Inside.Numbers.{numbers_of_range}
use Rattle.std.proofs.Common.{◌≡◌, ℕ, zero, suc, ◌+◌, ◌-◌, ◌*◌, ◌/◌, ◌<◌, ◌≤◌, Bool, true, false, cond, min, List, [], ◌∷◌, ◌++◌, map, length, refl, sym, ap, ap₂, ◌∙◌, arith, subst}
use Rattle.std.specs.Prelude.{filter, zip, AllPairs, IsTrue, ℤ, pos, negsuc, ◌+ℤ◌, ◌*ℤ◌, ◌≤ℤ◌, int_lt}
use Rattle.std.specs.List.{AllByRecursion, range_with_len}
use Rattle.std.proofs.lemmas.Int.{ints}
use Rattle.std.proofs.lemmas.List.Elements.{All-from_recursion}
use Rattle.std.proofs.lemmas.List.Kept.{AllPairs-cons, AllPairs-filter}
use Rattle.ct_words.specs.declared.limits.TheConstants.{MAX_BOUND}
use Rattle.ct_words.specs.Counting.Sums.{total}
use Rattle.ct_words.proofs.Counting.Totals.{total-congruence}
use Rattle.ct_words.specs.declared.entry.Entry.{Entry}
use Rattle.ct_words.specs.Numbers.{combination}
use Rattle.ct_duals.specs.Dual.{degree_of, is_in_range}
use Rattle.ct_duals.specs.Bound.{natural, dual_bound}
use Rattle.ct_primal.specs.Primal.{IsPrimal, IsSound, primal_value}
use Rattle.ct_primal.proofs.WeakDuality.{quotients-le}
use Rattle.ct_finder.specs.Column.{Tableau, range_of, columns, opening}
use Rattle.ct_finder.specs.Column.Column.{A, S, Constant}
use Rattle.ct_finder.specs.Pivot.{at, constant_of}
use Rattle.ct_finder.specs.Run.{run_of, coefficient, run_dual, IsAsked}
use Rattle.ct_finder.specs.Run.End.{Least}
use Rattle.ct_finder.specs.RunPrimal.{run_scale, number_at_place, run_primal}
use Rattle.ct_finder.proofs.Places.{length-columns}
use Rattle.ct_finder.proofs.Ends.{end-of_run}
use Rattle.ct_finder.proofs.BasicRuns.{IsSolved, solved-opening, solved-narrow}
use Rattle.ct_finder.proofs.RunDuals.{combination-zero, bound-without}
use Rattle.ct_finder.proofs.RunScales.{all-filtered}
use Rattle.ct_finder.proofs.RunPairs.{term_of, pairs-total}
use Rattle.ct_finder.proofs.RunPoints.{lines_of, lines-apart}
use Rattle.ct_finder.proofs.RunPrimals.{shown-from, first-entry}

-- the indices of the range ascend
abbrev Ascends : List ℕ → Type 0
Ascends [] = Unit {0}
Ascends (i ∷ is) = AllByRecursion (λ j. i < j) is × Ascends is

from_range : (a b n : ℕ) → b < a → AllByRecursion (λ j. b < j) (range_with_len a n)
from_range a b zero l = tt
from_range a b (suc n) l = (l, from_range (a + 1) b n (omega arith))

ascends-filtered : (p : ℕ → Bool) (a n : ℕ) → Ascends (filter p (range_with_len a n))
ascends-filtered p a zero = tt
ascends-filtered p a (suc n) = go (p a) (ascends-filtered p (a + 1) n)
  where
    rest : List ℕ
    rest = filter p (range_with_len (a + 1) n)

    go : (b : Bool) → Ascends rest → Ascends (cond b (a ∷ rest) rest)
    go true ih = (all-filtered (λ j. a < j) p (range_with_len (a + 1) n) (from_range (a + 1) a n (omega arith)), ih)
    go false ih = ih

-- the pairs of a range: they ascend, and have what its indices have
all-made : (P : ℕ → Type 0) (f : ℕ → ℕ) (range : List ℕ) (a : ℕ) → AllByRecursion P range
    → AllByRecursion (λ (u : ℕ × ℤ). P u.0 × (pos 0 ≤ℤ u.1)) (map (λ v. (v.0, pos (f v.1))) (zip range (range_with_len a (length range))))
all-made P f [] a h = tt
all-made P f (i ∷ range) a h = ((h.0, nonneg (f a)), all-made P f range (a + 1) h.1)
  where
    nonneg : (n : ℕ) → pos 0 ≤ℤ pos n
    nonneg n = omega (arith, ints)

firsts : (P : ℕ → Type 0) (us : List (ℕ × ℤ)) → AllByRecursion (λ (u : ℕ × ℤ). P u.0 × (pos 0 ≤ℤ u.1)) us → AllByRecursion (λ (u : ℕ × ℤ). P u.0) us
firsts P [] h = tt
firsts P (u ∷ us) h = (h.0.0, firsts P us h.1)

ascending-made : (f : ℕ → ℕ) (range : List ℕ) (a : ℕ) → Ascends range
    → AllPairs (λ (u v : ℕ × ℤ). u.0 < v.0) (map (λ v. (v.0, pos (f v.1))) (zip range (range_with_len a (length range))))
ascending-made f [] a h = λ i j d l m. absurd (omega arith)
ascending-made f (i ∷ range) a h =
    let made : List (ℕ × ℤ) = map (λ v. (v.0, pos (f v.1))) (zip range (range_with_len (a + 1) (length range))) in
    AllPairs-cons (λ (u v : ℕ × ℤ). u.0 < v.0) (i, pos (f a)) made
    (All-from_recursion (λ (v : ℕ × ℤ). i < v.0) made (firsts (λ j. i < j) made (all-made (λ j. i < j) f range (a + 1) h.0)))
    (ascending-made f range (a + 1) h.1)

all-pass : (p : ℕ → Bool) (xs : List ℕ) → AllByRecursion (λ x. IsTrue (p x)) (filter p xs)
all-pass p [] = tt
all-pass p (x ∷ xs) = go (p x) refl (all-pass p xs)
  where
    go : (b : Bool) → p x ≡ b → AllByRecursion (λ y. IsTrue (p y)) (filter p xs) → AllByRecursion (λ y. IsTrue (p y)) (cond b (x ∷ filter p xs) (filter p xs))
    go true is ih = (is, ih)
    go false is ih = ih

-- the form of a primal
pub primal-form : (e : Entry) (even : Bool) (t : Tableau) → IsAsked e even → IsPrimal (run_primal e even (range_of e even) t)
primal-form e even t asked =
    let range = range_of e even in
    let f : ℕ → ℕ = number_at_place (run_scale (length range) t) (lines_of t) in
    let made = numbers_of_range range t in
    record {
      entry = asked.entry;
      even_distance = asked.even_distance;
      weighted = asked.weighted;
      ascending = AllPairs-filter (λ (u v : ℕ × ℤ). u.0 < v.0) (λ u. int_lt (pos 0) u.1) made
          (ascending-made f range 1 (ascends-filtered (is_in_range e even) 0 (suc (degree_of e))));
      numbers = All-from_recursion (λ (u : ℕ × ℤ). IsTrue (is_in_range e even u.0) × (pos 0 ≤ℤ u.1)) (filter (λ u. int_lt (pos 0) u.1) made)
          (all-filtered (λ (u : ℕ × ℤ). IsTrue (is_in_range e even u.0) × (pos 0 ≤ℤ u.1)) (λ u. int_lt (pos 0) u.1) made
          (all-made (λ i. IsTrue (is_in_range e even i)) f range 1 (all-pass (is_in_range e even) (range_with_len 0 (suc (degree_of e))))));
    }

-- the last tableau of a run that ends as least
pub solved-of : (number : ℕ → ℕ → ℤ) (e : Entry) (even : Bool) (pivots : ℕ) (last : Tableau) → ((k : ℕ) → k ≤ degree_of e → pos 0 ≤ℤ number k 0)
    → run_of number e even pivots ≡ Least last → IsSolved number (range_of e even) (degree_of e) last
solved-of number e even pivots last some is =
    (end-of_run (IsSolved number (range_of e even) (degree_of e)) (columns (range_of e even) (degree_of e)) (solved-narrow number (range_of e even) (degree_of e)) pivots
    (opening number (range_of e even) (degree_of e)) last (solved-opening number (range_of e even) (degree_of e) some) is).kept

-- its primal is sound
pub primal-sound : (number : ℕ → ℕ → ℤ) (e : Entry) (even : Bool) (t : Tableau) → IsSolved number (range_of e even) (degree_of e) t → IsSound number (run_primal e even (range_of e even) t)
primal-sound number e even t solved =
    let range = range_of e even in
    let shown = shown-from number range (degree_of e) t solved in
    let scale = shown.scale in
    record {
      scale = omega (arith, ints);
      rows = λ k low high.
          subst (λ z. pos 0 ≤ℤ ((pos (run_scale (length range) t) *ℤ number k 0) +ℤ z))
          (sym (pairs-total (number k) range t (lines-apart (length (columns range (degree_of e))) t solved.basic))) (shown.rows k low high);
    }

-- the constant of a row
last-s : (a n : ℕ) (row : List ℤ) → length row ≡ suc n → coefficient (map S (range_with_len a n) ++ Constant ∷ []) row Constant ≡ at row n
last-s a zero [] h = absurd (omega arith)
last-s a zero (v ∷ row) h = refl
last-s a (suc n) [] h = absurd (omega arith)
last-s a (suc n) (v ∷ row) h = last-s (a + 1) n row (omega arith)

last-a : (range : List ℕ) (degree : ℕ) (row : List ℤ) → length row ≡ length range + suc degree
    → coefficient (map A range ++ (map S (rows_to degree) ++ Constant ∷ [])) row Constant ≡ at row (length range + degree)
last-a [] degree row h = last-s 1 degree row (omega arith) ∙ ap (at row) (let same : degree ≡ 0 + degree = omega arith in same)
last-a (i ∷ range) degree [] h = absurd (omega arith)
last-a (i ∷ range) degree (v ∷ row) h =
    let next : suc (length range + degree) ≡ length (i ∷ range) + degree = omega arith in
    last-a range degree row (omega arith) ∙ ap (at (v ∷ row)) next

pub constant-entry : (range : List ℕ) (degree : ℕ) (row : List ℤ) → length row ≡ length (columns range degree) → coefficient (columns range degree) row Constant ≡ constant_of row
constant-entry range degree [] h = absurd (let count = length-columns range degree in omega arith)
constant-entry range degree (v ∷ row) h =
    let count = length-columns range degree in
    let last : length (v ∷ row) - 1 ≡ suc (length range + degree) = omega arith in
    last-a range degree row (omega arith) ∙ sym (ap (at (v ∷ row)) last)

-- quotients of sums whose products are the same
same-quotient : (q : ℕ) (c k w : ℤ) → 1 ≤ q → pos 1 ≤ℤ c → pos 0 ≤ℤ w → c *ℤ w ≡ k *ℤ pos q
    → natural (pos q +ℤ w) / natural (pos q) ≡ natural (c +ℤ k) / natural c
same-quotient q (negsuc c) k w some lead nonneg h = absurd (omega (arith, ints))
same-quotient q (pos c) k (negsuc w) some lead nonneg h = absurd (omega (arith, ints))
same-quotient zero (pos c) (negsuc k) (pos w) some lead nonneg h = absurd (omega arith)
same-quotient (suc q) (pos c) (negsuc k) (pos w) some lead nonneg h = absurd (omega (arith, ints))
same-quotient q (pos c) (pos k) (pos w) some lead nonneg h =
    let same : c * w ≡ k * q = omega (arith, ints) in
    let one : 1 ≤ c = omega (arith, ints) in
    let up = quotients-le (q + w) (c + k) c q one some (omega arith) in
    let down = quotients-le (c + k) (q + w) q c some one (omega arith) in
    omega arith

total-nonneg : (us : List (ℕ × ℤ)) → AllByRecursion (λ (u : ℕ × ℤ). pos 0 ≤ℤ u.1) us → pos 0 ≤ℤ total (λ u. u.1) us
total-nonneg [] h = omega (arith, ints)
total-nonneg (u ∷ us) h =
    let ih = total-nonneg us h.1 in
    let first = h.0 in
    omega (arith, ints)

seconds : (P : ℕ → Type 0) (us : List (ℕ × ℤ)) → AllByRecursion (λ (u : ℕ × ℤ). P u.0 × (pos 0 ≤ℤ u.1)) us → AllByRecursion (λ (u : ℕ × ℤ). pos 0 ≤ℤ u.1) us
seconds P [] h = tt
seconds P (u ∷ us) h = (h.0.1, seconds P us h.1)

-- and its value is the bound of the dual
pub primal-value : (number : ℕ → ℕ → ℤ) (e : Entry) (even : Bool) (t : Tableau) → number 0 0 ≡ pos 1 → IsSolved number (range_of e even) (degree_of e) t
    → primal_value (run_primal e even (range_of e even) t) ≡ dual_bound (run_dual e even t.cost) (combination number (run_dual e even t.cost).c 0) []
unfolding primal_value
primal-value number e even t one solved =
    let range = range_of e even in
    let degree = degree_of e in
    let cs = columns range degree in
    let q = run_scale (length range) t in
    let p = run_primal e even (range_of e even) t in
    let shown = shown-from number range degree t solved in
    let lead = subst (λ z. pos 1 ≤ℤ z) (sym (first-entry range degree t.cost)) solved.kept.sums.some_of_cost in
    let sum : total (λ u. u.1) p.a ≡ total (term_of q range (λ i. pos 1)) (lines_of t) =
    total-congruence (λ u. u.1) (λ u. u.1 *ℤ pos 1) p.a (λ u. times_one u.1) ∙ pairs-total (λ i. pos 1) range t (lines-apart (length cs) t solved.basic) in
    let made = numbers_of_range range t in
    let some = total-nonneg p.a (all-filtered (λ (u : ℕ × ℤ). pos 0 ≤ℤ u.1) (λ u. int_lt (pos 0) u.1) made
    (seconds (λ i. Unit {0}) made (all-made (λ i. Unit {0}) (number_at_place q (lines_of t)) range 1 (all-unit range)))) in
    let product = ap (λ z. at t.cost 0 *ℤ z) sum ∙ shown.value in
    let quotient = same-quotient q (at t.cost 0) (constant_of t.cost) (total (λ u. u.1) p.a) shown.scale lead some product in
    let zero_of = combination-zero number range degree t.cost one solved.kept.sums.cost in
    let entries = ap₂ (λ x y. x +ℤ y) (sym (first-entry range degree t.cost)) (constant-entry range degree t.cost solved.kept.width.cost) in
    ap (min MAX_BOUND) (quotient ∙ ap₂ (λ x y. natural x / natural y) (sym (zero_of ∙ entries)) (first-entry range degree t.cost))
    ∙ sym (bound-without (run_dual e even t.cost) (combination number (run_dual e even t.cost).c 0) refl)
  where
    times_one : (z : ℤ) → z ≡ z *ℤ pos 1
    times_one z = omega (arith, ints)

    all-unit : (xs : List ℕ) → AllByRecursion (λ i. Unit {0}) xs
    all-unit [] = tt
    all-unit (x ∷ xs) = (tt, all-unit xs)
