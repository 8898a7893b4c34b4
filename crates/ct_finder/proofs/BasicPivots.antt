-- A pivot keeps that what solves the rows solves the opening rows, and that each row has its basic column to itself.
use Rattle.ct_finder.specs.Inside.Pivot.{is_unbeaten}
use Rattle.std.proofs.Common.{◌≡◌, ◌≢◌, ℕ, zero, suc, ◌+◌, ◌<◌, ◌≤◌, ◌==◌, Bool, true, false, ◌&&◌, not, List, [], map, length, get_or, refl, sym, ap, ap₂, ◌∙◌, arith, subst, eqb-true}
use Rattle.std.specs.Prelude.{zip, ℤ, pos, negsuc, neg_ℤ, ◌-ℤ◌, ◌*ℤ◌, ◌≤ℤ◌, int_lt, int_le, nat_lt, ◌||◌, Some}
use Rattle.std.proofs.lemmas.Int.{ints}
use Rattle.std.proofs.lemmas.Bool.{false≢true, and_parts, eqb-false}
use Rattle.std.proofs.lemmas.List.{length-map, length-set, get_or-map, get_or-set_same, get_or-set_other}
use Rattle.std.proofs.lemmas.List.Elements.{All-get_or}
use Rattle.std.proofs.lemmas.List.Folds.{list_all_at}
use Rattle.std.proofs.lemmas.List.Quantifiers.{position-Some}
use Rattle.std.proofs.lemmas.Slice.Zip.{length-zip, get_or-zip}
use Rattle.ct_words.proofs.Counting.Products.{int_mul_comm, int_neg_mul}
use Rattle.ct_words.proofs.Counting.Combinations.{product-nonneg}
use Rattle.ct_finder.specs.Column.{Tableau}
use Rattle.ct_finder.specs.Pivot.{at, constant_of, is_candidate, comes_before, pivot_row, pivoted_row, pivoted}
use Rattle.ct_finder.specs.Sum.{HasWidth}
use Rattle.ct_finder.specs.Basic.{worth, row_at, basic_at, Solves, AreBasic}
use Rattle.ct_finder.proofs.Crossed.{int_cancel, positive-mul, positive-from}
use Rattle.ct_finder.proofs.PlaceEntries.{divisor_at, divisor_at-some, pivoted_row-entry, pivoted_row-constant, worth-back, nonneg-from_product}
use Rattle.ct_finder.proofs.TurnedTableaus.{pivot_row-is}

-- two numbers are the same, or they are not
by_place : {P : Type 0} (k i : ℕ) → (k ≡ i → P) → (k ≢ i → P) → P
by_place {P} k i same other = go (k == i) refl
  where
    go : (t : Bool) → (k == i) ≡ t → P
    go true is = same (eqb-true k i is)
    go false is = other (eqb-false k i is)

-- the rows and basic columns of a pivoted tableau
pub row-pivot : (e i : ℕ) (t : Tableau) → i < length t.rows → row_at (pivoted e i t) i ≡ row_at t i
row-pivot e i t within =
    get_or-set_same (map (pivoted_row e (row_at t i)) t.rows) i (row_at t i) [] (omega (arith, length-map t.rows (pivoted_row e (row_at t i))))

pub row-other : (e i k : ℕ) (t : Tableau) → k < length t.rows → k ≢ i → row_at (pivoted e i t) k ≡ pivoted_row e (row_at t i) (row_at t k)
row-other e i k t within other =
    get_or-set_other (map (pivoted_row e (row_at t i)) t.rows) i k (row_at t i) [] other ∙ get_or-map (pivoted_row e (row_at t i)) t.rows k [] [] within

pub basic-pivot : (e i : ℕ) (t : Tableau) → i < length t.basics → basic_at (pivoted e i t) i ≡ e
basic-pivot e i t within = get_or-set_same t.basics i e 0 within

pub basic-other : (e i k : ℕ) (t : Tableau) → k ≢ i → basic_at (pivoted e i t) k ≡ basic_at t k
basic-other e i k t other = get_or-set_other t.basics i k e 0 other

pub count-pivoted : (e i : ℕ) (t : Tableau) → length (pivoted e i t).rows ≡ length t.rows
count-pivoted e i t =
    length-set (map (pivoted_row e (row_at t i)) t.rows) i (row_at t i) ∙ length-map t.rows (pivoted_row e (row_at t i))

-- a row of a tableau is as wide as it
pub row-width : (width k : ℕ) (t : Tableau) → HasWidth width t → k < length t.rows → length (row_at t k) ≡ width
row-width width k t has within = All-get_or (λ row. length row ≡ width) t.rows k [] within has.rows

-- what solves the pivoted tableau solves the one before
pub solves-back : (width e i : ℕ) (t : Tableau) → HasWidth width t → i < length t.rows → pos 1 ≤ℤ at (row_at t i) e → (x : List (ℕ × ℤ)) → Solves x (pivoted e i t) → Solves x t
solves-back width e i t has within some x solves =
    let own = row-width width i t has within in
    let count = count-pivoted e i t in
    let pivot : worth x (row_at t i) ≡ pos 0 = ap (worth x) (sym (row-pivot e i t within)) ∙ solves.rows i (omega arith) in
    record {
      rows = λ k l. by_place k i
          (λ same. ap (λ m. worth x (row_at t m)) same ∙ pivot)
          (λ other. worth-back e (row_at t i) (row_at t k) (row-width width k t has l ∙ sym own) some x pivot
          (ap (worth x) (sym (row-other e i k t l other)) ∙ solves.rows k (omega arith)));
      cost = worth-back e (row_at t i) t.cost (has.cost ∙ sym own) some x pivot solves.cost;
    }

-- the entries of a pivoted row where the pivot row has 0
entry-kept_none : (e b : ℕ) (pivot row : List ℤ) → length row ≡ length pivot → at pivot b ≡ pos 0 → at row b ≡ pos 0 → at (pivoted_row e pivot row) b ≡ pos 0
entry-kept_none e b pivot row same none other =
    let whole = pivoted_row-entry e pivot row same b in
    let first = ap (λ z. at pivot e *ℤ z) other in
    let second = ap (λ z. at row e *ℤ z) none in
    int_cancel (divisor_at e pivot row) (at (pivoted_row e pivot row) b) (pos 0) (divisor_at-some e pivot row) (omega (arith, ints))

entry-kept_some : (e b : ℕ) (pivot row : List ℤ) → length row ≡ length pivot → pos 1 ≤ℤ at pivot e → at pivot b ≡ pos 0 → pos 1 ≤ℤ at row b
    → pos 1 ≤ℤ at (pivoted_row e pivot row) b
entry-kept_some e b pivot row same positive none some =
    let whole = pivoted_row-entry e pivot row same b in
    let second = ap (λ z. at row e *ℤ z) none in
    let product = positive-mul (at pivot e) (at row b) positive some in
    positive-from (divisor_at e pivot row) (at (pivoted_row e pivot row) b) (omega (arith, ints))

-- and at the entering column
entry-entered : (e : ℕ) (pivot row : List ℤ) → length row ≡ length pivot → at (pivoted_row e pivot row) e ≡ pos 0
entry-entered e pivot row same =
    let whole = pivoted_row-entry e pivot row same e in
    let pivot_on = int_mul_comm (at pivot e) (at row e) in
    int_cancel (divisor_at e pivot row) (at (pivoted_row e pivot row) e) (pos 0) (divisor_at-some e pivot row) (omega (arith, ints))

-- a positive number is at least 0
some-positive : (z : ℤ) → pos 1 ≤ℤ z → pos 0 ≤ℤ z
some-positive z h = omega (arith, ints)

-- a product less another that is no greater, and one less another that is at most 0
difference-some : (a b c d : ℤ) → a ≡ c → b ≡ d → d ≤ℤ c → pos 0 ≤ℤ (a -ℤ b)
difference-some a b c d p q less = omega (arith, ints)

sum-some : (a b c : ℤ) → pos 0 ≤ℤ a → pos 0 ≤ℤ c → c ≡ neg_ℤ b → pos 0 ≤ℤ (a -ℤ b)
sum-some a b c some more is = omega (arith, ints)

-- the constant of a row that does not come before the pivot row
constant-kept : (e : ℕ) (pivot row : List ℤ) → length row ≡ length pivot → pos 1 ≤ℤ at pivot e → pos 0 ≤ℤ constant_of pivot → pos 0 ≤ℤ constant_of row
    → (pos 1 ≤ℤ at row e → (constant_of pivot *ℤ at row e) ≤ℤ (constant_of row *ℤ at pivot e)) → pos 0 ≤ℤ constant_of (pivoted_row e pivot row)
constant-kept e pivot row same positive base some first =
    let whole = pivoted_row-constant e pivot row same in
    nonneg-from_product (divisor_at e pivot row) (constant_of (pivoted_row e pivot row)) (divisor_at-some e pivot row)
    (subst (λ z. pos 0 ≤ℤ z) (sym whole) (go (int_lt (pos 0) (at row e)) refl))
  where
    above : (z : ℤ) → int_lt (pos 0) z ≡ true → pos 1 ≤ℤ z
    above (pos zero) h = absurd (false≢true h)
    above (pos (suc n)) h = omega (arith, ints)
    above (negsuc n) h = absurd (false≢true h)

    below : (z : ℤ) → int_lt (pos 0) z ≡ false → pos 0 ≤ℤ neg_ℤ z
    below z h = grind (arith, ints)

    go : (t : Bool) → int_lt (pos 0) (at row e) ≡ t → pos 0 ≤ℤ ((at pivot e *ℤ constant_of row) -ℤ (at row e *ℤ constant_of pivot))
    go true is =
        let less = first (above (at row e) is) in
        difference-some (at pivot e *ℤ constant_of row) (at row e *ℤ constant_of pivot) (constant_of row *ℤ at pivot e) (constant_of pivot *ℤ at row e)
        (int_mul_comm (at pivot e) (constant_of row)) (int_mul_comm (at row e) (constant_of pivot)) less
    go false is =
        sum-some (at pivot e *ℤ constant_of row) (at row e *ℤ constant_of pivot) (neg_ℤ (at row e) *ℤ constant_of pivot)
        (product-nonneg (at pivot e) (constant_of row) (some-positive (at pivot e) positive) some)
        (product-nonneg (neg_ℤ (at row e)) (constant_of pivot) (below (at row e) is) base) (int_neg_mul (at row e) (constant_of pivot))

-- no candidate comes before the pivot row
pub pivot_row-first : (e i k : ℕ) (t : Tableau) → length t.basics ≡ length t.rows → pivot_row e t ≡ Some i → k < length t.rows → pos 1 ≤ℤ at (row_at t k) e
    → (constant_of (row_at t i) *ℤ at (row_at t k) e) ≤ℤ (constant_of (row_at t k) *ℤ at (row_at t i) e)
pivot_row-first e i k t count found within some =
    let lines = zip t.rows t.basics in
    let known = position-Some (λ l. is_candidate e l && is_unbeaten e lines l) lines i ([], 0) found in
    let long = length-zip t.rows t.basics in
    let inside = known.0 in
    let here = get_or-zip t.rows t.basics i ([], 0) (omega arith) (omega arith) in
    let there = get_or-zip t.rows t.basics k ([], 0) within (omega arith) in
    let both = and_parts (is_candidate e (get_or lines i ([], 0))) (is_unbeaten e lines (get_or lines i ([], 0))) known.1 in
    let unbeaten = ap (λ l. is_unbeaten e lines l) (sym here) ∙ both.1 in
    let other : List ℤ × ℕ = (row_at t k, basic_at t k) in
    go (not (is_candidate e other && comes_before e other (row_at t i, basic_at t i))) refl
    (λ fails.
    let beaten = list_all_at (λ m. not (is_candidate e m && comes_before e m (row_at t i, basic_at t i))) lines k ([], 0) (omega arith)
    (ap (λ l. not (is_candidate e l && comes_before e l (row_at t i, basic_at t i))) there ∙ fails) in
    sym unbeaten ∙ beaten)
  where
    candidate : (z : ℤ) → pos 1 ≤ℤ z → int_lt (pos 0) z ≡ true
    candidate z h = grind (arith, ints)

    not_less : (x y : ℤ) → int_lt x y ≡ false → y ≤ℤ x
    not_less x y h = grind (arith, ints)

    from_test : (a b c : Bool) → not (true && (a || (b && c))) ≡ true → a ≡ false
    from_test true b c h = absurd cc
    from_test false b c h = refl

    go : (b : Bool) → not (is_candidate e (row_at t k, basic_at t k) && comes_before e (row_at t k, basic_at t k) (row_at t i, basic_at t i)) ≡ b
        → (not (is_candidate e (row_at t k, basic_at t k) && comes_before e (row_at t k, basic_at t k) (row_at t i, basic_at t i)) ≡ false → true ≡ false)
        → (constant_of (row_at t i) *ℤ at (row_at t k) e) ≤ℤ (constant_of (row_at t k) *ℤ at (row_at t i) e)
    go true is fails =
        let left = constant_of (row_at t k) *ℤ at (row_at t i) e in
        let right = constant_of (row_at t i) *ℤ at (row_at t k) e in
        let least = int_le left right in
        let tied = nat_lt (basic_at t k) (basic_at t i) in
        not_less left right
        (from_test (int_lt left right) least tied
        (ap (λ c. not (c && (int_lt left right || (least && tied)))) (sym (candidate (at (row_at t k) e) some)) ∙ is))
    go false is fails = absurd (let h = fails is in cc)

-- a pivot keeps that each row has its basic column to itself
pub basic-pivoted : (width e i : ℕ) (t : Tableau) → HasWidth width t → (1 ≤ e) × (e + 1 < width) → pivot_row e t ≡ Some i → AreBasic width t → AreBasic width (pivoted e i t)
basic-pivoted width e i t has choice found basic =
    let known = pivot_row-is e t i found in
    let within = known.0 in
    let count = count-pivoted e i t in
    let own = row-width width i t has within in
    let pivot = row_at t i in
    let places = basic.count in
    let basic_i = basic-pivot e i t (omega arith) in
    let width_at : (k : ℕ) → k < length t.rows → length (row_at t k) ≡ length pivot = λ k l. row-width width k t has l ∙ sym own in
    record {
      count = length-set t.basics i e ∙ basic.count ∙ sym count;
      choices = λ k l. by_place k i
          (λ same. subst (λ b. (1 ≤ b) × (b + 1 < width)) (sym (ap (basic_at (pivoted e i t)) same ∙ basic_i)) choice)
          (λ other. subst (λ b. (1 ≤ b) × (b + 1 < width)) (sym (basic-other e i k t other)) (basic.choices k (omega arith)));
      constants = λ k l. by_place k i
          (λ same. subst (λ row. pos 0 ≤ℤ constant_of row) (sym (ap (row_at (pivoted e i t)) same ∙ row-pivot e i t within)) (basic.constants i within))
          (λ other. subst (λ row. pos 0 ≤ℤ constant_of row) (sym (row-other e i k t (omega arith) other))
          (constant-kept e pivot (row_at t k) (width_at k (omega arith)) known.1 (basic.constants i within) (basic.constants k (omega arith))
          (pivot_row-first e i k t basic.count found (omega arith))));
      own = λ k l. by_place k i
          (λ same. subst (λ z. pos 1 ≤ℤ z)
          (sym (ap (λ m. at (row_at (pivoted e i t) m) (basic_at (pivoted e i t) m)) same ∙ ap₂ (λ row b. at row b) (row-pivot e i t within) basic_i)) known.1)
          (λ other. subst (λ z. pos 1 ≤ℤ z) (sym (ap₂ (λ row b. at row b) (row-other e i k t (omega arith) other) (basic-other e i k t other)))
          (entry-kept_some e (basic_at t k) pivot (row_at t k) (width_at k (omega arith)) known.1
          (basic.others i k within (omega arith) (λ is. other (sym is))) (basic.own k (omega arith))));
      others = λ j k l m different. by_place k i
          (λ same. ap₂ (λ row b. at row b) (row-other e i j t (omega arith) (λ is. different (is ∙ sym same))) (ap (basic_at (pivoted e i t)) same ∙ basic_i)
          ∙ entry-entered e pivot (row_at t j) (width_at j (omega arith)))
          (λ other. by_place j i
          (λ is. ap₂ (λ row b. at row b) (ap (row_at (pivoted e i t)) is ∙ row-pivot e i t within) (basic-other e i k t other)
          ∙ basic.others i k within (omega arith) (λ h. other (sym h)))
          (λ outer. ap₂ (λ row b. at row b) (row-other e i j t (omega arith) outer) (basic-other e i k t other)
          ∙ entry-kept_none e (basic_at t k) pivot (row_at t j) (width_at j (omega arith)) (basic.others i k within (omega arith) (λ h. other (sym h)))
          (basic.others j k (omega arith) (omega arith) different)));
      cost = λ k l. by_place k i
          (λ same. ap (λ b. at (pivoted_row e pivot t.cost) b) (ap (basic_at (pivoted e i t)) same ∙ basic_i) ∙ entry-entered e pivot t.cost (has.cost ∙ sym own))
          (λ other. ap (λ b. at (pivoted_row e pivot t.cost) b) (basic-other e i k t other)
          ∙ entry-kept_none e (basic_at t k) pivot t.cost (has.cost ∙ sym own) (basic.others i k within (omega arith) (λ h. other (sym h)))
          (basic.cost k (omega arith)));
    }
