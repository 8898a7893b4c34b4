-- The primal of a run that ends as least is sound, and its value is the bound of the run's dual.
use Rattle.ct_finder.specs.Inside.Numbers.{is_of_a, basic_constant}
use Rattle.ct_finder.specs.Sum.{opening_row}
use Rattle.std.proofs.Common.{◌≡◌, ℕ, zero, suc, ◌+◌, ◌-◌, ◌*◌, ◌/◌, ◌<◌, ◌≤◌, ◌==◌, Bool, true, false, cond, ◌&&◌, nat_le, List, [], ◌∷◌, map, length, get_or, refl, sym, ap, ap₂, ◌∙◌, arith, subst, leb-true, inl, inr}
use Rattle.std.specs.Prelude.{ℤ, pos, negsuc, neg_ℤ, ◌+ℤ◌, ◌*ℤ◌, ◌≤ℤ◌}
use Rattle.std.specs.List.{AllByRecursion}
use Rattle.std.specs.Int.{◌∣◌}
use Rattle.std.proofs.Math.Nat.{mul-div_cancel'}
use Rattle.std.proofs.lemmas.Int.{ints}
use Rattle.std.proofs.lemmas.Bool.{cases_lt}
use Rattle.std.proofs.lemmas.List.{length-map}
use Rattle.ct_words.specs.Counting.Sums.{total}
use Rattle.ct_words.proofs.Counting.Totals.{total-add, total-scale}
use Rattle.ct_words.proofs.Counting.Products.{int_mul_assoc, int_mul_comm, int_neg_mul, int_mul_neg}
use Rattle.ct_words.proofs.Counting.Totals.{int_dist}
use Rattle.ct_words.proofs.Counting.Combinations.{product-nonneg}
use Rattle.ct_finder.specs.Column.{Tableau, columns, opening_entry, cost_entry, opening}
use Rattle.ct_finder.specs.Column.Column.{Z, A, S}
use Rattle.ct_finder.specs.Pivot.{at, constant_of}
use Rattle.ct_finder.specs.Run.{coefficient}
use Rattle.ct_finder.specs.Basic.{worth, row_at, basic_at, Solves}
use Rattle.ct_finder.specs.RunPrimal.{basic_entry, lines_of_a, scaled, run_scale}
use Rattle.ct_finder.proofs.Crossed.{int_cancel}
use Rattle.ct_finder.proofs.PlaceEntries.{nonneg-from_product}
use Rattle.ct_finder.proofs.Places.{length-columns, column-a, column-s, column-last, opening-at, opening-constant, cost-at}
use Rattle.ct_finder.proofs.BasicRuns.{IsSolved, opening-row_at, rows-opening}
use Rattle.ct_finder.proofs.RunScales.{all-weaker, all-both, all-filtered, all-unfiltered, divides-last, product_of, divides-product}
use Rattle.ct_finder.proofs.RunPairs.{term_of}
use Rattle.ct_finder.proofs.RunPoints.{IsLine, lines_of, line-at, lines-count, lines-are, number_of, point, worth-point, point-row, point-cost}

-- terms that are not negative add up to at least 0, and those that are 0 to 0
total-nonneg_all : {X : Type 0} (f : X → ℤ) (xs : List X) → AllByRecursion (λ x. pos 0 ≤ℤ f x) xs → pos 0 ≤ℤ total f xs
total-nonneg_all f [] h = omega (arith, ints)
total-nonneg_all f (x ∷ xs) h =
    let ih = total-nonneg_all f xs h.1 in
    let first = h.0 in
    omega (arith, ints)

total-none_all : {X : Type 0} (f : X → ℤ) (xs : List X) → AllByRecursion (λ x. f x ≡ pos 0) xs → total f xs ≡ pos 0
total-none_all f [] h = refl
total-none_all f (x ∷ xs) h =
    let ih = total-none_all f xs h.1 in
    let first = h.0 in
    omega (arith, ints)

-- what is known of a row beside: the scale is a multiple of its entry where its basic column is an a, and D is one of each
pub record IsScaled (width count q D : ℕ) (l : List ℤ × ℕ) : Type 0 where
  pub line : IsLine width l
  pub whole : basic_entry l ∣ D
  pub part : is_of_a count l ≡ true → basic_entry l ∣ q

-- where the basic column is an a, the number of the point is D times the number of the primal
number-scaled : (width count q D : ℕ) (l : List ℤ × ℕ) → IsScaled width count q D l → is_of_a count l ≡ true → number_of q D l ≡ D * scaled q l
number-scaled width count q D l known a =
    let k = basic_constant l in
    let b = basic_entry l in
    let d = D / b in
    let u = q / b in
    let whole : b * d ≡ D = mul-div_cancel' b known.whole in
    let part : b * u ≡ q = mul-div_cancel' b (known.part a) in
    let left : k * (b * u * d) ≡ number_of q D l = ap (λ m. k * (m * d)) part in
    let right : b * d * (k * u) ≡ D * scaled q l = ap (λ m. m * (k * u)) whole in
    let same : k * (b * u * d) ≡ b * d * (k * u) = omega arith in
    sym left ∙ same ∙ right

-- the basic column is the a of an index, or an s
by_column : {P : Type 0} (range : List ℕ) (degree q D : ℕ) (l : List ℤ × ℕ) → IsLine (length (columns range degree)) l
    → (is_of_a (length range) l ≡ true → get_or (columns range degree) l.1 Z ≡ A (get_or range (l.1 - 1) 0) → P)
    → (is_of_a (length range) l ≡ false → (j : ℕ) → get_or (columns range degree) l.1 Z ≡ S (suc j) → P) → P
by_column {P} range degree q D l known of_a of_s = go (nat_le l.1 (length range)) refl
  where
    le_is : (x y : ℕ) → x ≤ y → nat_le x y ≡ true
    le_is x y p = grind arith

    above : (x y : ℕ) → nat_le x y ≡ false → y < x
    above x y e = elim (cases_lt y x) [ inl less ↦ less | inr past ↦ absurd (let no = le_is x y past in let both = sym e ∙ no in cc) ]

    one : nat_le 1 l.1 ≡ true
    one = le_is 1 l.1 known.first

    go : (t : Bool) → nat_le l.1 (length range) ≡ t → P
    go true is =
        let high = leb-true l.1 (length range) is in
        let low = known.first in
        let whole : l.1 ≡ suc (l.1 - 1) = omega arith in
        of_a (ap₂ (λ a b. a && b) one is) (ap (λ b. get_or (columns range degree) b Z) whole ∙ column-a range degree (l.1 - 1) (omega arith))
    go false is =
        let past = above l.1 (length range) is in
        let last = known.last in
        let count = length-columns range degree in
        let j = l.1 - 1 - length range in
        let whole : l.1 ≡ suc (length range + j) = omega arith in
        of_s (ap₂ (λ a b. a && b) one is) j (ap (λ b. get_or (columns range degree) b Z) whole ∙ column-s range degree j (omega arith))

-- what an opening row gives at the basic column of a row, with D times the term of the row, is at least 0
opening-term : (number : ℕ → ℕ → ℤ) (range : List ℕ) (degree k q D : ℕ) (l : List ℤ × ℕ) → IsScaled (length (columns range degree)) (length range) q D l
    → pos 0 ≤ℤ ((at (opening_row number (columns range degree) k) l.1 *ℤ pos (number_of q D l)) +ℤ (pos D *ℤ term_of q range (number k) l))
opening-term number range degree k q D l known =
    let last = known.line.last in
    let here = opening-at number range degree k l.1 (omega arith) in
    by_column range degree q D l known.line
    (λ a column.
    let n = number k (get_or range (l.1 - 1) 0) in
    let entry : at (opening_row number (columns range degree) k) l.1 ≡ neg_ℤ n = here ∙ ap (opening_entry number k) column in
    let scaled_is = number-scaled (length (columns range degree)) (length range) q D l known a in
    let first = ap₂ (λ x m. x *ℤ pos m) entry scaled_is in
    let second : pos D *ℤ term_of q range (number k) l ≡ pos D *ℤ (pos (scaled q l) *ℤ n) =
    ap (λ b. pos D *ℤ cond b (pos (scaled q l) *ℤ n) (pos 0)) a in
    let zero_of = cancelled D (scaled q l) n in
    omega (arith, ints, first, second, zero_of))
    (λ s j column.
    let entry : at (opening_row number (columns range degree) k) l.1 ≡ cond (suc j == k) (pos 1) (pos 0) = here ∙ ap (opening_entry number k) column in
    let some = product-nonneg (cond (suc j == k) (pos 1) (pos 0)) (pos (number_of q D l)) (unit (suc j == k)) (omega (arith, ints)) in
    let first = ap (λ x. x *ℤ pos (number_of q D l)) entry in
    let second : pos D *ℤ term_of q range (number k) l ≡ pos D *ℤ pos 0 =
    ap (λ b. pos D *ℤ cond b (pos (scaled q l) *ℤ number k (get_or range (l.1 - 1) 0)) (pos 0)) s in
    omega (arith, ints, some, first, second))
  where
    unit : (b : Bool) → pos 0 ≤ℤ cond b (pos 1) (pos 0)
    unit true = omega (arith, ints)
    unit false = omega (arith, ints)

    cancelled : (D a : ℕ) (n : ℤ) → (neg_ℤ n *ℤ pos (D * a)) +ℤ (pos D *ℤ (pos a *ℤ n)) ≡ pos 0
    cancelled D a n =
        let x = int_neg_mul n (pos (D * a)) in
        let y = int_mul_comm n (pos (D * a)) in
        let z : (pos D *ℤ pos a) *ℤ n ≡ pos D *ℤ (pos a *ℤ n) = int_mul_assoc (pos D) (pos a) n in
        let w : pos (D * a) *ℤ n ≡ (pos D *ℤ pos a) *ℤ n = ap (λ v. v *ℤ n) (pos_product D a) in
        omega (arith, ints)
      where
        pos_product : (x y : ℕ) → pos (x * y) ≡ pos x *ℤ pos y
        pos_product x y = omega (arith, ints)

-- what the opening cost row gives there, with D times the number, is 0
cost-term : (range : List ℕ) (degree q D : ℕ) (l : List ℤ × ℕ) → IsScaled (length (columns range degree)) (length range) q D l
    → (at (map cost_entry (columns range degree)) l.1 *ℤ pos (number_of q D l)) +ℤ (pos D *ℤ term_of q range (λ i. pos 1) l) ≡ pos 0
cost-term range degree q D l known =
    let last = known.line.last in
    let here = cost-at range degree l.1 (omega arith) in
    by_column range degree q D l known.line
    (λ a column.
    let entry : at (map cost_entry (columns range degree)) l.1 ≡ negsuc 0 = here ∙ ap cost_entry column in
    let scaled_is = number-scaled (length (columns range degree)) (length range) q D l known a in
    let first = ap₂ (λ x m. x *ℤ pos m) entry scaled_is in
    let second : pos D *ℤ term_of q range (λ i. pos 1) l ≡ pos D *ℤ (pos (scaled q l) *ℤ pos 1) =
    ap (λ b. pos D *ℤ cond b (pos (scaled q l) *ℤ pos 1) (pos 0)) a in
    let zero_of = cancelled D (scaled q l) in
    omega (arith, ints, first, second, zero_of))
    (λ s j column.
    let entry : at (map cost_entry (columns range degree)) l.1 ≡ pos 0 = here ∙ ap cost_entry column in
    let first = ap (λ x. x *ℤ pos (number_of q D l)) entry in
    let second : pos D *ℤ term_of q range (λ i. pos 1) l ≡ pos D *ℤ pos 0 =
    ap (λ b. pos D *ℤ cond b (pos (scaled q l) *ℤ pos 1) (pos 0)) s in
    omega (arith, ints, first, second))
  where
    cancelled : (D a : ℕ) → (negsuc 0 *ℤ pos (D * a)) +ℤ (pos D *ℤ (pos a *ℤ pos 1)) ≡ pos 0
    cancelled D a =
        let one : pos a *ℤ pos 1 ≡ pos a = omega (arith, ints) in
        let more = ap (λ v. pos D *ℤ v) one in
        omega (arith, ints)

-- the first entries of a tableau's rows
pub first-entry : (range : List ℕ) (degree : ℕ) (row : List ℤ) → at row 0 ≡ coefficient (columns range degree) row Z
first-entry range degree [] = refl
first-entry range degree (v ∷ row) = refl

-- what the last tableau shows
pub record IsShown (number : ℕ → ℕ → ℤ) (range : List ℕ) (degree : ℕ) (t : Tableau) : Type 0 where
  pub scale : 1 ≤ run_scale (length range) t
  pub rows : (k : ℕ) → 1 ≤ k → k ≤ degree
      → pos 0 ≤ℤ ((pos (run_scale (length range) t) *ℤ number k 0) +ℤ total (term_of (run_scale (length range) t) range (number k)) (lines_of t))
  pub value : at t.cost 0 *ℤ total (term_of (run_scale (length range) t) range (λ i. pos 1)) (lines_of t) ≡ constant_of t.cost *ℤ pos (run_scale (length range) t)

pub shown-from : (number : ℕ → ℕ → ℤ) (range : List ℕ) (degree : ℕ) (t : Tableau) → IsSolved number range degree t → IsShown number range degree t
shown-from number range degree t solved =
    let cs = columns range degree in
    let width = length cs in
    let basic = solved.basic in
    let has = solved.kept.width in
    let ls = lines_of t in
    let count = length range in
    let q = run_scale count t in
    let lines = lines-are width t basic in
    let somes = all-weaker (IsLine width) (λ l. 1 ≤ basic_entry l) (λ l h. h.some) ls lines in
    let scales = divides-last 1 (lines_of_a count t) (omega arith) (all-filtered (λ l. 1 ≤ basic_entry l) (is_of_a count) ls somes) in
    let parts = all-unfiltered (λ l. basic_entry l ∣ q) (is_of_a count) ls scales.2 in
    let lead_some = subst (λ z. pos 1 ≤ℤ z) (sym (first-entry range degree t.cost)) solved.kept.sums.some_of_cost in
    let c = first_number (at t.cost 0) lead_some in
    let D = product_of c.0 ls in
    let wholes = divides-product c.0 ls c.1 somes in
    let known : AllByRecursion (IsScaled width count q D) ls =
    all-weaker (λ l. (IsLine width l × (basic_entry l ∣ D)) × (is_of_a count l ≡ true → basic_entry l ∣ q)) (IsScaled width count q D)
    (λ l h. record { line = h.0.0; whole = h.0.1; part = h.1 }) ls
    (all-both (λ l. IsLine width l × (basic_entry l ∣ D)) (λ l. is_of_a count l ≡ true → basic_entry l ∣ q) ls
    (all-both (IsLine width) (λ l. basic_entry l ∣ D) ls lines wholes.2) parts) in
    let z = constant_of t.cost *ℤ pos (q * (D / c.0)) in
    let lead_whole : c.0 * (D / c.0) ≡ D = mul-div_cancel' c.0 wholes.0 in
    let lead : at t.cost 0 *ℤ z ≡ constant_of t.cost *ℤ pos (q * D) = lead_is (at t.cost 0) (constant_of t.cost) c.0 q (D / c.0) D c.2 lead_whole in
    let x = point z q D width ls in
    let solves : Solves x t = record {
      rows = λ k l.
          point-row z q D width k t has basic l
          (first-entry range degree (row_at t k) ∙ solved.kept.sums.none_of_cost k [] l)
          (whole_at k D wholes.2 l);
      cost = point-cost z q D width t has basic lead;
    } in
    let back = solved.back x solves in
    record {
      scale = scales.1;
      rows = λ k low high. row_shown k low high D q z known wholes.1 back;
      value = value_shown D q z known wholes.1 back lead;
    }
  where
    first_number : (v : ℤ) → pos 1 ≤ℤ v → (c : ℕ) × (1 ≤ c) × (v ≡ pos c)
    first_number (pos n) h = (n, omega (arith, ints), refl)
    first_number (negsuc n) h = absurd (omega (arith, ints))

    whole_at : (k D : ℕ) → AllByRecursion (λ l. basic_entry l ∣ D) (lines_of t) → k < length t.rows → basic_entry (row_at t k, basic_at t k) ∣ D
    whole_at k D h l = subst (λ m. basic_entry m ∣ D) (line-at t k solved.basic.count l) (at_index (lines_of t) h k (let count = lines-count t solved.basic.count in omega arith))
      where
        at_index : (ls : List (List ℤ × ℕ)) → AllByRecursion (λ m. basic_entry m ∣ D) ls → (k : ℕ) → k < length ls → basic_entry (get_or ls k ([], 0)) ∣ D
        at_index [] h k l = absurd (omega arith)
        at_index (m ∷ ls) h zero l = h.0
        at_index (m ∷ ls) h (suc k) l = at_index ls h.1 k (omega arith)

    lead_is : (v k : ℤ) (c q d D : ℕ) → v ≡ pos c → c * d ≡ D → v *ℤ (k *ℤ pos (q * d)) ≡ k *ℤ pos (q * D)
    lead_is v k c q d D is whole =
        let pivot_on = sym (int_mul_assoc v k (pos (q * d))) ∙ ap (λ y. y *ℤ pos (q * d)) (int_mul_comm v k) ∙ int_mul_assoc k v (pos (q * d)) in
        let same : c * (q * d) ≡ q * (c * d) = omega arith in
        pivot_on ∙ ap (λ y. k *ℤ (y *ℤ pos (q * d))) is ∙ ap (λ m. k *ℤ pos m) (same ∙ ap (λ m. q * m) whole)

    row_shown : (k : ℕ) → 1 ≤ k → k ≤ degree → (D q : ℕ) (z : ℤ) → AllByRecursion (IsScaled (length (columns range degree)) (length range) q D) (lines_of t) → 1 ≤ D
        → Solves (point z q D (length (columns range degree)) (lines_of t)) (opening number range degree)
        → pos 0 ≤ℤ ((pos q *ℤ number k 0) +ℤ total (term_of q range (number k)) (lines_of t))
    row_shown zero low high D q z known some back = absurd (omega arith)
    row_shown (suc k) low high D q z known some back =
        let cs = columns range degree in
        let row = opening_row number cs (suc k) in
        let ls = lines_of t in
        let f : List ℤ × ℕ → ℤ = λ l. at row l.1 *ℤ pos (number_of q D l) in
        let g : List ℤ × ℕ → ℤ = term_of q range (number (suc k)) in
        let n = number (suc k) 0 in
        let gives : worth (point z q D (length cs) ls) row ≡ pos 0 =
        ap (worth (point z q D (length cs) ls)) (sym (opening-row_at number range degree k (omega arith)))
        ∙ back.rows k (let rows = rows-opening number range degree in omega arith) in
        let whole = sym (worth-point z q D (length cs) ls row (length-map cs (opening_entry number (suc k)))) ∙ gives in
        let constant = ap (λ y. y *ℤ neg_ℤ (pos (q * D))) (opening-constant number range degree (suc k)) in
        let sum = sum_of f g D ls (all-weaker (IsScaled (length cs) (length range) q D) (λ l. pos 0 ≤ℤ (f l +ℤ (pos D *ℤ g l)))
        (λ l h. opening-term number range degree (suc k) q D l h) ls known) in
        nonneg-from_product D ((pos q *ℤ n) +ℤ total g ls) some (grown n (total f ls) (total g ls) z (constant_of row) D q whole constant sum)
      where
        sum_of : (f g : List ℤ × ℕ → ℤ) (D : ℕ) (ls : List (List ℤ × ℕ)) → AllByRecursion (λ l. pos 0 ≤ℤ (f l +ℤ (pos D *ℤ g l))) ls
            → pos 0 ≤ℤ (total f ls +ℤ (pos D *ℤ total g ls))
        sum_of f g D ls h =
            let all = total-nonneg_all (λ l. f l +ℤ (pos D *ℤ g l)) ls h in
            let added = total-add f (λ l. pos D *ℤ g l) ls in
            let scaled_is = total-scale (pos D) g ls in
            omega (arith, ints)

        grown : (n a b z e : ℤ) (D q : ℕ) → (pos 0 *ℤ z) +ℤ ((e *ℤ neg_ℤ (pos (q * D))) +ℤ a) ≡ pos 0 → e *ℤ neg_ℤ (pos (q * D)) ≡ n *ℤ neg_ℤ (pos (q * D))
            → pos 0 ≤ℤ (a +ℤ (pos D *ℤ b)) → pos 0 ≤ℤ (pos D *ℤ ((pos q *ℤ n) +ℤ b))
        grown n a b z e D q whole constant sum =
            let minus = int_mul_neg n (pos (q * D)) in
            let split = int_dist (pos D) (pos q *ℤ n) b in
            let pivot_on : pos D *ℤ (pos q *ℤ n) ≡ n *ℤ pos (q * D) =
            sym (int_mul_assoc (pos D) (pos q) n) ∙ int_mul_comm (pos D *ℤ pos q) n ∙ ap (λ y. n *ℤ y) (product D q) in
            omega (arith, ints)
          where
            product : (x y : ℕ) → pos x *ℤ pos y ≡ pos (y * x)
            product x y = omega (arith, ints)

    value_shown : (D q : ℕ) (z : ℤ) → AllByRecursion (IsScaled (length (columns range degree)) (length range) q D) (lines_of t) → 1 ≤ D
        → Solves (point z q D (length (columns range degree)) (lines_of t)) (opening number range degree)
        → at t.cost 0 *ℤ z ≡ constant_of t.cost *ℤ pos (q * D)
        → at t.cost 0 *ℤ total (term_of q range (λ i. pos 1)) (lines_of t) ≡ constant_of t.cost *ℤ pos q
    value_shown D q z known some back lead =
        let cs = columns range degree in
        let row = map cost_entry cs in
        let ls = lines_of t in
        let f : List ℤ × ℕ → ℤ = λ l. at row l.1 *ℤ pos (number_of q D l) in
        let g : List ℤ × ℕ → ℤ = term_of q range (λ i. pos 1) in
        let whole = sym (worth-point z q D (length cs) ls row (length-map cs cost_entry)) ∙ back.cost in
        let last = cost_constant in
        let sum = sum_is f g D ls (all-weaker (IsScaled (length cs) (length range) q D) (λ l. f l +ℤ (pos D *ℤ g l) ≡ pos 0)
        (λ l h. cost-term range degree q D l h) ls known) in
        let z_is : z ≡ pos D *ℤ total g ls = z_from z (constant_of row) (total f ls) (total g ls) D q whole last sum in
        int_cancel D (at t.cost 0 *ℤ total g ls) (constant_of t.cost *ℤ pos q) some
        (swapped (pos D) (at t.cost 0) (total g ls) ∙ ap (λ y. at t.cost 0 *ℤ y) (sym z_is) ∙ lead ∙ scale (constant_of t.cost) q D)
      where
        cost_constant : constant_of (map cost_entry (columns range degree)) ≡ pos 0
        cost_constant =
            let cs = columns range degree in
            let count = length-columns range degree in
            ap (λ n. at (map cost_entry cs) (n - 1)) (length-map cs cost_entry) ∙ cost-at range degree (length cs - 1) (omega arith)
            ∙ ap cost_entry (column-last range degree)

        sum_is : (f g : List ℤ × ℕ → ℤ) (D : ℕ) (ls : List (List ℤ × ℕ)) → AllByRecursion (λ l. f l +ℤ (pos D *ℤ g l) ≡ pos 0) ls
            → total f ls +ℤ (pos D *ℤ total g ls) ≡ pos 0
        sum_is f g D ls h =
            let all = total-none_all (λ l. f l +ℤ (pos D *ℤ g l)) ls h in
            let added = total-add f (λ l. pos D *ℤ g l) ls in
            let scaled_is = total-scale (pos D) g ls in
            omega (arith, ints)

        z_from : (z e a b : ℤ) (D q : ℕ) → (pos 1 *ℤ z) +ℤ ((e *ℤ neg_ℤ (pos (q * D))) +ℤ a) ≡ pos 0 → e ≡ pos 0 → a +ℤ (pos D *ℤ b) ≡ pos 0 → z ≡ pos D *ℤ b
        z_from z e a b D q whole last sum =
            let none = ap (λ y. y *ℤ neg_ℤ (pos (q * D))) last in
            omega (arith, ints)

        swapped : (x y w : ℤ) → x *ℤ (y *ℤ w) ≡ y *ℤ (x *ℤ w)
        swapped x y w = sym (int_mul_assoc x y w) ∙ ap (λ p. p *ℤ w) (int_mul_comm x y) ∙ int_mul_assoc y x w

        scale : (k : ℤ) (q D : ℕ) → k *ℤ pos (q * D) ≡ pos D *ℤ (k *ℤ pos q)
        scale k q D =
            ap (λ y. k *ℤ y) (product q D) ∙ sym (int_mul_assoc k (pos D) (pos q)) ∙ ap (λ y. y *ℤ pos q) (int_mul_comm k (pos D)) ∙ int_mul_assoc (pos D) k (pos q)
          where
            product : (x y : ℕ) → pos (x * y) ≡ pos y *ℤ pos x
            product x y = omega (arith, ints)
