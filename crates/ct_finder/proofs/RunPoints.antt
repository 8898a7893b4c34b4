-- The point that a run's last tableau gives: it solves the tableau, and so the opening rows.
use Rattle.ct_finder.specs.Inside.Numbers.{basic_constant}
use Rattle.std.proofs.Common.{◌≡◌, ◌≢◌, ℕ, zero, suc, ◌+◌, ◌-◌, ◌*◌, ◌/◌, ◌<◌, ◌≤◌, List, [], ◌∷◌, map, length, get_or, refl, sym, ap, ap₂, ◌∙◌, arith, subst}
use Rattle.std.specs.Prelude.{zip, ℤ, pos, neg_ℤ, ◌+ℤ◌, ◌*ℤ◌, ◌≤ℤ◌}
use Rattle.std.specs.List.{AllByRecursion}
use Rattle.std.specs.Int.{◌∣◌}
use Rattle.std.proofs.Math.Nat.{mul-div_cancel'}
use Rattle.std.proofs.lemmas.Int.{ints}
use Rattle.std.proofs.lemmas.List.Elements.{All-from_get_or, recursion_from_All}
use Rattle.std.proofs.lemmas.Slice.Zip.{length-zip, get_or-zip}
use Rattle.ct_words.specs.Counting.Sums.{total}
use Rattle.ct_words.proofs.Counting.Totals.{total-map}
use Rattle.ct_words.proofs.Counting.Products.{int_mul_neg}
use Rattle.ct_duals.proofs.Allowed.{natural-is}
use Rattle.ct_finder.specs.Column.{Tableau}
use Rattle.ct_finder.specs.Pivot.{at, constant_of}
use Rattle.ct_finder.specs.Sum.{HasWidth}
use Rattle.ct_finder.specs.Basic.{worth, row_at, basic_at, AreBasic}
use Rattle.ct_finder.specs.RunPrimal.{basic_entry}
use Rattle.ct_finder.proofs.BasicPivots.{row-width}
use Rattle.ct_finder.proofs.RunPairs.{AreApart}

-- a sum of which all terms but one are 0, and one of which all are
pub total-none_at : {X : Type 0} (f : X → ℤ) (xs : List X) (d : X) → ((i : ℕ) → i < length xs → f (get_or xs i d) ≡ pos 0) → total f xs ≡ pos 0
total-none_at f [] d h = refl
total-none_at f (x ∷ xs) d h =
    let rest = total-none_at f xs d (λ i l. h (suc i) (omega arith)) in
    let first = h 0 (omega arith) in
    omega (arith, ints)

pub total-one_at : {X : Type 0} (f : X → ℤ) (xs : List X) (d : X) (j : ℕ) → j < length xs → ((i : ℕ) → i < length xs → i ≢ j → f (get_or xs i d) ≡ pos 0)
    → total f xs ≡ f (get_or xs j d)
total-one_at f [] d j l h = absurd (omega arith)
total-one_at f (x ∷ xs) d zero l h =
    let rest = total-none_at f xs d (λ i m. h (suc i) (omega arith) (λ e. absurd (omega arith))) in
    omega (arith, ints)
total-one_at f (x ∷ xs) d (suc j) l h =
    let rest = total-one_at f xs d j (omega arith) (λ i m other. h (suc i) (omega arith) (λ e. other (omega arith))) in
    let first = h 0 (omega arith) (λ e. absurd (omega arith)) in
    omega (arith, ints)

-- what is known of a row with its basic column
pub record IsLine (width : ℕ) (l : List ℤ × ℕ) : Type 0 where
  pub first : 1 ≤ l.1
  pub last : l.1 + 1 < width
  pub some : 1 ≤ basic_entry l
  pub entry_is : at l.0 l.1 ≡ pos (basic_entry l)
  pub constant_is : constant_of l.0 ≡ pos (basic_constant l)

-- the rows with their basic columns
abbrev pub lines_of : Tableau → List (List ℤ × ℕ)
lines_of t = zip t.rows t.basics

pub line-at : (t : Tableau) (k : ℕ) → length t.basics ≡ length t.rows → k < length t.rows → get_or (lines_of t) k ([], 0) ≡ (row_at t k, basic_at t k)
line-at t k count within = get_or-zip t.rows t.basics k ([], 0) within (omega arith)

pub lines-count : (t : Tableau) → length t.basics ≡ length t.rows → length (lines_of t) ≡ length t.rows
lines-count t count = let both = length-zip t.rows t.basics in omega arith

pub lines-are : (width : ℕ) (t : Tableau) → AreBasic width t → AllByRecursion (IsLine width) (lines_of t)
lines-are width t basic =
    let count = lines-count t basic.count in
    recursion_from_All (IsLine width) (lines_of t) (All-from_get_or (IsLine width) (lines_of t) ([], 0)
    (λ k l. subst (IsLine width) (sym (line-at t k basic.count (omega arith))) (line k (omega arith))))
  where
    some_of : (z : ℤ) (n : ℕ) → z ≡ pos n → pos 1 ≤ℤ z → 1 ≤ n
    some_of z n is h = omega (arith, ints)

    line : (k : ℕ) → k < length t.rows → IsLine width (row_at t k, basic_at t k)
    line k l =
        let own = basic.own k l in
        let is = natural-is (at (row_at t k) (basic_at t k)) (omega (arith, ints)) in
        record {
          first = (basic.choices k l).0;
          last = (basic.choices k l).1;
          some = some_of (at (row_at t k) (basic_at t k)) (basic_entry (row_at t k, basic_at t k)) is own;
          entry_is = is;
          constant_is = natural-is (constant_of (row_at t k)) (basic.constants k l);
        }

-- no two have the same basic column
apart-from : (ls : List (List ℤ × ℕ)) → ((i j : ℕ) → i < j → j < length ls → (get_or ls j ([], 0)).1 ≢ (get_or ls i ([], 0)).1) → AreApart ls
apart-from [] h = tt
apart-from (l ∷ ls) h = (
  recursion_from_All (λ m. m.1 ≢ l.1) ls (All-from_get_or (λ m. m.1 ≢ l.1) ls ([], 0) (λ k less. h 0 (suc k) (omega arith) (omega arith))),
  apart-from ls (λ i j less within. h (suc i) (suc j) (omega arith) (omega arith)),
)

pub lines-apart : (width : ℕ) (t : Tableau) → AreBasic width t → AreApart (lines_of t)
lines-apart width t basic =
    let count = lines-count t basic.count in
    apart-from (lines_of t) (λ i j less within same.
    let i_is = ap (λ l. l.1) (line-at t i basic.count (omega arith)) in
    let j_is = ap (λ l. l.1) (line-at t j basic.count (omega arith)) in
    let both : basic_at t j ≡ basic_at t i = sym j_is ∙ same ∙ i_is in
    let none = basic.others i j (omega arith) (omega arith) (λ e. absurd (omega arith)) in
    let some = basic.own i (omega arith) in
    let moved = ap (λ b. at (row_at t i) b) both in
    absurd (omega (arith, ints)))

-- the numbers of the point: κ · q · (D/β) at the basic column of each row, -qD at the constants, and z at the first column
abbrev pub number_of : ℕ → ℕ → List ℤ × ℕ → ℕ
number_of q D l = basic_constant l * (q * (D / basic_entry l))

abbrev pub point : ℤ → ℕ → ℕ → ℕ → List (List ℤ × ℕ) → List (ℕ × ℤ)
point z q D width ls = (0, z) ∷ (width - 1, neg_ℤ (pos (q * D))) ∷ map (λ l. (l.1, pos (number_of q D l))) ls

-- what a row gives for it
pub worth-point : (z : ℤ) (q D width : ℕ) (ls : List (List ℤ × ℕ)) (row : List ℤ) → length row ≡ width
    → worth (point z q D width ls) row
    ≡ (at row 0 *ℤ z) +ℤ ((constant_of row *ℤ neg_ℤ (pos (q * D))) +ℤ total (λ l. at row l.1 *ℤ pos (number_of q D l)) ls)
worth-point z q D width ls row is =
    ap₂ (λ (n : ℕ) (s : ℤ). (at row 0 *ℤ z) +ℤ ((at row (n - 1) *ℤ neg_ℤ (pos (q * D))) +ℤ s)) (sym is)
    (total-map (λ (u : ℕ × ℤ). at row u.0 *ℤ u.1) (λ l. (l.1, pos (number_of q D l))) ls)

-- a row of the tableau gives 0
balanced : (k q b d D : ℕ) → b * d ≡ D → (pos k *ℤ neg_ℤ (pos (q * D))) +ℤ (pos b *ℤ pos (k * (q * d))) ≡ pos 0
balanced k q b d D whole =
    let first = int_mul_neg (pos k) (pos (q * D)) in
    let again = ap (λ m. k * (q * m)) whole in
    let second : b * (k * (q * d)) ≡ k * (q * (b * d)) = omega arith in
    omega (arith, ints)

pub point-row : (z : ℤ) (q D width k : ℕ) (t : Tableau) → HasWidth width t → AreBasic width t → k < length t.rows → at (row_at t k) 0 ≡ pos 0
    → basic_entry (row_at t k, basic_at t k) ∣ D → worth (point z q D width (lines_of t)) (row_at t k) ≡ pos 0
point-row z q D width k t has basic within none divides =
    let row = row_at t k in
    let ls = lines_of t in
    let count = lines-count t basic.count in
    let f : List ℤ × ℕ → ℤ = λ l. at row l.1 *ℤ pos (number_of q D l) in
    let own : List ℤ × ℕ = (row, basic_at t k) in
    let others : (i : ℕ) → i < length ls → i ≢ k → f (get_or ls i ([], 0)) ≡ pos 0 = λ i l other.
    ap f (line-at t i basic.count (omega arith))
    ∙ gone (at row (basic_at t i)) (number_of q D (row_at t i, basic_at t i)) (basic.others k i within (omega arith) (λ e. other (sym e))) in
    let sum : total f ls ≡ f own = total-one_at f ls ([], 0) k (omega arith) others ∙ ap f (line-at t k basic.count within) in
    let entry = natural-is (at row (basic_at t k)) (let some = basic.own k within in omega (arith, ints)) in
    let constant = natural-is (constant_of row) (basic.constants k within) in
    let b = basic_entry own in
    let d = D / b in
    let even = balanced (basic_constant own) q b d D (mul-div_cancel' b divides) in
    let first = ap (λ x. x *ℤ z) none in
    let second = ap (λ x. x *ℤ neg_ℤ (pos (q * D))) constant in
    let third = ap (λ x. x *ℤ pos (number_of q D own)) entry in
    worth-point z q D width ls row (row-width width k t has within) ∙ omega (arith, ints, sum, even, first, second, third)
  where
    gone : (x : ℤ) (n : ℕ) → x ≡ pos 0 → x *ℤ pos n ≡ pos 0
    gone x n e = let h = ap (λ y. y *ℤ pos n) e in omega (arith, ints)

-- and so does the cost row, where z times its first entry is qD times its constant
pub point-cost : (z : ℤ) (q D width : ℕ) (t : Tableau) → HasWidth width t → AreBasic width t
    → at t.cost 0 *ℤ z ≡ constant_of t.cost *ℤ pos (q * D) → worth (point z q D width (lines_of t)) t.cost ≡ pos 0
point-cost z q D width t has basic lead =
    let ls = lines_of t in
    let count = lines-count t basic.count in
    let f : List ℤ × ℕ → ℤ = λ l. at t.cost l.1 *ℤ pos (number_of q D l) in
    let sum : total f ls ≡ pos 0 = total-none_at f ls ([], 0) (λ i l.
    ap f (line-at t i basic.count (omega arith)) ∙ gone (at t.cost (basic_at t i)) (number_of q D (row_at t i, basic_at t i)) (basic.cost i (omega arith))) in
    let minus = int_mul_neg (constant_of t.cost) (pos (q * D)) in
    worth-point z q D width ls t.cost has.cost ∙ omega (arith, ints, sum, minus, lead)
  where
    gone : (x : ℤ) (n : ℕ) → x ≡ pos 0 → x *ℤ pos n ≡ pos 0
    gone x n e = let h = ap (λ y. y *ℤ pos n) e in omega (arith, ints)
