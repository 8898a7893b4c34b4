-- The primal of a tableau, read row by row.
use Rattle.ct_finder.specs.Inside.Numbers.{numbers_of_range, is_of_a}
use Rattle.std.proofs.Common.{◌≡◌, ℕ, zero, suc, ◌+◌, ◌-◌, ◌*◌, ◌/◌, ◌<◌, ◌≤◌, ◌^◌, ◌==◌, Bool, true, false, ◌&&◌, cond, nat_le, List, [], ◌∷◌, ◌++◌, map, length, get_or, take, refl, sym, ap, ap₂, ◌∙◌, arith, subst, eqb-true, mul-le-mul_right}
use Rattle.std.specs.Prelude.{All, filter, find, zip, ℤ, pos, ◌<ℤ◌, int_lt, Option, Some, None, option_map, fold}
use Rattle.std.specs.List.{AllByRecursion, range_with_len}
use Rattle.std.proofs.lemmas.Bool.{false≢true, le-leb}
use Rattle.std.proofs.lemmas.Int.{ints}
use Rattle.std.proofs.Math.Nat.{div-mul_cancel}
use Rattle.std.proofs.lemmas.List.{length-map, get_or-map, take_more, take_all}
use Rattle.std.proofs.lemmas.List.FromFn.{length-range_with_len, get_or-range_with_len}
use Rattle.std.proofs.lemmas.Option.{none-some}
use Rattle.std.proofs.lemmas.Slice.Zip.{length-zip, get_or-zip}
use Rattle.ct_finder.specs.Basic.{row_at, basic_at}
use Rattle.ct_finder.proofs.Divisors.{gcd-is}
use Rattle.ct_finder.proofs.RunPoints.{lines_of, line-at}
use Rattle.ct_finder.specs.declared.reading.Line.{Line}
use Rattle.std.proofs.lemmas.List.Elements.{All-filter, All-from_recursion, filter-append}
use Rattle.ct_words.specs.declared.entry.Entry.{Entry}
use Rattle.ct_words.specs.Pairs.{first_of}
use Rattle.ct_duals.specs.Bound.{natural}
use Rattle.ct_finder.specs.Column.{Tableau}
use Rattle.ct_finder.specs.Divisor.{gcd}
use Rattle.ct_finder.specs.Pivot.{at, constant_of, is_wide}
use Rattle.ct_finder.specs.RunPrimal.{lines_of_a, next_scale, scales, scaled, run_scale, wide_number, number_at_place, run_primal}
use Rattle.ct_finder.specs.declared.reading.Reading.TheVariants.{Primal, Wide}
use Rattle.ct_finder.specs.Reading.{is_large, large, large_scale, large_number, line_of, scale_after, large_after, reading_at, reading_of}

-- the first that passes in one list after another
find-append : {X : Type 0} (p : X → Bool) (xs ys : List X) → find p (xs ++ ys) ≡ first_of (find p xs) (find p ys)
find-append p [] ys = refl
find-append {X} p (x ∷ xs) ys = go (p x) (find-append p xs ys)
  where
    go : (b : Bool) → find p (xs ++ ys) ≡ first_of (find p xs) (find p ys) → cond b (Some x) (find p (xs ++ ys)) ≡ first_of (cond b (Some x) (find p xs)) (find p ys)
    go true ih = refl
    go false ih = ih

find-map : (xs : List ℕ) → find is_wide (map pos xs) ≡ option_map pos (find is_large xs)
find-map [] = refl
find-map (x ∷ xs) = go (is_large x) (find-map xs)
  where
    go : (b : Bool) → find is_wide (map pos xs) ≡ option_map pos (find is_large xs)
        → cond b (Some (pos x)) (find is_wide (map pos xs)) ≡ option_map pos (cond b (Some x) (find is_large xs))
    go true ih = refl
    go false ih = ih

-- the numbers that are made, scales first
wide-parts : (range : List ℕ) (t : Tableau)
    → wide_number (length range) t ≡ option_map pos (first_of (large_scale (length range) t) (large_number (run_scale (length range) t) (length range) t))
wide-parts range t =
    let ls = lines_of_a (length range) t in
    let q = run_scale (length range) t in
    find-map (scales 1 ls ++ map (scaled q) ls) ∙ ap (option_map pos) (find-append is_large (scales 1 ls) (map (scaled q) ls))

pub reading-scale : (e : Entry) (even : Bool) (range : List ℕ) (t : Tableau) (x : ℕ) → Some x ≡ large_scale (length range) t → Wide (pos x) ≡ reading_of e even range t
reading-scale e even range t x is =
    ap (λ o. reading_at o (run_primal e even range t))
    (sym (wide-parts range t ∙ ap (λ o. option_map pos (first_of o (large_number (run_scale (length range) t) (length range) t))) (sym is)))

pub reading-number : (e : Entry) (even : Bool) (range : List ℕ) (t : Tableau) (q x : ℕ) → None ≡ large_scale (length range) t → q ≡ run_scale (length range) t
    → Some x ≡ large_number q (length range) t → Wide (pos x) ≡ reading_of e even range t
reading-number e even range t q x none q_is is =
    ap (λ o. reading_at o (run_primal e even range t))
    (sym (wide-parts range t ∙ ap₂ (λ o p. option_map pos (first_of o p)) (sym none) (sym (is ∙ ap (λ s. large_number s (length range) t) q_is))))

pub reading-primal : (e : Entry) (even : Bool) (range : List ℕ) (t : Tableau) (q : ℕ) (a : List (ℕ × ℤ)) → None ≡ large_scale (length range) t
    → q ≡ run_scale (length range) t → None ≡ large_number q (length range) t → a ≡ filter (λ u. int_lt (pos 0) u.1) (numbers_of_range range t)
    → Primal (record { entry = e; even = even; q = pos q; a = a }) ≡ reading_of e even range t
reading-primal e even range t q a none q_is fits a_is =
    ap₂ (λ (s : ℕ) (us : List (ℕ × ℤ)). Primal (record { entry = e; even = even; q = pos s; a = us })) q_is a_is
    ∙ ap (λ o. reading_at o (run_primal e even range t))
    (sym (wide-parts range t ∙ ap₂ (λ o p. option_map pos (first_of o p)) (sym none) (sym (fits ∙ ap (λ s. large_number s (length range) t) q_is))))

-- one row more: the scale goes on, or it is too large
abbrev pub of_a : ℕ → List (List ℤ × ℕ) → List (List ℤ × ℕ)
of_a count ls = filter (is_of_a count) ls

pub scale-goes_on : (count q : ℕ) (l : List ℤ × ℕ) (ls : List (List ℤ × ℕ)) → None ≡ large (scale_after q (line_of l) count) → is_large q ≡ false
    → (fold next_scale (scale_after q (line_of l) count) (of_a count ls) ≡ fold next_scale q (of_a count (l ∷ ls)))
    × (find is_large (scales (scale_after q (line_of l) count) (of_a count ls)) ≡ find is_large (scales q (of_a count (l ∷ ls))))
scale-goes_on count q l ls none narrow = go (is_of_a count l) none
  where
    next : ℕ
    next = next_scale q l

    rest : List (List ℤ × ℕ)
    rest = of_a count ls

    wide : (w : Bool) → is_large next ≡ w → None ≡ cond w (Some next) None
        → find is_large (scales next rest) ≡ cond w (Some next) (find is_large (scales next rest))
    wide true is h = absurd cc
    wide false is h = refl

    go : (b : Bool) → None ≡ large (cond b next q)
        → (fold next_scale (cond b next q) rest ≡ fold next_scale q (cond b (l ∷ rest) rest))
        × (find is_large (scales (cond b next q) rest) ≡ find is_large (scales q (cond b (l ∷ rest) rest)))
    go true h = (refl, wide (is_large next) refl h)
    go false h = (refl, refl)

pub scale-stops : (count q : ℕ) (l : List ℤ × ℕ) (ls : List (List ℤ × ℕ)) (x : ℕ) → Some x ≡ large (scale_after q (line_of l) count) → is_large q ≡ false
    → Some x ≡ find is_large (scales q (of_a count (l ∷ ls)))
scale-stops count q l ls x some narrow = go (is_of_a count l) some
  where
    next : ℕ
    next = next_scale q l

    rest : List (List ℤ × ℕ)
    rest = of_a count ls

    wide : (w : Bool) → Some x ≡ cond w (Some next) None → Some x ≡ cond w (Some next) (find is_large (scales next rest))
    wide true h = h
    wide false h = absurd cc

    none : Some x ≡ large q → ⊥
    none h = absurd (let e = h ∙ ap (λ (w : Bool). cond w (Some q) None) narrow in cc)

    go : (b : Bool) → Some x ≡ large (cond b next q) → Some x ≡ find is_large (scales q (cond b (l ∷ rest) rest))
    go true h = wide (is_large next) h
    go false h = absurd (none h)

-- and its number
pub number-goes_on : (count q : ℕ) (l : List ℤ × ℕ) (ls : List (List ℤ × ℕ)) → None ≡ large_after q (line_of l) count
    → find is_large (map (scaled q) (of_a count ls)) ≡ find is_large (map (scaled q) (of_a count (l ∷ ls)))
number-goes_on count q l ls none = go (is_of_a count l) none
  where
    rest : List (List ℤ × ℕ)
    rest = of_a count ls

    wide : (w : Bool) → None ≡ cond w (Some (scaled q l)) None
        → find is_large (map (scaled q) rest) ≡ cond w (Some (scaled q l)) (find is_large (map (scaled q) rest))
    wide true h = absurd cc
    wide false h = refl

    go : (b : Bool) → None ≡ cond b (large (scaled q l)) None
        → find is_large (map (scaled q) rest) ≡ find is_large (map (scaled q) (cond b (l ∷ rest) rest))
    go true h = wide (is_large (scaled q l)) h
    go false h = refl

pub number-stops : (count q : ℕ) (l : List ℤ × ℕ) (ls : List (List ℤ × ℕ)) (x : ℕ) → Some x ≡ large_after q (line_of l) count
    → Some x ≡ find is_large (map (scaled q) (of_a count (l ∷ ls)))
number-stops count q l ls x some = go (is_of_a count l) some
  where
    rest : List (List ℤ × ℕ)
    rest = of_a count ls

    wide : (w : Bool) → Some x ≡ cond w (Some (scaled q l)) None → Some x ≡ cond w (Some (scaled q l)) (find is_large (map (scaled q) rest))
    wide true h = h
    wide false h = absurd cc

    go : (b : Bool) → Some x ≡ cond b (large (scaled q l)) None → Some x ≡ find is_large (map (scaled q) (cond b (l ∷ rest) rest))
    go true h = wide (is_large (scaled q l)) h
    go false h = absurd cc

-- where no number of a row is too large, none at the place of an a is
pub number-narrow : (count q : ℕ) (ls : List (List ℤ × ℕ)) → find is_large (map (scaled q) (of_a count ls)) ≡ None → (place : ℕ) → 1 ≤ place → place ≤ count
    → is_large (number_at_place q ls place) ≡ false
number-narrow count q [] none place low high = refl
number-narrow count q (l ∷ ls) none place low high = go (l.1 == place) refl (is_of_a count l) refl none (λ h. number-narrow count q ls h place low high)
  where
    rest : List (List ℤ × ℕ)
    rest = of_a count ls

    is_narrow : (w : Bool) → is_large (scaled q l) ≡ w → cond w (Some (scaled q l)) (find is_large (map (scaled q) rest)) ≡ None
        → (is_large (scaled q l) ≡ false) × (find is_large (map (scaled q) rest) ≡ None)
    is_narrow true is h = absurd (none-some (scaled q l) (sym h))
    is_narrow false is h = (is, h)

    go : (s : Bool) → (l.1 == place) ≡ s → (b : Bool) → is_of_a count l ≡ b → find is_large (map (scaled q) (cond b (l ∷ rest) rest)) ≡ None
        → (find is_large (map (scaled q) rest) ≡ None → is_large (number_at_place q ls place) ≡ false)
        → is_large (cond s (scaled q l) (number_at_place q ls place)) ≡ false
    go true same true of h ih = (is_narrow (is_large (scaled q l)) refl h).0
    go true same false of h ih =
        let here : is_of_a count l ≡ true =
        subst (λ p. (nat_le 1 p && nat_le p count) ≡ true) (sym (eqb-true l.1 place same))
        (ap₂ (λ a b. a && b) (le-leb 1 place low) (le-leb place count high)) in
        absurd (false≢true (sym of ∙ here))
    go false other true of h ih = ih (is_narrow (is_large (scaled q l)) refl h).1
    go false other false of h ih = ih h

-- where no number is too large, the scale and the numbers of the primal are below 2^63
no-first : (o p : Option ℕ) → option_map pos (first_of o p) ≡ None → (o ≡ None) × (p ≡ None)
no-first None None h = (refl, refl)
no-first None (Some x) h = absurd cc
no-first (Some x) p h = absurd cc

parts-none : (range : List ℕ) (t : Tableau) → wide_number (length range) t ≡ None
    → (large_scale (length range) t ≡ None) × (large_number (run_scale (length range) t) (length range) t ≡ None)
parts-none range t none =
    no-first (large_scale (length range) t) (large_number (run_scale (length range) t) (length range) t) (sym (wide-parts range t) ∙ none)

last-narrow : (q : ℕ) (ls : List (List ℤ × ℕ)) → is_large q ≡ false → find is_large (scales q ls) ≡ None → is_large (fold next_scale q ls) ≡ false
last-narrow q [] narrow none = narrow
last-narrow q (l ∷ ls) narrow none = go (is_large (next_scale q l)) refl none (λ h k. last-narrow (next_scale q l) ls h k)
  where
    go : (b : Bool) → is_large (next_scale q l) ≡ b → cond b (Some (next_scale q l)) (find is_large (scales (next_scale q l) ls)) ≡ None
        → (is_large (next_scale q l) ≡ false → find is_large (scales (next_scale q l) ls) ≡ None → is_large (fold next_scale (next_scale q l) ls) ≡ false)
        → is_large (fold next_scale (next_scale q l) ls) ≡ false
    go true is h rest = absurd cc
    go false is h rest = rest is h

below-from_narrow : (n : ℕ) → is_large n ≡ false → pos n <ℤ pos (2 ^ 63)
below-from_narrow n h = grind (arith, ints)

pub scale-fits : (range : List ℕ) (t : Tableau) → wide_number (length range) t ≡ None → pos (run_scale (length range) t) <ℤ pos (2 ^ 63)
scale-fits range t none =
    below-from_narrow (run_scale (length range) t) (last-narrow 1 (lines_of_a (length range) t) refl (parts-none range t none).0)

made-fit : (f : ℕ → ℕ) (count : ℕ) → ((place : ℕ) → 1 ≤ place → place ≤ count → is_large (f place) ≡ false) → (range : List ℕ) (a : ℕ) → 1 ≤ a → a + length range ≤ count + 1
    → AllByRecursion (λ (u : ℕ × ℤ). u.1 <ℤ pos (2 ^ 63)) (map (λ v. (v.0, pos (f v.1))) (zip range (range_with_len a (length range))))
made-fit f count narrow [] a low high = tt
made-fit f count narrow (i ∷ range) a low high =
    (below-from_narrow (f a) (narrow a low (omega arith)), made-fit f count narrow range (a + 1) (omega arith) (omega arith))

pub numbers-fit : (range : List ℕ) (t : Tableau) → wide_number (length range) t ≡ None
    → All (λ (u : ℕ × ℤ). u.1 <ℤ pos (2 ^ 63)) (filter (λ u. int_lt (pos 0) u.1) (numbers_of_range range t))
numbers-fit range t none =
    let q = run_scale (length range) t in
    let ls = zip t.rows t.basics in
    let Below : ℕ × ℤ → Type 0 = λ (u : ℕ × ℤ). u.1 <ℤ pos (2 ^ 63) in
    All-filter (λ u. int_lt (pos 0) u.1) Below (numbers_of_range range t)
    (All-from_recursion Below (numbers_of_range range t)
    (made-fit (number_at_place q ls) (length range)
    (λ place low high. number-narrow (length range) q ls (parts-none range t none).1 place low high) range 1 (omega arith) (omega arith)))

-- the greatest common divisor with a number of at least 1
pub gcd-some : (a b : ℕ) → 1 ≤ a → 1 ≤ gcd a b
gcd-some a b some = go (gcd a b) (div-mul_cancel (gcd a b) (gcd-is a b).0)
  where
    go : (g : ℕ) → a / g * g ≡ a → 1 ≤ g
    go zero whole = absurd (omega arith)
    go (suc g) whole = omega arith

-- a row with its basic column as the code reads it
pub line-read : (t : Tableau) (i : ℕ) → length t.basics ≡ length t.rows → i < length t.rows → {place entry constant : ℕ} → place ≡ basic_at t i
    → entry ≡ natural (at (row_at t i) (basic_at t i)) → constant ≡ natural (constant_of (row_at t i))
    → ◌≡◌ {A = Line} (record { place = place; entry = entry; constant = constant }) (line_of (get_or (lines_of t) i ([], 0)))
line-read t i count within place_is entry_is constant_is =
    (λ j. record { place = place_is j; entry = entry_is j; constant = constant_is j }) ∙ ap line_of (sym (line-at t i count within))

-- the number at the place of an index
pub number-below : (range : List ℕ) (t : Tableau) (q j number : ℕ) → j < length range → large_number q (length range) t ≡ None
    → number ≡ number_at_place q (lines_of t) (j + 1) → number < 2 ^ 63
number-below range t q j number within none is =
    below number (ap is_large is ∙ number-narrow (length range) q (lines_of t) none (j + 1) (omega arith) (omega arith))
  where
    below : (n : ℕ) → is_large n ≡ false → n < 2 ^ 63
    below n h = grind (arith, ints)

pairs-count : (range : List ℕ) (t : Tableau) → length (numbers_of_range range t) ≡ length range
pairs-count range t =
    let placed = zip range (range_with_len 1 (length range)) in
    let both = length-zip range (range_with_len 1 (length range)) in
    let places = length-range_with_len 1 (length range) in
    length-map placed (λ v. (v.0, pos (number_at_place (run_scale (length range) t) (lines_of t) v.1))) ∙ omega arith

-- one index more
pub pairs-more : (range : List ℕ) (t : Tableau) (q j number : ℕ) → j < length range → q ≡ run_scale (length range) t → number ≡ number_at_place q (lines_of t) (j + 1)
    → filter (λ u. int_lt (pos 0) u.1) (take j (numbers_of_range range t)) ++ filter (λ u. int_lt (pos 0) u.1) ((get_or range j 0, pos number) ∷ [])
    ≡ filter (λ u. int_lt (pos 0) u.1) (take (j + 1) (numbers_of_range range t))
pairs-more range t q j number within q_is is =
    let p : ℕ × ℤ → Bool = λ u. int_lt (pos 0) u.1 in
    let placed = zip range (range_with_len 1 (length range)) in
    let made : ℕ × ℕ → ℕ × ℤ = λ v. (v.0, pos (number_at_place (run_scale (length range) t) (lines_of t) v.1)) in
    let nums = numbers_of_range range t in
    let count = pairs-count range t in
    let places = length-range_with_len 1 (length range) in
    let both = length-zip range (range_with_len 1 (length range)) in
    let at_j = get_or-zip range (range_with_len 1 (length range)) j (0, 0) within (omega arith) in
    let place : get_or (range_with_len 1 (length range)) j 0 ≡ j + 1 = get_or-range_with_len 1 (length range) j 0 within ∙ omega arith in
    let number_is : number ≡ number_at_place (run_scale (length range) t) (lines_of t) (j + 1) = is ∙ ap (λ s. number_at_place s (lines_of t) (j + 1)) q_is in
    let here : get_or nums j (0, pos 0) ≡ (get_or range j 0, pos number) =
    get_or-map made placed j (0, 0) (0, pos 0) (omega arith) ∙ ap made at_j
    ∙ ap (λ m. (get_or range j 0, pos (number_at_place (run_scale (length range) t) (lines_of t) m))) place ∙ ap (λ m. (get_or range j 0, pos m)) (sym number_is) in
    sym (ap (filter p) (take_more nums j (0, pos 0) (omega arith)) ∙ filter-append p (take j nums) (get_or nums j (0, pos 0) ∷ []) ∙ ap (λ u. filter p (take j nums) ++ filter p (u ∷ [])) here)

pub pairs-all : (range : List ℕ) (t : Tableau) (j : ℕ) → length range ≤ j
    → filter (λ u. int_lt (pos 0) u.1) (take j (numbers_of_range range t)) ≡ filter (λ u. int_lt (pos 0) u.1) (numbers_of_range range t)
pairs-all range t j all =
    let count = pairs-count range t in
    ap (filter (λ (u : ℕ × ℤ). int_lt (pos 0) u.1)) (take_all j (numbers_of_range range t) (omega arith))

-- a product of numbers below 2^63
pub product_small : (a b c : ℕ) → a ≤ c → c < 2 ^ 63 → b < 2 ^ 63 → a * b < 2 ^ 126
product_small a b c least small other =
    let first : a ≤ 2 ^ 63 - 1 = omega arith in
    let whole = mul-le-mul_right {m = a} {n = 2 ^ 63 - 1} b first in
    omega (arith, whole, other)
