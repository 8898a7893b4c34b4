-- Places of a word: some, and the others.
use Rattle.std.proofs.Common.{◌≡◌, ◌≢◌, ℕ, zero, suc, ◌+◌, ◌-◌, ◌<◌, ◌≤◌, List, [], ◌∷◌, ◌++◌, length, take, get_or, All, refl, sym, ap, ap₂, subst, ◌∙◌, arith, eq-eqb, ne_eqb, length-take}
use Rattle.std.specs.Prelude.{Bool, true, false, cond, not, ◌==◌, ◌||◌, filter}
use Rattle.std.specs.List.{sum_by}
use Rattle.std.proofs.Math.Bool.{or-false}
use Rattle.std.proofs.lemmas.Bool.{or_left, or_right}
use Rattle.std.proofs.lemmas.List.{take_more, take_all, get_or-take}
use Rattle.std.proofs.lemmas.List.Elements.{All-from_get_or, All-cons, All-head, All-tail, filter-append}
use Rattle.std.proofs.lemmas.List.Folds.{list_any-append, list_any_none}
use Rattle.std.proofs.lemmas.List.Kept.{AllPairs-from_increasing}
use Rattle.std.proofs.lemmas.List.Sums.{sum_by-cons, sum_by-append}
use Rattle.ct_words.proofs.Counting.Sums.{sum_by-constant}
use Rattle.ct_words.specs.Text.{tabulate}
use Rattle.ct_words.specs.PairProducts.{all_places}
use Rattle.ct_words.proofs.TextLemmas.{tabulate_same, length-tabulate, get_or-tabulate}
use Rattle.ct_words.specs.Constructions.Places.{ArePlaces, is_among, other_places}

-- a list f 0, .., f (p + m) at its item f p
tabulate-split : (f : ℕ → ℕ) (p m : ℕ) → tabulate f (p + suc m) ≡ tabulate f p ++ f p ∷ tabulate (λ i. f (suc (p + i))) m
tabulate-split f zero m =
    let size : 0 + suc m ≡ suc m = omega arith in
    ap (tabulate f) size
    ∙ ap (λ (xs : List ℕ). f 0 ∷ xs)
    (tabulate_same (λ i. f (suc i)) (λ i. f (suc (0 + i))) m (λ i h. let place : suc i ≡ suc (0 + i) = omega arith in ap f place))
tabulate-split f (suc p) m =
    let size : suc p + suc m ≡ suc (p + suc m) = omega arith in
    ap (tabulate f) size
    ∙ ap (λ (xs : List ℕ). f 0 ∷ xs) (tabulate-split (λ i. f (suc i)) p m)
    ∙ ap (λ (xs : List ℕ). (f 0 ∷ tabulate (λ i. f (suc i)) p) ++ f (suc p) ∷ xs)
    (tabulate_same (λ i. f (suc (suc (p + i)))) (λ i. f (suc (suc p + i))) m
    (λ i h. let place : suc (suc (p + i)) ≡ suc (suc p + i) = omega arith in ap f place))

-- what holds of each f i holds of the list
All-tabulate : (P : ℕ → Type 0) (f : ℕ → ℕ) (n : ℕ) → ((i : ℕ) → i < n → P (f i)) → All P (tabulate f n)
All-tabulate P f n each = All-from_get_or P (tabulate f n) 0 (λ i l.
    let long = length-tabulate f n in
    let within : i < n = omega arith in
    subst P (sym (get_or-tabulate f n i within)) (each i within))

-- two tests that agree on a list keep the same of it
filter-same : (f g : ℕ → Bool) (xs : List ℕ) → All (λ x. f x ≡ g x) xs → filter f xs ≡ filter g xs
filter-same f g [] same = refl
filter-same f g (x ∷ xs) same =
    ap₂ (λ (b : Bool) (ys : List ℕ). cond b (x ∷ ys) ys) (All-head (λ y. f y ≡ g y) x xs same)
    (filter-same f g xs (All-tail (λ y. f y ≡ g y) x xs same))

-- a test that all pass keeps the list
filter-whole : (f : ℕ → Bool) (xs : List ℕ) → All (λ x. f x ≡ true) xs → filter f xs ≡ xs
filter-whole f [] each = refl
filter-whole f (x ∷ xs) each =
    ap₂ (λ (b : Bool) (ys : List ℕ). cond b (x ∷ ys) ys) (All-head (λ y. f y ≡ true) x xs each)
    (filter-whole f xs (All-tail (λ y. f y ≡ true) x xs each))

-- the places of a word of length n after place p
abbrev pub later_places : ℕ → ℕ → List ℕ
later_places n p = tabulate (λ i. suc (p + i)) (n - 1 - p)

-- all places: those before a place, it, and those after it
all_places-split : (n p : ℕ) → p < n → all_places n ≡ all_places p ++ p ∷ later_places n p
all_places-split n p within =
    let size : n ≡ p + suc (n - 1 - p) = omega arith in
    ap all_places size ∙ tabulate-split (λ i. i) p (n - 1 - p)

-- a place above all of these is none of them
not_among : (qs : List ℕ) (p : ℕ) → All (λ q. q < p) qs → is_among qs p ≡ false
not_among qs p below = list_any_none (λ q. q == p) qs (λ k d l. ne_eqb (get_or qs k d) p (λ same. let less = below k d l in omega arith))

-- one more place, and another one
among-other : (qs : List ℕ) (p r : ℕ) → p ≢ r → is_among (qs ++ p ∷ []) r ≡ is_among qs r
among-other qs p r other =
    list_any-append (λ q. q == r) qs (p ∷ [])
    ∙ ap (λ b. is_among qs r || (b || false)) (ne_eqb p r other)
    ∙ or-false (is_among qs r)

among-same : (qs : List ℕ) (p : ℕ) → is_among (qs ++ p ∷ []) p ≡ true
among-same qs p =
    list_any-append (λ q. q == p) qs (p ∷ [])
    ∙ or_right (is_among qs p) ((p == p) || false) (or_left (p == p) false (eq-eqb p p refl))

-- the places before p that are none of these
abbrev pub earlier_places : List ℕ → ℕ → List ℕ
earlier_places qs p = filter (λ r. not (is_among qs r)) (all_places p)

-- the other places, where p is above all of these: some before p, it, and all after it
pub other_places-before : (n p : ℕ) (qs : List ℕ) → p < n → All (λ q. q < p) qs
    → other_places n qs ≡ earlier_places qs p ++ p ∷ later_places n p
other_places-before n p qs within below =
    let keeps : ℕ → Bool = λ r. not (is_among qs r) in
    ap (filter keeps) (all_places-split n p within)
    ∙ filter-append keeps (all_places p) (p ∷ later_places n p)
    ∙ ap (λ (xs : List ℕ). earlier_places qs p ++ xs)
    (filter-whole keeps (p ∷ later_places n p)
    (All-cons (λ r. keeps r ≡ true) p (later_places n p) (ap not (not_among qs p below))
    (All-tabulate (λ r. keeps r ≡ true) (λ i. suc (p + i)) (n - 1 - p)
    (λ i h. ap not (not_among qs (suc (p + i)) (λ k d l. let less = below k d l in omega arith))))))

-- and with p among them: the same without p
pub other_places-after : (n p : ℕ) (qs : List ℕ) → p < n → All (λ q. q < p) qs
    → other_places n (qs ++ p ∷ []) ≡ earlier_places qs p ++ later_places n p
other_places-after n p qs within below =
    let keeps : ℕ → Bool = λ r. not (is_among (qs ++ p ∷ []) r) in
    let kept : ℕ → Bool = λ r. not (is_among qs r) in
    let front : filter keeps (all_places p) ≡ earlier_places qs p =
    filter-same keeps kept (all_places p)
    (All-tabulate (λ r. keeps r ≡ kept r) (λ i. i) p (λ i h. ap not (among-other qs p i (λ same. omega arith)))) in
    let back : filter keeps (later_places n p) ≡ later_places n p =
    filter-whole keeps (later_places n p)
    (All-tabulate (λ r. keeps r ≡ true) (λ i. suc (p + i)) (n - 1 - p)
    (λ i h. ap not (among-other qs p (suc (p + i)) (λ same. omega arith)
    ∙ not_among qs (suc (p + i)) (λ k d l. let less = below k d l in omega arith)))) in
    ap (filter keeps) (all_places-split n p within)
    ∙ filter-append keeps (all_places p) (p ∷ later_places n p)
    ∙ ap₂ (λ (xs ys : List ℕ). xs ++ ys) front
    (ap (λ b. cond (not b) (p ∷ filter keeps (later_places n p)) (filter keeps (later_places n p))) (among-same qs p) ∙ back)

-- without any of them, all places are the others
pub other_places-none : (n : ℕ) → other_places n [] ≡ all_places n
other_places-none n = filter-whole (λ p. not (is_among [] p)) (all_places n) (λ k d l. refl)

-- the places before the i-th are below it
pub places-below : (n : ℕ) (places : List ℕ) (i : ℕ) → ArePlaces n places → i < length places → All (λ q. q < get_or places i 0) (take i places)
places-below n places i are within = All-from_get_or (λ q. q < get_or places i 0) (take i places) 0 (λ k l.
    let long = length-take i places in
    let before : k < i = omega arith in
    subst (λ q. q < get_or places i 0) (sym (get_or-take i places k 0 before))
    (AllPairs-from_increasing places are.ascending k i 0 before within))

-- one place more
pub take-next : (places : List ℕ) (i : ℕ) → i < length places → take (suc i) places ≡ take i places ++ get_or places i 0 ∷ []
take-next places i within = let next : suc i ≡ i + 1 = omega arith in ap (λ k. take k places) next ∙ take_more places i 0 within

-- a sum over all places is one over some and one over the others
pub sum_by-other_places : (f : ℕ → ℕ) (n : ℕ) (places : List ℕ) → ArePlaces n places
    → sum_by f (other_places n places) + sum_by f places ≡ sum_by f (all_places n)
sum_by-other_places f n places are =
    let whole = take_all (length places) places (omega arith) in
    ap (λ (qs : List ℕ). sum_by f (other_places n qs) + sum_by f qs) (sym whole) ∙ so_far (length places) (omega arith)
  where
    so_far : (i : ℕ) → i ≤ length places → sum_by f (other_places n (take i places)) + sum_by f (take i places) ≡ sum_by f (all_places n)
    so_far zero h = let none = ap (sum_by f) (other_places-none n) in omega arith
    so_far (suc i) h =
        let p = get_or places i 0 in
        let qs = take i places in
        let within : i < length places = omega arith in
        let below = places-below n places i are within in
        let p_within = are.within i 0 within in
        let before = ap (sum_by f) (other_places-before n p qs p_within below) ∙ sum_by-append f (earlier_places qs p) (p ∷ later_places n p) in
        let after = ap (sum_by f) (other_places-after n p qs p_within below) ∙ sum_by-append f (earlier_places qs p) (later_places n p) in
        let middle = sum_by-cons f p (later_places n p) in
        let one = sum_by-append f qs (p ∷ []) in
        let last = sum_by-cons f p [] in
        let ih = so_far i (omega arith) in
        ap (λ (rs : List ℕ). sum_by f (other_places n rs) + sum_by f rs) (take-next places i within) ∙ omega arith

-- so many others there are
pub length-other_places : (n : ℕ) (places : List ℕ) → ArePlaces n places → length (other_places n places) + length places ≡ n
length-other_places n places are =
    let split = sum_by-other_places (λ p. 1) n places are in
    let others = sum_by-constant 1 (other_places n places) in
    let these = sum_by-constant 1 places in
    let all = sum_by-constant 1 (all_places n) in
    let long = length-tabulate (λ i. i) n in
    omega arith
