-- What pivots leave of words: it adds up, so nothing is left of sums of basis words, and something of words that are light.
use Rattle.std.proofs.Common.{◌≡◌, ℕ, zero, suc, ◌+◌, ◌-◌, ◌*◌, ◌/◌, ◌%◌, ◌^◌, ◌<◌, ◌≤◌, ◌==◌, if◌then◌else◌, nat_lt, Bool, true, false, bit_xor, List, [], ◌∷◌, ◌++◌, length, get_or, slice_index, All, None, ◌⊎◌, subst, sym, refl, ap, ap₂, ◌∙◌, inl, inr, arith, pow-suc, pow_pos, length-append}
use Rattle.std.specs.Prelude.{◌≢◌}
use Rattle.std.specs.Int.{w32, bit_at, trailing_zeros}
use Rattle.std.specs.Int.Bits.{xor_assoc, xor_self, xor_zero_l, xor_zero_r}
use Rattle.std.proofs.lemmas.Bool.{cases_Bool, cases_lt, ltb-true}
use Rattle.std.proofs.lemmas.Nat.{xor_comm, xor_lt}
use Rattle.std.proofs.lemmas.Nat.Bits.{bit_at_xor, bit_at-lt, bit_at-trailing_zeros}
use Rattle.std.proofs.lemmas.List.Elements.{All-nil, All-cons, All-head, All-tail, All-append, All-weaker}
use Rattle.ct_words.specs.Word.{weight, distance}
use Rattle.ct_words.proofs.WordLemmas.{IsSum-bit_xor, distance-is_weight, weight-suc}
use Rattle.ct_codes.specs.declared.light.Pivot.{Pivot}
use Rattle.ct_words.specs.Coset.{span_word, coset_list}
use Rattle.ct_words.specs.Pairs.{least_pair}
use Rattle.ct_codes.specs.Inside.First.{NonePasses}
use Rattle.ct_codes.specs.Inside.Span.{is_close_sum, is_close_choice}
use Rattle.ct_codes.specs.Inside.Light.{reduced_by, reduced, ArePivots, AreUnits}
use Rattle.ct_words.proofs.PairLemmas.{close_any_length}
use Rattle.ct_codes.proofs.ShiftedPairs.{shifted-none_before, shifted-end}
use Rattle.ct_codes.proofs.SpanLemmas.{xor_exchange, pow_sum, chosen, chosen-lt, span_word-zero, span_word-lt, length-coset_list, coset_list-lt}
use Rattle.ct_codes.proofs.CosetLemmas.{NoneBefore, rows-of_choices}
use Rattle.ct_codes.proofs.BlockLemmas.{span_word-append, none_of_row, position-none}

-- what is chosen by the sum of two digits
chosen_of_two : (b p q : ℕ) → p < 2 → q < 2 → chosen b ((p + q) % 2) ≡ bit_xor (chosen b p) (chosen b q)
chosen_of_two b zero zero h k = refl
chosen_of_two b zero (suc zero) h k = sym (xor_zero_l b)
chosen_of_two b (suc zero) zero h k = sym (xor_zero_r b)
chosen_of_two b (suc zero) (suc zero) h k = sym (xor_self b)
chosen_of_two b zero (suc (suc q)) h k = absurd (omega arith)
chosen_of_two b (suc zero) (suc (suc q)) h k = absurd (omega arith)
chosen_of_two b (suc (suc p)) q h k = absurd (omega arith)

-- what a pivot makes of a sum
reduced_by-sum : (p : Pivot) (x y : ℕ) → reduced_by p (bit_xor x y) ≡ bit_xor (reduced_by p x) (reduced_by p y)
reduced_by-sum p x y =
    ap (λ d. bit_xor (bit_xor x y) (chosen p.word d)) (bit_at_xor x y p.place)
    ∙ ap (bit_xor (bit_xor x y)) (chosen_of_two p.word (bit_at x p.place) (bit_at y p.place) (bit_at-lt x p.place) (bit_at-lt y p.place))
    ∙ xor_exchange x y (chosen p.word (bit_at x p.place)) (chosen p.word (bit_at y p.place))

pub reduced-sum : (ps : List Pivot) (x y : ℕ) → reduced ps (bit_xor x y) ≡ bit_xor (reduced ps x) (reduced ps y)
reduced-sum [] x y = refl
reduced-sum (p ∷ ps) x y = ap (reduced ps) (reduced_by-sum p x y) ∙ reduced-sum ps (reduced_by p x) (reduced_by p y)

-- and of nothing
pub reduced-zero : (ps : List Pivot) → reduced ps 0 ≡ 0
reduced-zero ps =
    ap (reduced ps) (sym (xor_self 0)) ∙ reduced-sum ps 0 0 ∙ xor_self (reduced ps 0)

-- one pivot more
pub reduced-push : (ps : List Pivot) (p : Pivot) (x : ℕ) → reduced (ps ++ p ∷ []) x ≡ reduced_by p (reduced ps x)
reduced-push [] p x = refl
reduced-push (q ∷ ps) p x = reduced-push ps p (reduced_by q x)

-- nothing is left of a sum of words of which nothing is left
pub reduced-span : (ps : List Pivot) (basis : List ℕ) (s : ℕ) → All (λ b. reduced ps b ≡ 0) basis → reduced ps (span_word basis s) ≡ 0
reduced-span ps [] s none = reduced-zero ps
reduced-span ps (b ∷ bs) s none =
    reduced-sum ps (chosen b (s % 2)) (span_word bs (s / 2))
    ∙ ap₂ bit_xor (first (s % 2 == 1)) (reduced-span ps bs (s / 2) (All-tail (λ c. reduced ps c ≡ 0) b bs none))
    ∙ xor_self 0
  where
    first : (t : Bool) → reduced ps (if t then b else 0) ≡ 0
    first true = All-head (λ c. reduced ps c ≡ 0) b bs none
    first false = reduced-zero ps

-- what is left of a word is one
pub reduced-lt : (ps : List Pivot) (x : ℕ) → All (λ p. p.word < 2 ^ 32) ps → x < 2 ^ 32 → reduced ps x < 2 ^ 32
reduced-lt [] x words below = below
reduced-lt (p ∷ ps) x words below =
    reduced-lt ps (reduced_by p x) (All-tail (λ (q : Pivot). q.word < 2 ^ 32) p ps words)
    (xor_lt 32 x (chosen p.word (x / 2 ^ p.place % 2)) below
    (chosen-lt 32 p.word (x / 2 ^ p.place % 2 == 1) (All-head (λ (q : Pivot). q.word < 2 ^ 32) p ps words)))

-- the pivot that a word is
abbrev pub pivot_of : ℕ → Pivot
pivot_of w = record { place = trailing_zeros w32 w; word = w }

-- one basis word more, of which the pivots leave something
pub pivots-next : (ps : List Pivot) (basis : List ℕ) (b w : ℕ) → ArePivots ps basis → b < 2 ^ 32 → reduced ps b ≡ w → 0 < w
    → ArePivots (ps ++ pivot_of w ∷ []) (basis ++ b ∷ [])
pivots-next ps basis b w pivots small left some = record {
  places =
      All-append (λ (q : Pivot). q.place < 32) ps (pivot_of w ∷ []) pivots.places
      (All-cons (λ (q : Pivot). q.place < 32) (pivot_of w) [] lowest.0 (All-nil (λ (q : Pivot). q.place < 32)));
  words =
      All-append (λ (q : Pivot). q.word < 2 ^ 32) ps (pivot_of w ∷ []) pivots.words
      (All-cons (λ (q : Pivot). q.word < 2 ^ 32) (pivot_of w) [] below (All-nil (λ (q : Pivot). q.word < 2 ^ 32)));
  nothing =
      All-append (λ c. reduced (ps ++ pivot_of w ∷ []) c ≡ 0) basis (b ∷ [])
      (All-weaker (λ c. reduced ps c ≡ 0) (λ c. reduced (ps ++ pivot_of w ∷ []) c ≡ 0)
      (λ c none. reduced-push ps (pivot_of w) c ∙ ap (reduced_by (pivot_of w)) none ∙ reduced-zero (pivot_of w ∷ [])) basis pivots.nothing)
      (All-cons (λ c. reduced (ps ++ pivot_of w ∷ []) c ≡ 0) b [] (reduced-push ps (pivot_of w) b ∙ ap (reduced_by (pivot_of w)) left ∙ own)
      (All-nil (λ c. reduced (ps ++ pivot_of w ∷ []) c ≡ 0)));
  independent = λ s more few. go s more few (cases_lt s (2 ^ length basis));
}
  where
    below : w < 2 ^ 32
    below = subst (λ v. v < 2 ^ 32) left (reduced-lt ps b pivots.words small)

    lowest : (trailing_zeros w32 w < 32) × (bit_at w (trailing_zeros w32 w) ≡ 1) × ((i : ℕ) → i < trailing_zeros w32 w → bit_at w i ≡ 0)
    lowest = bit_at-trailing_zeros w32 w some below

    own : reduced_by (pivot_of w) w ≡ 0
    own = ap (λ d. bit_xor w (chosen w d)) lowest.1 ∙ xor_self w

    again : (s : ℕ) → s < 2 ^ length basis → (h : ℕ) → span_word (basis ++ b ∷ []) (h * 2 ^ length basis + s) ≡ bit_xor (span_word basis s) (span_word (b ∷ []) h)
    again s few h = span_word-append basis (b ∷ []) h s few

    go : (s : ℕ) → 0 < s → s < 2 ^ length (basis ++ b ∷ []) → (s < 2 ^ length basis) ⊎ (2 ^ length basis ≤ s) → span_word (basis ++ b ∷ []) s ≢ 0
    go s more few (inl low) = λ none.
        let place : 0 * 2 ^ length basis + s ≡ s = omega arith in
        pivots.independent s more low
        (sym (xor_zero_r (span_word basis s)) ∙ ap (bit_xor (span_word basis s)) (sym (span_word-zero (b ∷ [])))
        ∙ sym (ap (span_word (basis ++ b ∷ [])) (sym place) ∙ again s low 0) ∙ none)
    go s more few (inr high) = λ none.
        let size = ap (λ n. 2 ^ n) (length-append basis (b ∷ [])) in
        let double = ap (λ n. 2 ^ n) (suc_is (length basis)) ∙ pow-suc 2 (length basis) in
        let rest = s - 2 ^ length basis in
        let place : 1 * 2 ^ length basis + (s - 2 ^ length basis) ≡ s = omega arith in
        let sum = ap (span_word (basis ++ b ∷ [])) (sym place) ∙ again (s - 2 ^ length basis) (omega (arith, size, double)) 1
        ∙ ap (bit_xor (span_word basis rest)) (xor_zero_r b) in
        let left_is : reduced ps (bit_xor (span_word basis rest) b) ≡ w =
        reduced-sum ps (span_word basis rest) b ∙ ap₂ bit_xor (reduced-span ps basis rest pivots.nothing) left ∙ xor_zero_l w in
        let nothing : w ≡ 0 = sym left_is ∙ ap (reduced ps) (sym sum ∙ none) ∙ reduced-zero ps in
        omega arith
      where
        suc_is : (n : ℕ) → n + length (b ∷ []) ≡ suc n
        suc_is n = omega arith

-- a number but 0 is its greatest power of two and a smaller number
pub record HasTop (n y : ℕ) : Type 0 where
  pub top : ℕ
  pub rest : ℕ
  pub within : top < n
  pub small : rest < 2 ^ top
  pub sum : y ≡ 2 ^ top + rest

pub has_top : (n y : ℕ) → 0 < y → y < 2 ^ n → HasTop n y
has_top zero y some below = absurd (omega arith)
has_top (suc n) y some below = elim (cases_lt y (2 ^ n)) [
  | inl low ↦ let least = has_top n y some low in
      record { top = least.top; rest = least.rest; within = let inside = least.within in omega arith; small = least.small; sum = least.sum }
  | inr high ↦ let double = pow-suc 2 n in
      record { top = n; rest = y - 2 ^ n; within = omega arith; small = omega (arith, double); sum = omega arith }
]

-- its weight
pub weight-top : (n q z : ℕ) → q < n → z < 2 ^ q → weight n (2 ^ q + z) ≡ suc (weight n z)
weight-top zero q z within small = absurd (omega arith)
weight-top (suc n) zero z within small =
    let none : z ≡ 0 = omega arith in
    let odd : (2 ^ 0 + z) % 2 ≡ 1 = omega arith in
    let half : (2 ^ 0 + z) / 2 ≡ 0 = omega arith in
    let even : z % 2 ≡ 0 = omega arith in
    let nothing : z / 2 ≡ 0 = omega arith in
    weight-suc n (2 ^ 0 + z) ∙ ap₂ (λ a b. a + weight n b) odd half ∙ one_more (weight n 0)
    ∙ ap suc (sym (weight-suc n z ∙ ap₂ (λ a b. a + weight n b) even nothing))
  where
    one_more : (a : ℕ) → 1 + a ≡ suc (0 + a)
    one_more a = omega arith
weight-top (suc n) (suc q) z within small =
    let double = pow-suc 2 q in
    let odd : (2 ^ suc q + z) % 2 ≡ z % 2 = omega arith in
    let half : (2 ^ suc q + z) / 2 ≡ 2 ^ q + z / 2 = omega arith in
    let deeper = weight-top n q (z / 2) (omega arith) (omega arith) in
    weight-suc n (2 ^ suc q + z) ∙ ap₂ (λ a b. a + weight n b) odd half ∙ ap (λ a. z % 2 + a) deeper
    ∙ moved (z % 2) (weight n (z / 2)) ∙ ap suc (sym (weight-suc n z))
  where
    moved : (a b : ℕ) → a + suc b ≡ suc (a + b)
    moved a b = omega arith

-- the sum of a power of two and a smaller number is one without carry
top_sum : (q z : ℕ) → z < 2 ^ q → 2 ^ q + z ≡ bit_xor z (2 ^ q)
top_sum q z small = sym (pow_sum q z small)

-- what is left of a word with one more one in front
pub reduced-top : (ps : List Pivot) (units : List ℕ) (q z : ℕ) → AreUnits ps units → q < length units → z < 2 ^ q
    → reduced ps (2 ^ q + z) ≡ bit_xor (slice_index units q) (reduced ps z)
reduced-top ps units q z are within small =
    ap (reduced ps) (top_sum q z small) ∙ reduced-sum ps z (2 ^ q) ∙ xor_comm (reduced ps z) (reduced ps (2 ^ q))
    ∙ ap (λ u. bit_xor u (reduced ps z)) (sym (are q within))

-- a word but 0 has a one
pub weight-some : (n y : ℕ) → 0 < y → y < 2 ^ n → 1 ≤ weight n y
weight-some n y some below =
    let top = has_top n y some below in
    let same = ap (weight n) top.sum ∙ weight-top n top.top top.rest top.within top.small in
    omega arith

-- the sum is left of no word without ones
pub left_of_nothing : (ps : List Pivot) (sum y : ℕ) → sum ≢ 0 → y ≡ 0 → bit_xor sum (reduced ps y) ≢ 0
left_of_nothing ps sum y some none = λ nothing.
    some (sym (ap (λ q. bit_xor sum (reduced ps q)) none ∙ ap (bit_xor sum) (reduced-zero ps) ∙ xor_zero_r sum) ∙ nothing)

-- one place more: the sum is left of no word with a one there, and of none without
pub left-next : (ps : List Pivot) (units : List ℕ) (place most sum y : ℕ) → AreUnits ps units → place < length units → length units ≤ 32 → 0 < most
    → ((z : ℕ) → z < 2 ^ place → weight 32 z ≤ most - 1 → bit_xor (bit_xor sum (slice_index units place)) (reduced ps z) ≢ 0)
    → ((z : ℕ) → z < 2 ^ place → weight 32 z ≤ most → bit_xor sum (reduced ps z) ≢ 0)
    → y < 2 ^ (place + 1) → weight 32 y ≤ most → bit_xor sum (reduced ps y) ≢ 0
left-next ps units place most sum y are within few some there before below light = elim (cases_lt y (2 ^ place)) [
  | inl low ↦ before y low light
  | inr high ↦
      let next : place + 1 ≡ suc place = omega arith in
      let double = ap (λ n. 2 ^ n) next ∙ pow-suc 2 place in
      let z = y - 2 ^ place in
      let small : y - 2 ^ place < 2 ^ place = omega (arith, double) in
      let y_is : y ≡ 2 ^ place + (y - 2 ^ place) = omega arith in
      let heavier = ap (weight 32) y_is ∙ weight-top 32 place (y - 2 ^ place) (omega arith) small in
      λ none. there (y - 2 ^ place) small (omega (arith, heavier))
      (xor_assoc sum (slice_index units place) (reduced ps z) ∙ ap (bit_xor sum) (sym (ap (reduced ps) y_is ∙ reduced-top ps units place z are within small)) ∙ none)
]

-- the same of what is left of light words
pub leaves-next : (ps : List Pivot) (units : List ℕ) (place d y : ℕ) → AreUnits ps units → place < length units → length units ≤ 32 → 2 ≤ d
    → ((z : ℕ) → z < 2 ^ place → weight 32 z ≤ d - 2 → bit_xor (slice_index units place) (reduced ps z) ≢ 0)
    → ((z : ℕ) → z < 2 ^ place → 0 < z → weight 32 z < d → reduced ps z ≢ 0)
    → y < 2 ^ (place + 1) → 0 < y → weight 32 y < d → reduced ps y ≢ 0
leaves-next ps units place d y are within few more there before below some light = elim (cases_lt y (2 ^ place)) [
  | inl low ↦ before y low some light
  | inr high ↦
      let next : place + 1 ≡ suc place = omega arith in
      let double = ap (λ n. 2 ^ n) next ∙ pow-suc 2 place in
      let small : y - 2 ^ place < 2 ^ place = omega (arith, double) in
      let y_is : y ≡ 2 ^ place + (y - 2 ^ place) = omega arith in
      let heavier = ap (weight 32) y_is ∙ weight-top 32 place (y - 2 ^ place) (omega arith) small in
      λ none. there (y - 2 ^ place) small (omega (arith, heavier))
      (sym (ap (reduced ps) y_is ∙ reduced-top ps units place (y - 2 ^ place) are within small) ∙ none)
]

-- so no sum of one basis word or more is light, where something is left of each light word
pub none_light : (d : ℕ) (basis : List ℕ) (ps : List Pivot) → All (λ b. b < 2 ^ 32) basis → ArePivots ps basis
    → ((y : ℕ) → y < 2 ^ 32 → 0 < y → weight 32 y < d → reduced ps y ≢ 0) → NonePasses (is_close_sum d basis 0) 1 (2 ^ length basis)
none_light d basis ps below pivots leaves s from few = elim (cases_Bool (nat_lt (distance 32 0 (span_word basis s)) d)) [
  | inl close ↦
      let y_below = span_word-lt 32 basis s below in
      let own = distance-is_weight 32 0 (span_word basis s) (bit_xor 0 (span_word basis s)) (IsSum-bit_xor 32 0 (span_word basis s) (pow_pos 32) y_below)
      ∙ ap (weight 32) (xor_zero_l (span_word basis s)) in
      let some = pivots.independent s (omega arith) few in
      let light : distance 32 0 (span_word basis s) < d = ltb-true (distance 32 0 (span_word basis s)) d close in
      absurd (leaves (span_word basis s) y_below (omega (arith, some)) (omega (arith, own, light)) (reduced-span ps basis s pivots.nothing))
  | inr far ↦ far
]

-- and the choices of one representative have no pair that is close
pub none_of_one : (n d : ℕ) (basis representatives : List ℕ) → All (λ x. x < 2 ^ 32) basis → All (λ x. x < 2 ^ 32) representatives
    → length representatives ≡ 1 → NonePasses (is_close_sum d basis 0) 1 (2 ^ length basis) → All (λ x. x < 2 ^ n) (coset_list basis representatives)
    → least_pair (λ x y. nat_lt (distance n x y) d) (coset_list basis representatives) ≡ None
none_of_one n d basis representatives basis_below below one none fits_n =
    close_any_length n 32 d words fits_n fits
    ∙ sym (shifted-none_before close words (1 * span) before)
    ∙ shifted-end close words (1 * span) (omega (arith, size, all))
  where
    words : List ℕ
    words = coset_list basis representatives

    span : ℕ
    span = 2 ^ length basis

    close : ℕ → ℕ → Bool
    close x y = nat_lt (distance 32 x y) d

    fits : All (λ x. x < 2 ^ 32) (coset_list basis representatives)
    fits = coset_list-lt 32 basis representatives basis_below below

    size : length (coset_list basis representatives) ≡ length representatives * 2 ^ length basis
    size = length-coset_list basis representatives

    all : length representatives * 2 ^ length basis ≡ 1 * 2 ^ length basis
    all = ap (λ r. r * 2 ^ length basis) one

    row : 0 < length representatives
    row = omega (arith, one)

    others : NonePasses (is_close_choice d basis representatives 0) (0 * 2 ^ length basis + 1) ((0 + 1) * 2 ^ length basis)
    others =
        none_of_row d basis representatives 0 0 1 basis_below below row row
        (subst (λ z. NonePasses (is_close_sum d basis z) 1 (2 ^ length basis)) (sym (xor_self (get_or representatives 0 0))) none)

    passed : NonePasses (is_close_choice d basis representatives 0) (0 * 2 ^ length basis + 1) (length (coset_list basis representatives))
    passed = subst (λ q. NonePasses (is_close_choice d basis representatives 0) (0 * 2 ^ length basis + 1) q) (sym (size ∙ all)) others

    before : NoneBefore (λ x y. nat_lt (distance 32 x y) d) (coset_list basis representatives) (1 * 2 ^ length basis)
    before =
        rows-of_choices 32 d words basis representatives 0 span refl refl fits row (λ k m early. absurd (omega arith))
        (position-none (close (get_or words (0 * span) 0)) words (0 * span) passed)
