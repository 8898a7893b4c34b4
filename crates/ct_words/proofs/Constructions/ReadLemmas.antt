-- Words that are read at some places of others: digits, weights, distances, and a place that is left out.
use Rattle.std.proofs.Common.{◌≡◌, ℕ, zero, suc, ◌+◌, ◌-◌, ◌*◌, ◌/◌, ◌%◌, ◌^◌, ◌<◌, ◌≤◌, List, [], ◌∷◌, ◌++◌, length, take, get_or, All, refl, sym, ap, ap₂, subst, ◌∙◌, inl, inr, arith, pow-suc, pow-add, length-append}
use Rattle.std.specs.Prelude.{Bool, not, ◌==◌, cond, count_by, bit_and, bit_or}
use Rattle.std.proofs.Math.Nat.{mul-le-mul_left}
use Rattle.std.proofs.lemmas.Bool.{cases_order}
use Rattle.std.proofs.lemmas.List.{take_all}
use Rattle.std.proofs.lemmas.Nat.{mul-add-lt, div-mul-add, mod-mul-add, one_shl, and_mask, shr_below, shl_whole, or_shifted, mod_below, pow_pos}
use Rattle.std.proofs.lemmas.List.Sums.{sum_by-cons}
use Rattle.ct_words.specs.Word.{places, digit, weight, distance}
use Rattle.ct_words.specs.PairProducts.{all_places}
use Rattle.ct_words.proofs.WordLemmas.{places_same, digit-lt, same_from_digits}
use Rattle.ct_words.proofs.TextLemmas.{first_digit, next_digit, length-tabulate, get_or-tabulate}
use Rattle.ct_words.proofs.DigitLists.{places-first}
use Rattle.ct_words.specs.Constructions.Joined.{followed_by}
use Rattle.ct_words.specs.Constructions.Places.{ArePlaces, other_places, read_at}
use Rattle.ct_words.proofs.Constructions.PlaceLemmas.{earlier_places, later_places, other_places-none, other_places-before, other_places-after, places-below, take-next}

-- a count of places by a list of them
places-list : (f : ℕ → Bool) (ps : List ℕ) → places (λ k. f (get_or ps k 0)) (length ps) ≡ count_by f ps
places-list f [] = refl
places-list f (p ∷ ps) =
    let first = places-first (λ k. f (get_or (p ∷ ps) k 0)) (length ps) in
    let rest = places-list f ps in
    let sum = sum_by-cons (λ q. cond {A = ℕ} (f q) 1 0) p ps in
    omega arith

-- a count of all places
pub places-all : (f : ℕ → Bool) (n : ℕ) → places f n ≡ count_by f (all_places n)
places-all f n =
    places_same f (λ k. f (get_or (all_places n) k 0)) n (λ p h. ap f (sym (get_or-tabulate (λ i. i) n p h)))
    ∙ ap (places (λ k. f (get_or (all_places n) k 0))) (sym (length-tabulate (λ i. i) n))
    ∙ places-list f (all_places n)

-- weights and distances by the list of all places
pub weight-all : (n x : ℕ) → weight n x ≡ count_by (λ p. digit n x p == 1) (all_places n)
unfolding weight
weight-all n x = places-all (λ p. digit n x p == 1) n

pub distance-all : (n x y : ℕ) → distance n x y ≡ count_by (λ p. not (digit n x p == digit n y p)) (all_places n)
unfolding distance
distance-all n x y = places-all (λ p. not (digit n x p == digit n y p)) n

-- what is read is a word of as many digits as there are places
pub read_at-lt : (n x : ℕ) (ps : List ℕ) → read_at n x ps < 2 ^ length ps
read_at-lt n x [] = omega arith
read_at-lt n x (p ∷ ps) =
    let whole = mul-add-lt (digit n x p) (2 ^ length ps) (read_at n x ps) 2 (digit-lt n x p) (read_at-lt n x ps) in
    let double = pow-suc 2 (length ps) in
    omega arith

-- its digits are those at the places
pub digit-read_at : (n x : ℕ) (ps : List ℕ) (k : ℕ) → k < length ps → digit (length ps) (read_at n x ps) k ≡ digit n x (get_or ps k 0)
digit-read_at n x [] k h = absurd (omega arith)
digit-read_at n x (p ∷ ps) zero h = first_digit (length ps) (digit n x p) (read_at n x ps) (digit-lt n x p) (read_at-lt n x ps)
digit-read_at n x (p ∷ ps) (suc k) h =
    let within : k < length ps = omega arith in
    next_digit (length ps) (digit n x p) (read_at n x ps) k within ∙ digit-read_at n x ps k within

-- its weight counts the ones at the places
pub weight-read_at : (n x : ℕ) (ps : List ℕ) → weight (length ps) (read_at n x ps) ≡ count_by (λ p. digit n x p == 1) ps
unfolding weight
weight-read_at n x ps =
    places_same (λ k. digit (length ps) (read_at n x ps) k == 1) (λ k. digit n x (get_or ps k 0) == 1) (length ps)
    (λ k h. ap (λ a. a == 1) (digit-read_at n x ps k h))
    ∙ places-list (λ p. digit n x p == 1) ps

-- the distance of two such words counts the places where they differ
pub distance-read_at : (n x y : ℕ) (ps : List ℕ)
    → distance (length ps) (read_at n x ps) (read_at n y ps) ≡ count_by (λ p. not (digit n x p == digit n y p)) ps
unfolding distance
distance-read_at n x y ps =
    places_same (λ k. not (digit (length ps) (read_at n x ps) k == digit (length ps) (read_at n y ps) k))
    (λ k. not (digit n x (get_or ps k 0) == digit n y (get_or ps k 0))) (length ps)
    (λ k h. ap₂ (λ a b. not (a == b)) (digit-read_at n x ps k h) (digit-read_at n y ps k h))
    ∙ places-list (λ p. not (digit n x p == digit n y p)) ps

-- a word read at all places is itself
pub read_at-all : (n x : ℕ) → x < 2 ^ n → read_at n x (all_places n) ≡ x
read_at-all n x below =
    let long = length-tabulate (λ i. i) n in
    let z = read_at n x (all_places n) in
    same_from_digits n z x (subst (λ m. z < 2 ^ m) long (read_at-lt n x (all_places n))) below (λ p h.
    ap (λ m. digit m z p) (sym long) ∙ digit-read_at n x (all_places n) p (omega arith) ∙ ap (digit n x) (get_or-tabulate (λ i. i) n p h))

-- what is read at places and then at others
pub read_at-append : (n x : ℕ) (ps qs : List ℕ) → read_at n x (ps ++ qs) ≡ followed_by (length qs) (read_at n x ps) (read_at n x qs)
read_at-append n x [] qs = omega arith
read_at-append n x (p ∷ ps) qs =
    let ih = read_at-append n x ps qs in
    let power = ap (λ k. 2 ^ k) (length-append ps qs) ∙ pow-add 2 (length ps) (length qs) in
    let first = ap (λ z. digit n x p * z) power in
    omega arith

-- the word without the last k + 1 digits, followed by its last k digits
abbrev pub without_digit : ℕ → ℕ → ℕ
without_digit k z = z / 2 ^ (k + 1) * 2 ^ k + z % 2 ^ k

-- what shifts and a mask make of a machine word
pub without_digit-is : (k z : ℕ) → k < 31 → z < 2 ^ 32
    → bit_or (z / 2 ^ (k + 1) * 2 ^ k % 2 ^ 32) (bit_and z (1 * 2 ^ k % 2 ^ 32 - 1)) ≡ without_digit k z
without_digit-is k z short fits =
    let mask = ap (λ m. bit_and z (m - 1)) (one_shl k 32 (omega arith)) ∙ and_mask z k in
    let size : 31 - k + (k + 1) ≡ 32 = omega arith in
    let high = shr_below z (31 - k) (k + 1) (subst (λ m. z < 2 ^ m) (sym size) fits) in
    let front = shl_whole (z / 2 ^ (k + 1)) (31 - k) k 32 high (omega arith) in
    ap₂ bit_or front mask ∙ or_shifted (z / 2 ^ (k + 1)) k (z % 2 ^ k) (mod_below z (2 ^ k) (pow_pos k))

-- so a digit is left out
without_digit-middle : (k a d b : ℕ) → d < 2 → b < 2 ^ k → without_digit k (followed_by (suc k) a (followed_by k d b)) ≡ followed_by k a b
without_digit-middle k a d b small below =
    let one_more : k + 1 ≡ suc k = omega arith in
    let double = pow-suc 2 k in
    let rest = mul-add-lt d (2 ^ k) b 2 small below in
    let high = ap (λ j. followed_by (suc k) a (followed_by k d b) / 2 ^ j) one_more ∙ div-mul-add a (2 ^ suc k) (followed_by k d b) (omega arith) in
    let first = ap (λ z. a * z) double in
    let regrouped : followed_by (suc k) a (followed_by k d b) ≡ (a * 2 + d) * 2 ^ k + b = omega arith in
    let low = ap (λ z. z % 2 ^ k) regrouped ∙ mod-mul-add (a * 2 + d) (2 ^ k) b below in
    ap₂ (λ i j. i * 2 ^ k + j) high low

-- two words with the same digit there keep their order
without_digit-order : (k a b d x y : ℕ) → x < 2 ^ k → y < 2 ^ k
    → followed_by (suc k) a (followed_by k d x) < followed_by (suc k) b (followed_by k d y) → followed_by k a x < followed_by k b y
without_digit-order k a b d x y below above less =
    let double = pow-suc 2 k in
    let first = ap (λ z. a * z) double in
    let second = ap (λ z. b * z) double in
    elim (cases_order a b) [
      | inl same ↦ let level = ap (λ z. z * 2 ^ k) same in omega arith
      | inr (inl smaller) ↦ let more = mul-le-mul_left (2 ^ k) smaller in omega arith
      | inr (inr greater) ↦ let more = mul-le-mul_left (2 ^ k) greater in omega arith
    ]

-- what the word x has at the places before p that are none of these, and at those after p
abbrev earlier_word : ℕ → ℕ → List ℕ → ℕ → ℕ
earlier_word n x qs p = read_at n x (earlier_places qs p)

abbrev later_word : ℕ → ℕ → ℕ → ℕ
later_word n x p = read_at n x (later_places n p)

later_word-lt : (n x p : ℕ) → later_word n x p < 2 ^ (n - 1 - p)
later_word-lt n x p =
    subst (λ m. later_word n x p < 2 ^ m) (length-tabulate (λ i. suc (p + i)) (n - 1 - p))
    (read_at-lt n x (later_places n p))

-- the word without these places, where a place is above them: what it has before the place, at it, and after it
read_at-around : (n x p : ℕ) (qs : List ℕ) → p < n → All (λ q. q < p) qs
    → read_at n x (other_places n qs)
    ≡ followed_by (suc (n - 1 - p)) (earlier_word n x qs p) (followed_by (n - 1 - p) (digit n x p) (later_word n x p))
read_at-around n x p qs within below =
    ap (read_at n x) (other_places-before n p qs within below)
    ∙ read_at-append n x (earlier_places qs p) (p ∷ later_places n p)
    ∙ ap (λ m. followed_by (suc m) (earlier_word n x qs p) (followed_by m (digit n x p) (later_word n x p)))
    (length-tabulate (λ i. suc (p + i)) (n - 1 - p))

-- and the same without the place
read_at-beside : (n x p : ℕ) (qs : List ℕ) → p < n → All (λ q. q < p) qs
    → read_at n x (other_places n (qs ++ p ∷ [])) ≡ followed_by (n - 1 - p) (earlier_word n x qs p) (later_word n x p)
read_at-beside n x p qs within below =
    ap (read_at n x) (other_places-after n p qs within below)
    ∙ read_at-append n x (earlier_places qs p) (later_places n p)
    ∙ ap (λ m. followed_by m (earlier_word n x qs p) (later_word n x p)) (length-tabulate (λ i. suc (p + i)) (n - 1 - p))

-- so the place's digit is left out
pub read_at-without : (n x p : ℕ) (qs : List ℕ) → p < n → All (λ q. q < p) qs
    → read_at n x (other_places n (qs ++ p ∷ [])) ≡ without_digit (n - 1 - p) (read_at n x (other_places n qs))
read_at-without n x p qs within below =
    let k = n - 1 - p in
    read_at-beside n x p qs within below
    ∙ sym (without_digit-middle k (earlier_word n x qs p) (digit n x p) (later_word n x p) (digit-lt n x p) (later_word-lt n x p))
    ∙ ap (without_digit k) (sym (read_at-around n x p qs within below))

-- and two words with the same digit at the place keep their order
read_at-order : (n x y p : ℕ) (qs : List ℕ) → p < n → All (λ q. q < p) qs → digit n x p ≡ digit n y p
    → read_at n x (other_places n qs) < read_at n y (other_places n qs)
    → read_at n x (other_places n (qs ++ p ∷ [])) < read_at n y (other_places n (qs ++ p ∷ []))
read_at-order n x y p qs within below same less =
    let k = n - 1 - p in
    let here = read_at-around n x p qs within below in
    let there = read_at-around n y p qs within below
    ∙ ap (λ d. followed_by (suc k) (earlier_word n y qs p) (followed_by k d (later_word n y p))) (sym same) in
    rw (read_at-beside n x p qs within below, read_at-beside n y p qs within below)
    (without_digit-order k (earlier_word n x qs p) (earlier_word n y qs p) (digit n x p) (later_word n x p) (later_word n y p)
    (later_word-lt n x p) (later_word-lt n y p) (rw (here, there) at less))

-- and so do two words with the same digits at all of some places
pub read_at-others_order : (n x y : ℕ) (places : List ℕ) → ArePlaces n places
    → All (λ p. digit n x p ≡ digit n y p) places → x < 2 ^ n → y < 2 ^ n → x < y
    → read_at n x (other_places n places) < read_at n y (other_places n places)
read_at-others_order n x y places are same first second less =
    let whole = take_all (length places) places (omega arith) in
    let P : List ℕ → Type 0 = λ qs. read_at n x (other_places n qs) < read_at n y (other_places n qs) in
    subst P whole (so_far (length places) (omega arith))
  where
    all : (z : ℕ) → z < 2 ^ n → read_at n z (other_places n []) ≡ z
    all z below = ap (read_at n z) (other_places-none n) ∙ read_at-all n z below

    so_far : (i : ℕ) → i ≤ length places
        → read_at n x (other_places n (take i places)) < read_at n y (other_places n (take i places))
    so_far zero h = rw (all x first, all y second) less
    so_far (suc i) h =
        let within : i < length places = omega arith in
        let below = places-below n places i are within in
        rw (take-next places i within)
        (read_at-order n x y (get_or places i 0) (take i places) (are.within i 0 within) below (same i 0 within) (so_far i (omega arith)))
