-- Words with one more digit: their weights and distances, and the codes that they make.
use Rattle.std.proofs.Common.{◌≡◌, ℕ, suc, ◌+◌, ◌*◌, ◌/◌, ◌%◌, ◌^◌, ◌<◌, ◌≤◌, not, ◌==◌, List, length, Option, subst, refl, ap, ap₂, ◌∙◌, inl, inr, arith, pow-suc, add-one, eq-eqb, ne_eqb}
use Rattle.std.specs.Option.{option_map}
use Rattle.std.specs.List.Sorted.{IsStrictlyIncreasing}
use Rattle.std.proofs.lemmas.Bool.{cases_eq}
use Rattle.std.proofs.lemmas.Nat.{mod_below, mod-mul-add, div-mul-add}
use Rattle.std.proofs.lemmas.List.{length-map}
use Rattle.std.proofs.lemmas.Iterator.Adapters.{option_map_id}
use Rattle.ct_words.specs.Word.{digit, weight, distance}
use Rattle.ct_words.proofs.WordLemmas.{one, places_same, last_digit, digit_half, weight-suc, weights_of_pair}
use Rattle.ct_words.specs.declared.limits.TheConstants.{MAX_N}
use Rattle.ct_words.specs.declared.code.TheConstants.{MAX_CODE_DISTANCE}
use Rattle.ct_words.specs.Code.{IsCode, CodeValue, IsSoundCode}
use Rattle.ct_words.specs.Constructions.Joined.{followed_by}
use Rattle.ct_words.specs.Constructions.Even.{even_from}
use Rattle.ct_words.specs.Constructions.Append.{lengthened, one_appended, with_parity}
use Rattle.ct_words.proofs.Constructions.Images.{IsCodeMap, IsCode-image_weighted, IsStrictlyIncreasing-map}

-- the distance of two words is that of their halves and of their last digits
distance-suc : (n x y : ℕ) → distance (suc n) x y ≡ one (not (x % 2 == y % 2)) + distance n (x / 2) (y / 2)
unfolding distance
distance-suc n x y =
    ap₂ (λ i j. i + j) (ap₂ (λ i j. one (not (i == j))) (last_digit n x) (last_digit n y))
    (places_same (λ p. not (digit (suc n) x p == digit (suc n) y p)) (λ p. not (digit n (x / 2) p == digit n (y / 2) p)) n
    (λ p h. ap₂ (λ i j. not (i == j)) (digit_half n x p h) (digit_half n y p h)))

-- the distance of two words, each followed by a digit
pub distance-followed : (n x y a b : ℕ) → a < 2 → b < 2
    → distance (suc n) (followed_by 1 x a) (followed_by 1 y b) ≡ one (not (a == b)) + distance n x y
distance-followed n x y a b h k =
    distance-suc n (x * 2 + a) (y * 2 + b)
    ∙ ap₂ (λ i j. i + j) (ap₂ (λ i j. one (not (i == j))) (mod-mul-add x 2 a h) (mod-mul-add y 2 b k))
    (ap₂ (distance n) (div-mul-add x 2 a h) (div-mul-add y 2 b k))

-- the weight of a word that is followed by a digit
pub weight-followed : (n x a : ℕ) → a < 2 → weight (suc n) (followed_by 1 x a) ≡ weight n x + a
weight-followed n x a h =
    weight-suc n (x * 2 + a) ∙ ap₂ (λ i j. i + j) (mod-mul-add x 2 a h) (ap (weight n) (div-mul-add x 2 a h)) ∙ omega arith

-- a word followed by a digit has one digit more
followed-lt : (n x a : ℕ) → x < 2 ^ n → a < 2 → followed_by 1 x a < 2 ^ suc n
followed-lt n x a h k = let more = pow-suc 2 n in omega arith

-- a digit that is the same for all words
IsCodeMap-digit : (n d a : ℕ) → a < 2 → IsCodeMap n d (suc n) d (λ x. followed_by 1 x a)
IsCodeMap-digit n d a h = record {
  lengths = λ x below. followed-lt n x a below h;
  different = λ x y p q same. omega arith;
  apart = λ x y p q far.
      let here = distance-followed n x y a a h h in
      let kept = ap (λ b. one (not b)) (eq-eqb a a refl) in
      omega arith;
}

-- where two numbers add up to s and twice another, s is even or the two have different parities
parity_gap : (d s i j k : ℕ) → d ≤ s → i + j ≡ s + 2 * k → even_from d ≤ one (not (i % 2 == j % 2)) + s
parity_gap d s i j k far both = elim (cases_eq (i % 2) (j % 2)) [
  | inl same ↦ let kept = ap (λ b. one (not b)) (eq-eqb (i % 2) (j % 2) same) in omega arith
  | inr other ↦ let more = ap (λ b. one (not b)) (ne_eqb (i % 2) (j % 2) other) in omega arith
]

-- the parity of the weight
IsCodeMap-parity : (n d : ℕ) → IsCodeMap n d (suc n) (even_from d) (λ x. followed_by 1 x (weight n x % 2))
IsCodeMap-parity n d = record {
  lengths = λ x below. followed-lt n x (weight n x % 2) below (mod_below (weight n x) 2 (omega arith));
  different = λ x y p q same.
      let first = mod_below (weight n x) 2 (omega arith) in
      let second = mod_below (weight n y) 2 (omega arith) in
      omega arith;
  apart = λ x y p q far.
      let first = mod_below (weight n x) 2 (omega arith) in
      let second = mod_below (weight n y) 2 (omega arith) in
      let here = distance-followed n x y (weight n x % 2) (weight n y % 2) first second in
      let gap = parity_gap d (distance n x y) (weight n x) (weight n y) _ far (weights_of_pair n x y) in
      omega arith;
}

-- a code of length n + 1
at_next : (n d : ℕ) (w : Option ℕ) (words : List ℕ) → IsCode (suc n) d w words → IsCode (n + 1) d w words
at_next n d w words code = rw add-one code

-- the words of a code, each followed by the digit 0
pub IsCode-lengthened : (n d : ℕ) (w : Option ℕ) (words : List ℕ) → IsCode n d w words → IsCode (n + 1) d w (lengthened words)
IsCode-lengthened n d w words code =
    at_next n d w (lengthened words)
    (subst (λ v. IsCode (suc n) d v (lengthened words)) (option_map_id w)
    (IsCode-image_weighted n d (suc n) d (λ k. k) w (λ x. followed_by 1 x 0) words (IsCodeMap-digit n d 0 (omega arith))
    (λ x below. weight-followed n x 0 (omega arith) ∙ omega arith) code))

-- each followed by the digit 1
pub IsCode-one_appended : (n d : ℕ) (w : Option ℕ) (words : List ℕ) → IsCode n d w words
    → IsCode (n + 1) d (option_map (λ k. k + 1) w) (one_appended words)
IsCode-one_appended n d w words code =
    at_next n d (option_map (λ k. k + 1) w) (one_appended words)
    (IsCode-image_weighted n d (suc n) d (λ k. k + 1) w (λ x. followed_by 1 x 1) words (IsCodeMap-digit n d 1 (omega arith))
    (λ x below. weight-followed n x 1 (omega arith)) code)

-- each followed by the parity of its weight
pub IsCode-with_parity : (n d : ℕ) (w : Option ℕ) (words : List ℕ) → IsCode n d w words
    → IsCode (n + 1) (even_from d) (option_map even_from w) (with_parity n words)
IsCode-with_parity n d w words code =
    at_next n (even_from d) (option_map even_from w) (with_parity n words)
    (IsCode-image_weighted n d (suc n) (even_from d) even_from w (λ x. followed_by 1 x (weight n x % 2)) words (IsCodeMap-parity n d)
    (λ x below. weight-followed n x (weight n x % 2) (mod_below (weight n x) 2 (omega arith))) code)

-- there are as many words as before
pub length-lengthened : (words : List ℕ) → length (lengthened words) ≡ length words
length-lengthened words = length-map words (λ x. followed_by 1 x 0)

pub length-one_appended : (words : List ℕ) → length (one_appended words) ≡ length words
length-one_appended words = length-map words (λ x. followed_by 1 x 1)

pub length-with_parity : (n : ℕ) (words : List ℕ) → length (with_parity n words) ≡ length words
length-with_parity n words = length-map words (λ x. followed_by 1 x (weight n x % 2))

-- and they ascend as before
pub ascending-lengthened : (words : List ℕ) → IsStrictlyIncreasing words → IsStrictlyIncreasing (lengthened words)
ascending-lengthened words up = IsStrictlyIncreasing-map (λ x. followed_by 1 x 0) words (λ x y less. omega arith) up

pub ascending-one_appended : (words : List ℕ) → IsStrictlyIncreasing words → IsStrictlyIncreasing (one_appended words)
ascending-one_appended words up = IsStrictlyIncreasing-map (λ x. followed_by 1 x 1) words (λ x y less. omega arith) up

pub ascending-with_parity : (n : ℕ) (words : List ℕ) → IsStrictlyIncreasing words → IsStrictlyIncreasing (with_parity n words)
ascending-with_parity n words up =
    IsStrictlyIncreasing-map (λ x. followed_by 1 x (weight n x % 2)) words
    (λ x y less. let first = mod_below (weight n x) 2 (omega arith) in omega arith) up

-- the digits of a word that is followed by a digit
pub digit-followed_before : (n x a p : ℕ) → a < 2 → p < n → digit (n + 1) (followed_by 1 x a) p ≡ digit n x p
digit-followed_before n x a p h within = rw add-one (digit_half n (x * 2 + a) p within ∙ ap (λ y. digit n y p) (div-mul-add x 2 a h))

pub digit-followed_last : (n x a : ℕ) → a < 2 → digit (n + 1) (followed_by 1 x a) n ≡ a
digit-followed_last n x a h = rw add-one (last_digit n (x * 2 + a) ∙ mod-mul-add x 2 a h)

-- with its parity a word has even weight
pub weight-with_parity : (n x : ℕ) → weight (n + 1) (followed_by 1 x (weight n x % 2)) % 2 ≡ 0
weight-with_parity n x =
    let here = ap (λ m. weight m (followed_by 1 x (weight n x % 2))) (add-one n)
    ∙ weight-followed n x (weight n x % 2) (mod_below (weight n x) 2 (omega arith)) in
    omega arith

-- a code of one digit more, told by its distance, weight and words
sound_next : (c : CodeValue) (e : ℕ) (w : Option ℕ) (words : List ℕ) → IsSoundCode c → c.n < MAX_N → (1 ≤ e) × (e ≤ MAX_CODE_DISTANCE)
    → length words ≡ length c.words
    → IsStrictlyIncreasing words → IsCode (c.n + 1) e w words → IsSoundCode (record { n = c.n + 1; d = e; w = w; words = words })
sound_next c e w words sound short far as_many up code =
    let filled = sound.some in
    record { length_in_range = (omega arith, omega arith); distance_in_range = far; some = omega arith; ascending = up; code = code }

pub sound-lengthened : (c : CodeValue) → IsSoundCode c → c.n < MAX_N
    → IsSoundCode (record { n = c.n + 1; d = c.d; w = c.w; words = lengthened c.words })
sound-lengthened c sound short =
    sound_next c c.d c.w (lengthened c.words) sound short sound.distance_in_range (length-lengthened c.words)
    (ascending-lengthened c.words sound.ascending) (IsCode-lengthened c.n c.d c.w c.words sound.code)

pub sound-one_appended : (c : CodeValue) → IsSoundCode c → c.n < MAX_N
    → IsSoundCode (record { n = c.n + 1; d = c.d; w = option_map (λ k. k + 1) c.w; words = one_appended c.words })
sound-one_appended c sound short =
    sound_next c c.d (option_map (λ k. k + 1) c.w) (one_appended c.words) sound short sound.distance_in_range (length-one_appended c.words)
    (ascending-one_appended c.words sound.ascending) (IsCode-one_appended c.n c.d c.w c.words sound.code)

pub sound-with_parity : (c : CodeValue) → IsSoundCode c → c.n < MAX_N
    → IsSoundCode (record { n = c.n + 1; d = even_from c.d; w = option_map even_from c.w; words = with_parity c.n c.words })
sound-with_parity c sound short =
    let far = sound.distance_in_range in
    let low = far.0 in
    let high = far.1 in
    sound_next c (even_from c.d) (option_map even_from c.w) (with_parity c.n c.words) sound short (omega arith, omega arith) (length-with_parity c.n c.words)
    (ascending-with_parity c.n c.words sound.ascending) (IsCode-with_parity c.n c.d c.w c.words sound.code)
