-- Words with one word added to each, and the codes that they make.
use Rattle.std.proofs.Common.{◌≡◌, ◌≢◌, ℕ, zero, suc, ◌+◌, ◌-◌, ◌*◌, ◌%◌, ◌^◌, ◌<◌, ◌≤◌, Bool, true, false, not, ◌==◌, bit_xor, cond, List, [], ◌∷◌, ◌++◌, take, length, get_or, Option, Some, None, All, IsPermutation, IsSorted, nat_cmp, refl, sym, ap, ◌∙◌, inl, inr, arith, append-nil, eq-eqb, ne_eqb, eqb-true}
use Rattle.std.specs.Option.{option_map}
use Rattle.std.specs.List.{filter}
use Rattle.std.proofs.Math.Pow.{ones_lt}
use Rattle.std.proofs.lemmas.Nat.{xor_lt}
use Rattle.std.proofs.lemmas.Nat.Bits.{bit_at_ones}
use Rattle.std.proofs.lemmas.List.{length-map, map_more}
use Rattle.std.proofs.lemmas.Bool.{cases_Bool}
use Rattle.std.proofs.lemmas.List.Elements.{All-filter, All-weaker, filter_passes, filter-append}
use Rattle.std.proofs.lemmas.List.Kept.{AllPairs-filter}
use Rattle.ct_words.proofs.Counting.Pairs.{AllPairs-within}
use Rattle.ct_words.specs.Word.{places, digit, weight, distance}
use Rattle.ct_words.proofs.WordLemmas.{one, digit-lt, weights_of_pair, IsSum-bit_xor, distance-sum, distance_same, same_from_distance}
use Rattle.ct_words.specs.Code.{IsCode, CodeValue, IsSoundCode}
use Rattle.ct_words.specs.Constructions.Even.{even_from}
use Rattle.ct_words.specs.Constructions.Translation.{translated, all_ones, complemented, selected}
use Rattle.ct_words.proofs.Constructions.SortedCodes.{sound_from_sort}
use Rattle.ct_words.proofs.Constructions.Images.{IsCodeMap, IsCode-image, IsCode-image_weighted}

-- a word added to two words keeps their distance
distance-translated : (n x y by : ℕ) → x < 2 ^ n → y < 2 ^ n → by < 2 ^ n → distance n (bit_xor x by) (bit_xor y by) ≡ distance n x y
distance-translated n x y by p q below =
    distance-sum n x y by (bit_xor x by) (bit_xor y by) (IsSum-bit_xor n x by p below) (IsSum-bit_xor n y by q below)

-- a word that is added to each
IsCodeMap-translation : (n d by : ℕ) → by < 2 ^ n → IsCodeMap n d n d (λ x. bit_xor x by)
IsCodeMap-translation n d by below = record {
  lengths = λ x p. xor_lt n x by p below;
  different = λ x y p q same.
      same_from_distance n x y p q
      (sym (distance-translated n x y by p q below) ∙ ap (λ z. distance n z (bit_xor y by)) same ∙ distance_same n (bit_xor y by));
  apart = λ x y p q far. let here = distance-translated n x y by p q below in omega arith;
}

-- the words of a code, a word added to each
pub IsCode-translated : (n d by : ℕ) (w : Option ℕ) (words : List ℕ) → by < 2 ^ n → IsCode n d w words → IsCode n d None (translated by words)
IsCode-translated n d by w words below code = IsCode-image n d n d w (λ x. bit_xor x by) words (IsCodeMap-translation n d by below) code

-- there are as many words as before
pub length-translated : (by : ℕ) (words : List ℕ) → length (translated by words) ≡ length words
length-translated by words = length-map words (λ x. bit_xor x by)

pub length-complemented : (n : ℕ) (words : List ℕ) → length (complemented n words) ≡ length words
length-complemented n words = length-translated (all_ones n) words

-- a test and its opposite pass at all places together
places_opposite : (f g : ℕ → Bool) (n : ℕ) → ((p : ℕ) → p < n → g p ≡ not (f p)) → places f n + places g n ≡ n
places_opposite f g zero each = refl
places_opposite f g (suc n) each =
    let before = places_opposite f g n (λ p h. each p (omega arith)) in
    let here = one_opposite (f n) (g n) (each n (omega arith)) in
    omega arith
  where
    one_opposite : (a b : Bool) → b ≡ not a → one a + one b ≡ 1
    one_opposite true b is = let other = ap one is in omega arith
    one_opposite false b is = let other = ap one is in omega arith

-- the weight of the complement
weight-complement : (n x : ℕ) → x < 2 ^ n → weight n (bit_xor x (all_ones n)) ≡ n - weight n x
unfolding weight
weight-complement n x below =
    let both = places_opposite (λ p. digit n x p == 1) (λ p. digit n (bit_xor x (all_ones n)) p == 1) n (λ p h.
    ap (λ q. q == 1) ((IsSum-bit_xor n x (all_ones n) below (ones_lt n)).digits p h ∙ ap (λ i. (digit n x p + i) % 2) (bit_at_ones n (n - 1 - p) (omega arith)))
    ∙ turned (digit n x p) (digit-lt n x p)) in
    omega arith
  where
    turned : (q : ℕ) → q < 2 → ((q + 1) % 2 == 1) ≡ not (q == 1)
    turned zero h = refl
    turned (suc zero) h = refl
    turned (suc (suc q)) h = absurd (omega arith)

-- the complements of a code's words
pub IsCode-complemented : (n d : ℕ) (w : Option ℕ) (words : List ℕ) → IsCode n d w words
    → IsCode n d (option_map (λ k. n - k) w) (complemented n words)
IsCode-complemented n d w words code =
    IsCode-image_weighted n d n d (λ k. n - k) w (λ x. bit_xor x (all_ones n)) words (IsCodeMap-translation n d (all_ones n) (ones_lt n)) (weight-complement n) code

-- two words of one weight have an even distance
even_gap : (d s k v w : ℕ) → v + w ≡ s + 2 * k → v ≡ w → d ≤ s → even_from d ≤ s
even_gap d s k v w both same far = omega arith

-- the words of one weight of a code
pub IsCode-of_weight : (n d w : ℕ) (words : List ℕ) → IsCode n d None words
    → IsCode n (even_from d) (Some w) (filter (λ x. weight n x == w) words)
IsCode-of_weight n d w words code =
    let passes : ℕ → Bool = λ x. weight n x == w in
    let each : All (λ x. weight n x ≡ w) (filter passes words) =
    All-weaker (λ x. passes x ≡ true) (λ x. weight n x ≡ w) (λ x h. eqb-true (weight n x) w h) (filter passes words) (filter_passes passes words) in
    record {
      lengths = All-filter passes (λ x. x < 2 ^ n) words code.lengths;
      different = AllPairs-filter (λ x y. x ≢ y) passes words code.different;
      apart = AllPairs-within (λ x. weight n x ≡ w) (λ x y. d ≤ distance n x y) (λ x y. even_from d ≤ distance n x y) (filter passes words)
          (λ x y p q far. even_gap d (distance n x y) _ (weight n x) (weight n y) (weights_of_pair n x y) (p ∙ sym q) far) each
          (AllPairs-filter (λ x y. d ≤ distance n x y) passes words code.apart);
      weights = each;
    }

-- the words of one weight, after a word is added to each
pub IsCode-selected : (n d by w : ℕ) (v : Option ℕ) (words : List ℕ) → by < 2 ^ n → IsCode n d v words
    → IsCode n (even_from d) (Some w) (selected n by w words)
IsCode-selected n d by w v words below code = IsCode-of_weight n d w (translated by words) (IsCode-translated n d by v words below code)

-- the digits of the all-one word
pub digit-all_ones : (n p : ℕ) → p < n → digit n (all_ones n) p ≡ 1
digit-all_ones n p within = bit_at_ones n (n - 1 - p) (omega arith)

-- the sums of a code's words and a word, sorted
pub sound-translated : (c : CodeValue) (by : ℕ) (ys : List ℕ) → IsSoundCode c → by < 2 ^ c.n → IsPermutation (translated by c.words) ys
    → IsSorted nat_cmp ys
    → IsSoundCode (record { n = c.n; d = c.d; w = None; words = ys })
sound-translated c by ys sound below moved sorted =
    let filled = sound.some in
    let as_many = length-translated by c.words in
    sound_from_sort c.n c.d None (translated by c.words) ys sound.length_in_range sound.distance_in_range (omega arith)
    (IsCode-translated c.n c.d by c.w c.words below sound.code) moved sorted

-- the complements of a code's words, sorted
pub sound-complemented : (c : CodeValue) (ys : List ℕ) → IsSoundCode c → IsPermutation (complemented c.n c.words) ys → IsSorted nat_cmp ys
    → IsSoundCode (record { n = c.n; d = c.d; w = option_map (λ k. c.n - k) c.w; words = ys })
sound-complemented c ys sound moved sorted =
    let filled = sound.some in
    let as_many = length-complemented c.n c.words in
    sound_from_sort c.n c.d (option_map (λ k. c.n - k) c.w) (complemented c.n c.words) ys sound.length_in_range sound.distance_in_range (omega arith)
    (IsCode-complemented c.n c.d c.w c.words sound.code) moved sorted

-- the words of one weight among such sums, where there is one, sorted
pub sound-selected : (c : CodeValue) (by w : ℕ) (ys : List ℕ) → IsSoundCode c → by < 2 ^ c.n → 1 ≤ length (selected c.n by w c.words)
    → IsPermutation (selected c.n by w c.words) ys → IsSorted nat_cmp ys
    → IsSoundCode (record { n = c.n; d = even_from c.d; w = Some w; words = ys })
sound-selected c by w ys sound below filled moved sorted =
    let far = sound.distance_in_range in
    let low = far.0 in
    let high = far.1 in
    sound_from_sort c.n (even_from c.d) (Some w) (selected c.n by w c.words) ys sound.length_in_range (omega arith, omega arith) filled
    (IsCode-selected c.n c.d by w c.w c.words below sound.code) moved sorted

-- one more word in the search for sums of one weight
pub selected-more_yes : (n by w : ℕ) (words : List ℕ) (i : ℕ) → i < length words → weight n (bit_xor (get_or words i 0) by) ≡ w
    → selected n by w (take (i + 1) words) ≡ selected n by w (take i words) ++ bit_xor (get_or words i 0) by ∷ []
selected-more_yes n by w words i within is =
    let passes : ℕ → Bool = λ x. weight n x == w in
    ap (filter passes) (map_more (λ x. bit_xor x by) words i 0 within)
    ∙ filter-append passes (translated by (take i words)) (bit_xor (get_or words i 0) by ∷ [])
    ∙ ap (λ b. selected n by w (take i words) ++ cond b (bit_xor (get_or words i 0) by ∷ []) []) (eq-eqb (weight n (bit_xor (get_or words i 0) by)) w is)

pub selected-more_no : (n by w : ℕ) (words : List ℕ) (i : ℕ) → i < length words → weight n (bit_xor (get_or words i 0) by) ≢ w
    → selected n by w (take (i + 1) words) ≡ selected n by w (take i words)
selected-more_no n by w words i within other =
    let passes : ℕ → Bool = λ x. weight n x == w in
    ap (filter passes) (map_more (λ x. bit_xor x by) words i 0 within)
    ∙ filter-append passes (translated by (take i words)) (bit_xor (get_or words i 0) by ∷ [])
    ∙ ap (λ b. selected n by w (take i words) ++ cond b (bit_xor (get_or words i 0) by ∷ []) []) (ne_eqb (weight n (bit_xor (get_or words i 0) by)) w other)
    ∙ append-nil (selected n by w (take i words))

-- a sum of the weight is among those that are selected
pub selected-some : (n by w : ℕ) (words : List ℕ) (i : ℕ) → i < length words → weight n (bit_xor (get_or words i 0) by) ≡ w
    → selected n by w words ≢ []
selected-some n by w [] i within is = absurd (omega arith)
selected-some n by w (x ∷ xs) zero within is = λ none.
    let first : selected n by w (x ∷ xs) ≡ bit_xor x by ∷ selected n by w xs = rw (eq-eqb (weight n (bit_xor x by)) w is) refl in
    cc
selected-some n by w (x ∷ xs) (suc i) within is = λ none. elim (cases_Bool (weight n (bit_xor x by) == w)) [
  | inl passes ↦ let first : selected n by w (x ∷ xs) ≡ bit_xor x by ∷ selected n by w xs = rw passes refl in cc
  | inr fails ↦
      let rest : selected n by w (x ∷ xs) ≡ selected n by w xs = rw fails refl in
      selected-some n by w xs i (omega arith) is (sym rest ∙ none)
]
