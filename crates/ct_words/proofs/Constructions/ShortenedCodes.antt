-- A shortened code is a code.
use Rattle.std.proofs.Common.{◌≡◌, ◌≢◌, ℕ, zero, suc, min, ◌-◌, ◌+◌, ◌^◌, ◌<◌, ◌≤◌, List, [], ◌∷◌, length, get_or, All, refl, sym, ap, subst, ◌∙◌, arith, eqb-true}
use Rattle.std.specs.Prelude.{Bool, true, false, not, ◌&&◌, ◌==◌, cond, filter, count_by, Option, Some, None, IfSome}
use Rattle.std.specs.List.{zip}
use Rattle.std.specs.List.Sorted.{IsStrictlyIncreasing}
use Rattle.std.proofs.lemmas.Bool.{and_parts, eq-eqb, ne_eqb}
use Rattle.std.proofs.lemmas.List.{length-map}
use Rattle.std.proofs.lemmas.List.Elements.{All-from_get_or, All-nil, All-cons, All-head, All-tail, All-map, All-filter, filter_passes}
use Rattle.std.proofs.lemmas.List.Kept.{AllPairs-filter, IsStrictlyIncreasing-filter}
use Rattle.std.proofs.lemmas.List.Sums.{sum_by-cons, get_or-le-sum_by, length-filter, list_all-from_AllPass}
use Rattle.std.proofs.lemmas.List.Folds.{list_all_at}
use Rattle.std.proofs.lemmas.Slice.Zip.{length-zip, get_or-zip}
use Rattle.std.proofs.lemmas.List.Filters.{length-filter_both}
use Rattle.ct_words.proofs.Counting.Pairs.{AllPairs-map, AllPairs-within}
use Rattle.ct_words.specs.Word.{digit, weight}
use Rattle.ct_words.proofs.WordLemmas.{digit-lt}
use Rattle.ct_words.specs.Code.{IsCode, CodeValue, IsSoundCode}
use Rattle.ct_words.specs.Constructions.Places.{ArePlaces, other_places, read_at}
use Rattle.ct_words.specs.Constructions.Shortened.{has_digits, shortened, shortened_weight}
use Rattle.ct_words.proofs.Constructions.Images.{IsStrictlyIncreasing-map_within}
use Rattle.ct_words.proofs.Constructions.PlaceLemmas.{sum_by-other_places}
use Rattle.ct_words.proofs.Constructions.ReadLemmas.{weight-all, weight-read_at, read_at-others_order}
use Rattle.ct_words.proofs.Constructions.PuncturedCodes.{differing, other_places-size, punctured-lengths, distance-without}
use Rattle.ct_words.proofs.Constructions.FarWords.{AreFar, far_from_code, code_from_far}

-- two words that have the digits at the places have the same there
same_digits : (n x y : ℕ) (places digits : List ℕ) → length digits ≡ length places
    → has_digits n places digits x ≡ true → has_digits n places digits y ≡ true
    → All (λ p. digit n x p ≡ digit n y p) places
same_digits n x y [] digits long first second = All-nil (λ p. digit n x p ≡ digit n y p)
same_digits n x y (p ∷ ps) [] long first second = absurd (omega arith)
same_digits n x y (p ∷ ps) (a ∷ bs) long first second =
    let at_x = and_parts (digit n x p == a) (has_digits n ps bs x) first in
    let at_y = and_parts (digit n y p == a) (has_digits n ps bs y) second in
    All-cons (λ q. digit n x q ≡ digit n y q) p ps (eqb-true (digit n x p) a at_x.0 ∙ sym (eqb-true (digit n y p) a at_y.0))
    (same_digits n x y ps bs (omega arith) at_x.1 at_y.1)

-- so they do not differ there
differing-none : (n x y : ℕ) (places : List ℕ) → All (λ p. digit n x p ≡ digit n y p) places → differing n x y places ≡ 0
differing-none n x y [] same = refl
differing-none n x y (p ∷ ps) same =
    let P : ℕ → Type 0 = λ q. digit n x q ≡ digit n y q in
    let here : cond {A = ℕ} (not (digit n x p == digit n y p)) 1 0 ≡ 0 =
    ap (λ b. cond {A = ℕ} (not b) 1 0) (eq-eqb (digit n x p) (digit n y p) (All-head P p ps same)) in
    let rest = differing-none n x y ps (All-tail P p ps same) in
    let sum = sum_by-cons (λ q. cond {A = ℕ} (not (digit n x q == digit n y q)) 1 0) p ps in
    omega arith

-- the ones that such a word has there are those of the digits
ones-there : (n x : ℕ) (places digits : List ℕ) → length digits ≡ length places → has_digits n places digits x ≡ true
    → count_by (λ p. digit n x p == 1) places ≡ count_by (λ a. a == 1) digits
ones-there n x [] [] long has = refl
ones-there n x [] (a ∷ bs) long has = absurd (omega arith)
ones-there n x (p ∷ ps) [] long has = absurd (omega arith)
ones-there n x (p ∷ ps) (a ∷ bs) long has =
    let at = and_parts (digit n x p == a) (has_digits n ps bs x) has in
    let here : cond {A = ℕ} (digit n x p == 1) 1 0 ≡ cond {A = ℕ} (a == 1) 1 0 =
    ap (λ b. cond {A = ℕ} (b == 1) 1 0) (eqb-true (digit n x p) a at.0) in
    let rest = ones-there n x ps bs (omega arith) at.1 in
    let sum = sum_by-cons (λ q. cond {A = ℕ} (digit n x q == 1) 1 0) p ps in
    let total = sum_by-cons (λ b. cond {A = ℕ} (b == 1) 1 0) a bs in
    omega arith

-- so the other places keep the distance
far_shortened : (n d x y : ℕ) (places digits : List ℕ) → ArePlaces n places → length digits ≡ length places
    → has_digits n places digits x ≡ true → has_digits n places digits y ≡ true → AreFar n d x y
    → AreFar (n - length places) d (read_at n x (other_places n places)) (read_at n y (other_places n places))
far_shortened n d x y places digits are long first second far =
    let split = distance-without n x y places are in
    let none = differing-none n x y places (same_digits n x y places digits long first second) in
    let some = far.0 in
    let apart = far.1 in
    (omega arith, omega arith)

-- and have the weight less the ones among the digits
weight-without : (n x : ℕ) (places digits : List ℕ) → ArePlaces n places → length digits ≡ length places → has_digits n places digits x ≡ true
    → weight (n - length places) (read_at n x (other_places n places)) ≡ weight n x - count_by (λ a. a == 1) digits
weight-without n x places digits are long has =
    let ps = other_places n places in
    let split = sum_by-other_places (λ p. cond {A = ℕ} (digit n x p == 1) 1 0) n places are in
    let others : weight (n - length places) (read_at n x ps) ≡ count_by (λ p. digit n x p == 1) ps =
    subst (λ m. weight m (read_at n x ps) ≡ count_by (λ p. digit n x p == 1) ps) (other_places-size n places are) (weight-read_at n x ps) in
    let these = ones-there n x places digits long has in
    let all = weight-all n x in
    omega arith

-- each word of constant weight
weights-shortened : (n : ℕ) (w : Option ℕ) (words places digits : List ℕ) → ArePlaces n places → length digits ≡ length places
    → IfSome w (λ k. All (λ x. weight n x ≡ k) words)
    → IfSome (shortened_weight digits w) (λ k. All (λ z. weight (n - length places) z ≡ k) (shortened n places digits words))
weights-shortened n None words places digits are long weights = tt
weights-shortened n (Some w) words places digits are long weights =
    let test = has_digits n places digits in
    let kept = filter test words in
    let ones = count_by (λ a. a == 1) digits in
    All-map (λ z. weight (n - length places) z ≡ w - ones) (λ x. read_at n x (other_places n places)) kept
    (λ k d l. weight-without n (get_or kept k d) places digits are long (filter_passes test words k d l)
    ∙ ap (λ v. v - ones) (All-filter test (λ x. weight n x ≡ w) words weights k d l))

-- the words with the digits at the places, without these, are a code of the same distance
pub IsCode-shortened : (n d : ℕ) (w : Option ℕ) (words places digits : List ℕ) → ArePlaces n places → length digits ≡ length places
    → IsCode n d w words → IsCode (n - length places) d (shortened_weight digits w) (shortened n places digits words)
IsCode-shortened n d w words places digits are long code =
    let ps = other_places n places in
    let test = has_digits n places digits in
    let R = AreFar (n - length places) d in
    code_from_far (n - length places) d (shortened_weight digits w) (shortened n places digits words)
    (punctured-lengths n places (filter test words) are)
    (AllPairs-map R (λ x. read_at n x ps) (filter test words)
    (AllPairs-within (λ x. test x ≡ true) (AreFar n d) (λ x y. R (read_at n x ps) (read_at n y ps)) (filter test words)
    (λ x y p q far. far_shortened n d x y places digits are long p q far)
    (filter_passes test words)
    (AllPairs-filter (AreFar n d) test words (far_from_code n d w words code))))
    (weights-shortened n w words places digits are long code.weights)

-- they ascend where all words do
pub ascending-shortened : (n : ℕ) (words places digits : List ℕ) → ArePlaces n places → length digits ≡ length places
    → All (λ x. x < 2 ^ n) words → IsStrictlyIncreasing words → IsStrictlyIncreasing (shortened n places digits words)
ascending-shortened n words places digits are long lengths up =
    let test = has_digits n places digits in
    IsStrictlyIncreasing-map_within (λ x. (x < 2 ^ n) × (test x ≡ true)) (λ x. read_at n x (other_places n places))
    (filter test words)
    (λ x y p q less. read_at-others_order n x y places are (same_digits n x y places digits long p.1 q.1) p.0 q.0 less)
    (λ k d l. (All-filter test (λ x. x < 2 ^ n) words lengths k d l, filter_passes test words k d l))
    (IsStrictlyIncreasing-filter test words up)

-- where there are some, they are a code as the program keeps it
pub IsSoundCode-shortened : (c : CodeValue) (places digits : List ℕ) → IsSoundCode c → ArePlaces c.n places → length places < c.n
    → length digits ≡ length places → 1 ≤ length (shortened c.n places digits c.words)
    → IsSoundCode
    (record { n = c.n - length places; d = c.d; w = shortened_weight digits c.w; words = shortened c.n places digits c.words })
IsSoundCode-shortened c places digits sound are fewer long some =
    let lengths = sound.length_in_range in
    record {
      length_in_range = (omega arith, omega arith);
      distance_in_range = sound.distance_in_range;
      some = some;
      ascending = ascending-shortened c.n c.words places digits are long sound.code.lengths sound.ascending;
      code = IsCode-shortened c.n c.d c.w c.words places digits are long sound.code;
    }

-- where a word has the digits, words are left
pub shortened-some : (n : ℕ) (places digits words : List ℕ) (i d : ℕ) → i < length words → has_digits n places digits (get_or words i d) ≡ true
    → shortened n places digits words ≢ []
shortened-some n places digits words i d within has none =
    let test = has_digits n places digits in
    let kept = filter test words in
    let at_least = get_or-le-sum_by (λ x. cond {A = ℕ} (test x) 1 0) words i d within in
    let one = ap (λ b. cond {A = ℕ} b 1 0) has in
    let count = length-filter test words in
    let images = length-map kept (λ x. read_at n x (other_places n places)) in
    let size = ap (λ (xs : List ℕ). length xs) none in
    omega arith

-- each digit is the one that is given
pub has_digits-all : (n x : ℕ) (places digits : List ℕ) (m : ℕ) → m ≡ min (length places) (length digits)
    → ((k : ℕ) → k < m → digit n x (get_or places k 0) ≡ get_or digits k 0) → has_digits n places digits x ≡ true
has_digits-all n x places digits m all same =
    let test : ℕ × ℕ → Bool = λ t. digit n x t.0 == t.1 in
    list_all-from_AllPass test (zip places digits)
    (All-from_get_or (λ t. test t ≡ true) (zip places digits) (0, 0) (λ k l.
    let long = length-zip places digits in
    let first : k < length places = omega arith in
    let second : k < length digits = omega arith in
    ap test (get_or-zip places digits k (0, 0) first second)
    ∙ eq-eqb (digit n x (get_or places k 0)) (get_or digits k 0) (same k (omega arith))))

-- or one is not
pub has_digits-not : (n x : ℕ) (places digits : List ℕ) (k : ℕ) → k < length places → k < length digits
    → digit n x (get_or places k 0) ≢ get_or digits k 0 → has_digits n places digits x ≡ false
has_digits-not n x places digits k first second other =
    let test : ℕ × ℕ → Bool = λ t. digit n x t.0 == t.1 in
    let long = length-zip places digits in
    list_all_at test (zip places digits) k (0, 0) (omega arith)
    (ap test (get_or-zip places digits k (0, 0) first second) ∙ ne_eqb (digit n x (get_or places k 0)) (get_or digits k 0) other)

-- there are as many words as have the digits
pub length-shortened : (n : ℕ) (places digits words : List ℕ) → length (shortened n places digits words) ≡ count_by (has_digits n places digits) words
length-shortened n places digits words =
    length-map (filter (has_digits n places digits) words) (λ x. read_at n x (other_places n places)) ∙ length-filter (has_digits n places digits) words

-- a word has at one place either digit
other_digit : (n x p : ℕ) → has_digits n (p ∷ []) (1 ∷ []) x ≡ not (has_digits n (p ∷ []) (0 ∷ []) x)
other_digit n x p = go (digit n x p) (digit-lt n x p)
  where
    go : (a : ℕ) → a < 2 → (a == 1 && true) ≡ not (a == 0 && true)
    go zero h = refl
    go (suc zero) h = refl
    go (suc (suc a)) h = absurd (omega arith)

-- so the words with the one and those with the other are all
pub halves-shortened : (n p : ℕ) (words : List ℕ)
    → length (shortened n (p ∷ []) (0 ∷ []) words) + length (shortened n (p ∷ []) (1 ∷ []) words) ≡ length words
halves-shortened n p words =
    let zeros = length-shortened n (p ∷ []) (0 ∷ []) words in
    let ones = length-shortened n (p ∷ []) (1 ∷ []) words in
    let with_zero = length-filter (has_digits n (p ∷ []) (0 ∷ [])) words in
    let with_one = length-filter (has_digits n (p ∷ []) (1 ∷ [])) words in
    let both = length-filter_both (has_digits n (p ∷ []) (0 ∷ [])) (has_digits n (p ∷ []) (1 ∷ [])) (λ x. other_digit n x p) words in
    omega arith
