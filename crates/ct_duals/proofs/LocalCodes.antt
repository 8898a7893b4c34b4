-- The words of a code of constant weight at one index from a word, that word added, read at its ones and then at its zeros: they are a
-- doubly constant code.
use Rattle.std.proofs.Common.{◌≡◌, ℕ, zero, suc, ◌+◌, ◌-◌, ◌*◌, ◌/◌, ◌%◌, ◌^◌, ◌<◌, ◌≤◌, Bool, true, false, not, ◌==◌, cond, List, [], ◌∷◌, ◌++◌, map, length, get_or, refl, sym, ap, ◌∙◌, subst, arith, length-append, eqb-true}
use Rattle.std.specs.Prelude.{Some, filter, bit_xor, count_by}
use Rattle.std.specs.List.{sum_by, All, AllPairs}
use Rattle.std.proofs.lemmas.List.Elements.{All-map, All-filter, All-head, All-tail, All-from_get_or, filter_passes}
use Rattle.std.proofs.lemmas.List.Sums.{sum_by-cons, sum_by-append, length-filter}
use Rattle.std.proofs.lemmas.Nat.{div-mul-add, mod-mul-add}
use Rattle.ct_words.specs.Counting.Words.{differ}
use Rattle.ct_words.specs.Word.{digit, weight, distance, IsSum}
use Rattle.ct_words.specs.PairProducts.{all_places}
use Rattle.ct_words.proofs.Counting.Sums.{sum_by-constant}
use Rattle.ct_words.proofs.TextLemmas.{length-tabulate, get_or-tabulate}
use Rattle.ct_words.proofs.WordLemmas.{digit-lt, weight-le, same_from_distance, distance_same, IsSum-bit_xor}
use Rattle.ct_words.specs.Code.{IsCode}
use Rattle.ct_words.specs.Constructions.Even.{even_from}
use Rattle.ct_words.specs.Constructions.Places.{read_at}
use Rattle.ct_words.specs.Constructions.Translation.{translated, selected}
use Rattle.ct_words.proofs.Constructions.Images.{IsCodeMap, IsCode-image}
use Rattle.ct_words.proofs.Constructions.ReadLemmas.{weight-all, distance-all, read_at-lt, read_at-append, weight-read_at, distance-read_at}
use Rattle.ct_words.proofs.Constructions.TranslationLemmas.{IsCode-selected}
use Rattle.ct_words.specs.Doubly.{IsDoubly}

-- whether the word x of length n has a one at the place
abbrev pub has_one : ℕ → ℕ → ℕ → Bool
has_one n x p = digit n x p == 1

-- the places where it has a one, and those where it has a zero
abbrev pub ones_of : ℕ → ℕ → List ℕ
ones_of n x = filter (has_one n x) (all_places n)

abbrev pub zeros_of : ℕ → ℕ → List ℕ
zeros_of n x = filter (λ p. not (has_one n x p)) (all_places n)

-- the word z read at the ones of x, and then at its zeros
abbrev pub read_about : ℕ → ℕ → ℕ → ℕ
read_about n x z = read_at n z (ones_of n x ++ zeros_of n x)

-- a sum over a list is one over those that pass a test and one over the others
split_first : (f : ℕ → ℕ) (p : ℕ) (these others ps : List ℕ) (b : Bool) → sum_by f these + sum_by f others ≡ sum_by f ps
    → sum_by f (cond b (p ∷ these) these) + sum_by f (cond (not b) (p ∷ others) others) ≡ sum_by f (p ∷ ps)
split_first f p these others ps true h =
    let first = sum_by-cons f p these in
    let whole = sum_by-cons f p ps in
    omega arith
split_first f p these others ps false h =
    let first = sum_by-cons f p others in
    let whole = sum_by-cons f p ps in
    omega arith

sum_by-split : (f : ℕ → ℕ) (a : ℕ → Bool) (ps : List ℕ) → sum_by f (filter a ps) + sum_by f (filter (λ p. not (a p)) ps) ≡ sum_by f ps
sum_by-split f a [] = refl
sum_by-split f a (p ∷ ps) = split_first f p (filter a ps) (filter (λ q. not (a q)) ps) ps (a p) (sum_by-split f a ps)

-- where c passes just where a and b differ, it passes as often where a passes as where a fails, but for what a and b count
balance_first : (c : ℕ → Bool) (p : ℕ) (these others : List ℕ) (a b : Bool) (s t : ℕ) → c p ≡ differ a b
    → count_by c these + t ≡ count_by c others + s
    → count_by c (cond a (p ∷ these) these) + (cond b 1 0 + t) ≡ count_by c (cond (not a) (p ∷ others) others) + (cond a 1 0 + s)
balance_first c p these others true true s t is h =
    let first = sum_by-cons (λ q. cond {A = ℕ} (c q) 1 0) p these in
    let here = ap (λ v. cond {A = ℕ} v 1 0) is in
    omega arith
balance_first c p these others true false s t is h =
    let first = sum_by-cons (λ q. cond {A = ℕ} (c q) 1 0) p these in
    let here = ap (λ v. cond {A = ℕ} v 1 0) is in
    omega arith
balance_first c p these others false true s t is h =
    let first = sum_by-cons (λ q. cond {A = ℕ} (c q) 1 0) p others in
    let here = ap (λ v. cond {A = ℕ} v 1 0) is in
    omega arith
balance_first c p these others false false s t is h =
    let first = sum_by-cons (λ q. cond {A = ℕ} (c q) 1 0) p others in
    let here = ap (λ v. cond {A = ℕ} v 1 0) is in
    omega arith

count_by-balance : (a b c : ℕ → Bool) (ps : List ℕ) → All (λ p. c p ≡ differ (a p) (b p)) ps
    → count_by c (filter a ps) + count_by b ps ≡ count_by c (filter (λ p. not (a p)) ps) + count_by a ps
count_by-balance a b c [] same = refl
count_by-balance a b c (p ∷ ps) same =
    let P : ℕ → Type 0 = λ q. c q ≡ differ (a q) (b q) in
    let rest = count_by-balance a b c ps (All-tail P p ps same) in
    let here = balance_first c p (filter a ps) (filter (λ q. not (a q)) ps) (a p) (b p) (count_by a ps) (count_by b ps) (All-head P p ps same) rest in
    ap (λ k. count_by c (filter a (p ∷ ps)) + k) (sum_by-cons (λ q. cond {A = ℕ} (b q) 1 0) p ps)
    ∙ here
    ∙ sym (ap (λ k. count_by c (filter (λ q. not (a q)) (p ∷ ps)) + k) (sum_by-cons (λ q. cond {A = ℕ} (a q) 1 0) p ps))

-- all places are below n
places_within : (n : ℕ) → All (λ p. p < n) (all_places n)
places_within n = All-from_get_or (λ p. p < n) (all_places n) 0 (λ k l.
    let long = length-tabulate (λ i. i) n in
    let within : k < n = omega arith in
    subst (λ q. q < n) (sym (get_or-tabulate (λ i. i) n k within)) within)

-- the sum of two words has a one where just one of them has
one-of_sum : (n x y z p : ℕ) → p < n → IsSum n y x z → has_one n z p ≡ differ (has_one n x p) (has_one n y p)
one-of_sum n x y z p within sum = ap (λ d. d == 1) (sum.digits p within) ∙ go (digit n y p) (digit n x p) (digit-lt n y p) (digit-lt n x p)
  where
    go : (a b : ℕ) → a < 2 → b < 2 → ((a + b) % 2 == 1) ≡ differ (b == 1) (a == 1)
    go zero zero p q = refl
    go zero (suc zero) p q = refl
    go (suc zero) zero p q = refl
    go (suc zero) (suc zero) p q = refl
    go (suc (suc a)) b p q = absurd (omega arith)
    go zero (suc (suc b)) p q = absurd (omega arith)
    go (suc zero) (suc (suc b)) p q = absurd (omega arith)

-- so the sum of two words of one weight has as many ones among the ones of either as among its zeros
ones-balanced : (n x y : ℕ) → x < 2 ^ n → y < 2 ^ n → weight n y ≡ weight n x
    → count_by (has_one n (bit_xor y x)) (ones_of n x) ≡ count_by (has_one n (bit_xor y x)) (zeros_of n x)
ones-balanced n x y below above same =
    let z = bit_xor y x in
    let sum = IsSum-bit_xor n y x above below in
    let within = places_within n in
    let each : All (λ p. has_one n z p ≡ differ (has_one n x p) (has_one n y p)) (all_places n) =
    λ k d l. one-of_sum n x y z (get_or (all_places n) k d) (within k d l) sum in
    let both = count_by-balance (has_one n x) (has_one n y) (has_one n z) (all_places n) each in
    let first = weight-all n x in
    let second = weight-all n y in
    omega arith

-- there are as many ones as the weight says, and the others are zeros
pub length-ones_of : (n x : ℕ) → length (ones_of n x) ≡ weight n x
length-ones_of n x =
    length-filter (has_one n x) (all_places n) ∙ sym (weight-all n x)

length-zeros_of : (n x : ℕ) → length (zeros_of n x) ≡ n - weight n x
length-zeros_of n x =
    let split = sum_by-split (λ _. 1) (has_one n x) (all_places n) in
    let these = sum_by-constant 1 (ones_of n x) in
    let others = sum_by-constant 1 (zeros_of n x) in
    let all = sum_by-constant 1 (all_places n) in
    let long = length-tabulate (λ i. i) n in
    let ones = length-ones_of n x in
    omega arith

length-places_of : (n x : ℕ) → length (ones_of n x ++ zeros_of n x) ≡ n
length-places_of n x =
    let both = length-append (ones_of n x) (zeros_of n x) in
    let ones = length-ones_of n x in
    let zeros = length-zeros_of n x in
    let few = weight-le n x in
    omega arith

-- what is read is a word of length n, and two words keep their distance
read_about-lt : (n x z : ℕ) → read_about n x z < 2 ^ n
read_about-lt n x z = subst (λ m. read_about n x z < 2 ^ m) (length-places_of n x) (read_at-lt n z (ones_of n x ++ zeros_of n x))

distance-read_about : (n x y z : ℕ) → distance n (read_about n x y) (read_about n x z) ≡ distance n y z
distance-read_about n x y z =
    let ps = ones_of n x ++ zeros_of n x in
    let f : ℕ → ℕ = λ p. cond {A = ℕ} (not (digit n y p == digit n z p)) 1 0 in
    subst (λ m. distance m (read_about n x y) (read_about n x z) ≡ distance n y z) (length-places_of n x)
    (distance-read_at n y z ps ∙ sum_by-append f (ones_of n x) (zeros_of n x) ∙ sum_by-split f (has_one n x) (all_places n) ∙ sym (distance-all n y z))

read_about-code : (n d x : ℕ) → IsCodeMap n (even_from d) n d (read_about n x)
read_about-code n d x = record {
  lengths = λ z p. read_about-lt n x z;
  different = λ y z p q same.
      same_from_distance n y z p q
      (sym (distance-read_about n x y z) ∙ ap (λ v. distance n v (read_about n x z)) same ∙ distance_same n (read_about n x z));
  apart = λ y z p q far. let here = distance-read_about n x y z in omega arith;
}

-- its first digits are read at the ones, and its last ones at the zeros
first-weight : (n w x z : ℕ) → weight n x ≡ w → weight w (read_about n x z / 2 ^ (n - w)) ≡ count_by (has_one n z) (ones_of n x)
first-weight n w x z is =
    let ones = ones_of n x in
    let zeros = zeros_of n x in
    let count = count_by (has_one n z) ones in
    let ones_are = length-ones_of n x ∙ is in
    let zeros_are = length-zeros_of n x ∙ ap (λ k. n - k) is in
    let front : read_about n x z / 2 ^ length zeros ≡ read_at n z ones =
    ap (λ v. v / 2 ^ length zeros) (read_at-append n z ones zeros)
    ∙ div-mul-add (read_at n z ones) (2 ^ length zeros) (read_at n z zeros) (read_at-lt n z zeros) in
    subst (λ m. weight m (read_about n x z / 2 ^ (n - w)) ≡ count) ones_are
    (subst (λ m. weight (length ones) (read_about n x z / 2 ^ m) ≡ count) zeros_are
    (ap (weight (length ones)) front ∙ weight-read_at n z ones))

last-weight : (n w x z : ℕ) → weight n x ≡ w → weight (n - w) (read_about n x z % 2 ^ (n - w)) ≡ count_by (has_one n z) (zeros_of n x)
last-weight n w x z is =
    let ones = ones_of n x in
    let zeros = zeros_of n x in
    let zeros_are = length-zeros_of n x ∙ ap (λ k. n - k) is in
    let back : read_about n x z % 2 ^ length zeros ≡ read_at n z zeros =
    ap (λ v. v % 2 ^ length zeros) (read_at-append n z ones zeros)
    ∙ mod-mul-add (read_at n z ones) (2 ^ length zeros) (read_at n z zeros) (read_at-lt n z zeros) in
    subst (λ m. weight m (read_about n x z % 2 ^ m) ≡ count_by (has_one n z) zeros) zeros_are
    (ap (weight (length zeros)) back ∙ weight-read_at n z zeros)

-- the words at an index, that word added, have as many ones among its ones and among its zeros as the index says
halves-selected : (n w x i : ℕ) (words : List ℕ) → x < 2 ^ n → weight n x ≡ w → All (λ y. y < 2 ^ n) words → All (λ y. weight n y ≡ w) words
    → All (λ z. (count_by (has_one n z) (ones_of n x) ≡ i) × (count_by (has_one n z) (zeros_of n x) ≡ i)) (selected n x (2 * i) words)
halves-selected n w x i words below is lengths weights = λ k d l.
    let z = get_or (selected n x (2 * i) words) k d in
    let balanced : count_by (has_one n z) (ones_of n x) ≡ count_by (has_one n z) (zeros_of n x) = kept k d l in
    let heavy = eqb-true (weight n z) (2 * i) (filter_passes test (translated x words) k d l) in
    let split = sum_by-split (λ p. cond {A = ℕ} (has_one n z p) 1 0) (has_one n x) (all_places n) in
    let whole = weight-all n z in
    (omega arith, omega arith)
  where
    test : ℕ → Bool
    test z = weight n z == 2 * i

    IsBalanced : ℕ → Type 0
    IsBalanced z = count_by (has_one n z) (ones_of n x) ≡ count_by (has_one n z) (zeros_of n x)

    kept : All IsBalanced (selected n x (2 * i) words)
    kept =
        All-filter test IsBalanced (translated x words) (All-map IsBalanced (λ y. bit_xor y x) words
        (λ k d l. ones-balanced n x (get_or words k d) below (lengths k d l) (weights k d l ∙ sym is)))

-- about a word of weight w the words of a code at index i make a doubly constant code of (w,i,n - w,i,d)
pub IsDoubly-about : (n d w x i : ℕ) (words : List ℕ) → x < 2 ^ n → weight n x ≡ w → IsCode n d (Some w) words
    → IsDoubly w i (n - w) i d (map (read_about n x) (selected n x (2 * i) words))
IsDoubly-about n d w x i words below is code =
    let zs = selected n x (2 * i) words in
    let images = map (read_about n x) zs in
    let image = IsCode-image n (even_from d) n d (Some (2 * i)) (read_about n x) zs (read_about-code n d x)
    (IsCode-selected n d x (2 * i) (Some w) words below code) in
    let halves = halves-selected n w x i words below is code.lengths code.weights in
    let few = weight-le n x in
    let size : n ≡ w + (n - w) = omega arith in
    record {
      lengths = subst (λ m. All (λ z. z < 2 ^ m) images) size image.lengths;
      different = image.different;
      apart = subst (λ m. AllPairs (λ y z. d ≤ distance m y z) images) size image.apart;
      first_weights = All-map (λ z. weight w (z / 2 ^ (n - w)) ≡ i) (read_about n x) zs (λ k o l. first-weight n w x (get_or zs k o) is ∙ (halves k o l).0);
      last_weights = All-map (λ z. weight (n - w) (z % 2 ^ (n - w)) ≡ i) (read_about n x) zs (λ k o l. last-weight n w x (get_or zs k o) is ∙ (halves k o l).1);
    }
