-- Words with one place taken out, and words counted by their digits at a place.
use Rattle.std.proofs.Common.{◌≡◌, ℕ, zero, suc, ◌+◌, ◌<◌, ◌≤◌, List, [], ◌∷◌, map, length, get_or, refl, ap, ◌∙◌, arith}
use Rattle.std.specs.Prelude.{Bool, true, false, cond, not, filter, count_by}
use Rattle.std.specs.List.{All, sum_by}
use Rattle.std.proofs.lemmas.List.{length-map}
use Rattle.std.proofs.lemmas.List.Elements.{All-map, All-filter, filter_passes, recursion_from_All}
use Rattle.std.proofs.lemmas.List.Filters.{length-filter_both}
use Rattle.std.proofs.lemmas.List.Kept.{AllPairs-filter}
use Rattle.std.proofs.lemmas.List.Sums.{length-filter}
use Rattle.ct_words.specs.Counting.Sums.{sum_below}
use Rattle.ct_words.specs.Counting.Words.{apart, ones}
use Rattle.ct_words.proofs.Counting.Sums.{sum_by-add, sum_by-zero, sum_by-congruence_within, sum_below-first}
use Rattle.ct_words.proofs.Counting.Pairs.{AllPairs-map, AllPairs-within}
use Rattle.ct_words.proofs.Counting.Places.{difference}
use Rattle.ct_words.proofs.Counting.Spread.{IsSpread, IsSpreadOfWeight}

-- the digit at a place, 0 past the end
abbrev pub digit_at : ℕ → List Bool → Bool
digit_at p [] = false
digit_at zero (a ∷ x) = a
digit_at (suc p) (a ∷ x) = digit_at p x

-- the word with a place taken out
abbrev pub without : ℕ → List Bool → List Bool
without p [] = []
without zero (a ∷ x) = x
without (suc p) (a ∷ x) = a ∷ without p x

-- it is one shorter
pub length-without : (p : ℕ) (x : List Bool) → p < length x → suc (length (without p x)) ≡ length x
length-without p [] h = absurd (omega arith)
length-without zero (a ∷ x) h = refl
length-without (suc p) (a ∷ x) h = let ih = length-without p x (omega arith) in omega arith

-- its weight is that of the word, less the digit
pub ones-without : (p : ℕ) (x : List Bool) → p < length x → cond (digit_at p x) 1 0 + ones (without p x) ≡ ones x
ones-without p [] h = absurd (omega arith)
ones-without zero (a ∷ x) h = refl
ones-without (suc p) (a ∷ x) h = let ih = ones-without p x (omega arith) in omega arith

-- and two words differ at the place, or elsewhere
pub apart-without : (p : ℕ) (x y : List Bool) → p < length x → length x ≡ length y → difference (digit_at p x) (digit_at p y) + apart (without p x) (without p y) ≡ apart x y
apart-without p [] y h e = absurd (omega arith)
apart-without p (a ∷ x) [] h e = absurd (omega arith)
apart-without zero (a ∷ x) (b ∷ y) h e = refl
apart-without (suc p) (a ∷ x) (b ∷ y) h e = let ih = apart-without p x y (omega arith) (omega arith) in omega arith

-- whether a digit is the one that is asked for
abbrev pub is_digit : Bool → Bool → Bool
is_digit true a = a
is_digit false a = not a

-- two digits that are the same one do not differ
difference_same : (b a c : Bool) → is_digit b a ≡ true → is_digit b c ≡ true → difference a c ≡ 0
difference_same true true true h k = refl
difference_same true true false h k = absurd cc
difference_same true false c h k = absurd cc
difference_same false false false h k = refl
difference_same false false true h k = absurd cc
difference_same false true c h k = absurd cc

-- a digit that is asked for counts what it is
digit_counts : (b a : Bool) → is_digit b a ≡ true → cond {A = ℕ} a 1 0 ≡ cond b 1 0
digit_counts true true h = refl
digit_counts true false h = absurd cc
digit_counts false false h = refl
digit_counts false true h = absurd cc

-- the words with this digit at the place, and the place taken out
abbrev pub shortened : ℕ → Bool → List (List Bool) → List (List Bool)
shortened p b cs = map (without p) (filter (λ x. is_digit b (digit_at p x)) cs)

-- how many there are
pub length-shortened : (p : ℕ) (b : Bool) (cs : List (List Bool)) → length (shortened p b cs) ≡ count_by (λ x. is_digit b (digit_at p x)) cs
length-shortened p b cs = length-map (filter (λ x. is_digit b (digit_at p x)) cs) (without p) ∙ length-filter (λ x. is_digit b (digit_at p x)) cs

-- each word has one of the two digits at the place
pub length-halves : (p : ℕ) (cs : List (List Bool)) → length (shortened p true cs) + length (shortened p false cs) ≡ length cs
length-halves p cs =
    let a = length-map (filter (λ x. is_digit true (digit_at p x)) cs) (without p) in
    let b = length-map (filter (λ x. is_digit false (digit_at p x)) cs) (without p) in
    let both = length-filter_both (λ x. is_digit true (digit_at p x)) (λ x. is_digit false (digit_at p x)) (λ x. refl) cs in
    omega arith

-- they are a code one shorter, as far apart
pub spread-shortened : (n d p : ℕ) (b : Bool) (cs : List (List Bool)) → p < suc n → IsSpread (suc n) d cs → IsSpread n d (shortened p b cs)
spread-shortened n d p b cs h spread =
    let has : List Bool → Bool = λ x. is_digit b (digit_at p x) in
    let P : List Bool → Type 0 = λ x. (length x ≡ suc n) × (has x ≡ true) in
    let lengths = All-filter has (λ x. length x ≡ suc n) cs spread.lengths in
    let distances = AllPairs-filter (λ x y. d ≤ apart x y) has cs spread.distances in
    let passes = filter_passes has cs in
    let each : All P (filter has cs) = λ k e l. (lengths k e l, passes k e l) in
    record {
      lengths =
          All-map (λ x. length x ≡ n) (without p) (filter has cs)
          (λ k e l. let long = lengths k e l in let less = length-without p (get_or (filter has cs) k e) (omega arith) in omega arith);
      distances =
          AllPairs-map (λ x y. d ≤ apart x y) (without p) (filter has cs)
          (AllPairs-within P (λ x y. d ≤ apart x y) (λ x y. d ≤ apart (without p x) (without p y)) (filter has cs)
          (λ x y q r far.
          let long = q.0 in
          let long_too = r.0 in
          let same = difference_same b (digit_at p x) (digit_at p y) q.1 r.1 in
          let split = apart-without p x y (omega arith) (omega arith) in
          omega arith) each distances);
    }

-- and where all have one weight, they have it less the digit
pub weight-shortened : (n d w v p : ℕ) (b : Bool) (cs : List (List Bool)) → p < suc n → cond b 1 0 + v ≡ w → IsSpreadOfWeight (suc n) d w cs → IsSpreadOfWeight n d v (shortened p b cs)
weight-shortened n d w v p b cs h e code =
    let has : List Bool → Bool = λ x. is_digit b (digit_at p x) in
    let lengths = All-filter has (λ x. length x ≡ suc n) cs code.spread.lengths in
    let weights = All-filter has (λ x. ones x ≡ w) cs code.weights in
    let passes = filter_passes has cs in
    record {
      spread = spread-shortened n d p b cs h code.spread;
      weights =
          All-map (λ x. ones x ≡ v) (without p) (filter has cs)
          (λ k z l.
          let x = get_or (filter has cs) k z in
          let long = lengths k z l in
          let weight = weights k z l in
          let counts = digit_counts b (digit_at p x) (passes k z l) in
          let split = ones-without p x (omega arith) in
          omega arith);
    }

-- the ones of a word, place by place
pub ones-places : (x : List Bool) → sum_below (λ p. cond (digit_at p x) 1 0) (length x) ≡ ones x
ones-places [] = refl
ones-places (a ∷ x) =
    let ih = ones-places x in
    let first = sum_below-first (λ p. cond (digit_at p (a ∷ x)) 1 0) (length x) in
    omega arith

-- sums over the numbers below a bound, and over a list, in either order
pub sum_below-sum_by : {X : Type 0} (f : ℕ → X → ℕ) (xs : List X) (n : ℕ) → sum_by (λ x. sum_below (λ p. f p x) n) xs ≡ sum_below (λ p. sum_by (f p) xs) n
sum_below-sum_by f xs zero = sum_by-zero xs
sum_below-sum_by {X} f xs (suc n) =
    let before : X → ℕ = λ x. sum_below (λ p. f p x) n in
    let split = sum_by-add before (f n) xs in
    let ih = sum_below-sum_by f xs n in
    omega arith

-- the ones of all words, counted place by place
pub ones-by_places : (n : ℕ) (cs : List (List Bool)) → All (λ x. length x ≡ n) cs → sum_by ones cs ≡ sum_below (λ p. length (shortened p true cs)) n
ones-by_places n cs lengths =
    let at : ℕ → List Bool → ℕ = λ p x. cond (digit_at p x) 1 0 in
    let word : List Bool → ℕ = λ x. sum_below (λ p. at p x) n in
    let here : (x : List Bool) → length x ≡ n → ones x ≡ word x =
    λ x long. let places = ones-places x in let same = ap (sum_below (λ p. at p x)) long in omega arith in
    let words = sum_by-congruence_within ones word cs (recursion_from_All (λ x. ones x ≡ word x) cs (λ k z l. here _ (lengths k z l))) in
    let turned = sum_below-sum_by at cs n in
    let counts = ap (λ (f : ℕ → ℕ). sum_below f n) (λ i p. length-shortened p true cs i) in
    omega arith
