-- Two codes put together word by word are a code.
use Rattle.std.proofs.Common.{◌≡◌, ℕ, zero, suc, ◌+◌, ◌^◌, ◌<◌, ◌≤◌, List, [], ◌∷◌, ◌++◌, length, take, get_or, min, All, refl, ap, ap₂, ◌∙◌, arith}
use Rattle.std.specs.Prelude.{AllPairs, Option, Some, None, IfSome}
use Rattle.std.specs.List.{zip}
use Rattle.std.specs.List.Sorted.{IsStrictlyIncreasing}
use Rattle.std.proofs.Math.Nat.{mul-le-mul_left}
use Rattle.std.proofs.lemmas.List.{length-map}
use Rattle.std.proofs.lemmas.List.Elements.{All-nil, All-cons, All-head, All-tail}
use Rattle.std.proofs.lemmas.List.Kept.{AllPairs-cons, AllPairs-from_increasing}
use Rattle.std.proofs.lemmas.Slice.Zip.{length-zip}
use Rattle.ct_words.proofs.Counting.Pairs.{AllPairs-head, AllPairs-tail}
use Rattle.ct_words.specs.Word.{weight}
use Rattle.ct_words.specs.declared.limits.TheConstants.{MAX_N}
use Rattle.ct_words.specs.declared.code.TheConstants.{MAX_CODE_DISTANCE}
use Rattle.ct_words.specs.Code.{IsCode, CodeValue, IsSoundCode}
use Rattle.ct_words.specs.Constructions.Joined.{followed_by}
use Rattle.ct_words.specs.Constructions.Juxtaposed.{juxtaposed, added_weights}
use Rattle.ct_words.proofs.Constructions.JoinedLemmas.{followed_by-lt, weight-followed_by, distance-followed_by}
use Rattle.ct_words.proofs.Constructions.FarWords.{AreFar, far_from_code, code_from_far}

-- there are as many words as in the smaller list
pub length-juxtaposed : (m : ℕ) (xs ys : List ℕ) → length (juxtaposed m xs ys) ≡ min (length xs) (length ys)
length-juxtaposed m xs ys = length-map (zip xs ys) (λ p. followed_by m p.0 p.1) ∙ length-zip xs ys

-- what holds of words of both lists holds of the words put together
pub All-juxtaposed : (P Q R : ℕ → Type 0) (m : ℕ) → ((x y : ℕ) → P x → Q y → R (followed_by m x y))
    → (xs ys : List ℕ) → All P xs → All Q ys → All R (juxtaposed m xs ys)
All-juxtaposed P Q R m joined [] ys first second = All-nil R
All-juxtaposed P Q R m joined (x ∷ xs) [] first second = All-nil R
All-juxtaposed P Q R m joined (x ∷ xs) (y ∷ ys) first second =
    All-cons R (followed_by m x y) (juxtaposed m xs ys)
    (joined x y (All-head P x xs first) (All-head Q y ys second))
    (All-juxtaposed P Q R m joined xs ys (All-tail P x xs first) (All-tail Q y ys second))

-- and so does what holds of two words of each list
pub AllPairs-juxtaposed : (Q : ℕ → Type 0) (S T R : ℕ → ℕ → Type 0) (m : ℕ)
    → ((x y x' y' : ℕ) → Q y → Q y' → S x x' → T y y' → R (followed_by m x y) (followed_by m x' y'))
    → (xs ys : List ℕ) → All Q ys → AllPairs S xs → AllPairs T ys → AllPairs R (juxtaposed m xs ys)
AllPairs-juxtaposed Q S T R m joined [] ys each first second = λ i j d order within. absurd (omega arith)
AllPairs-juxtaposed Q S T R m joined (x ∷ xs) [] each first second = λ i j d order within. absurd (omega arith)
AllPairs-juxtaposed Q S T R m joined (x ∷ xs) (y ∷ ys) each first second =
    AllPairs-cons R (followed_by m x y) (juxtaposed m xs ys)
    (All-juxtaposed (S x) (λ y'. Q y' × T y y') (R (followed_by m x y)) m
    (λ x' y' s t. joined x y x' y' (All-head Q y ys each) t.0 s t.1) xs ys
    (AllPairs-head S x xs first)
    (λ k d l. (All-tail Q y ys each k d l, AllPairs-head T y ys second k d l)))
    (AllPairs-juxtaposed Q S T R m joined xs ys (All-tail Q y ys each) (AllPairs-tail S x xs first) (AllPairs-tail T y ys second))

-- words of one weight each put together have the sum of the weights
weights-juxtaposed : (n m : ℕ) (v w : Option ℕ) (xs ys : List ℕ) → All (λ y. y < 2 ^ m) ys
    → IfSome v (λ k. All (λ x. weight n x ≡ k) xs) → IfSome w (λ k. All (λ y. weight m y ≡ k) ys)
    → IfSome (added_weights v w) (λ k. All (λ z. weight (n + m) z ≡ k) (juxtaposed m xs ys))
weights-juxtaposed n m None w xs ys lengths first second = tt
weights-juxtaposed n m (Some v) None xs ys lengths first second = tt
weights-juxtaposed n m (Some v) (Some w) xs ys lengths first second =
    All-juxtaposed (λ x. weight n x ≡ v) (λ y. (y < 2 ^ m) × (weight m y ≡ w)) (λ z. weight (n + m) z ≡ v + w) m
    (λ x y h k. weight-followed_by n m x y k.0 ∙ ap₂ (λ i j. i + j) h k.1) xs ys first (λ k d l. (lengths k d l, second k d l))

-- the lengths, the distances and the weights add up
pub IsCode-juxtaposed : (n d : ℕ) (v : Option ℕ) (xs : List ℕ) (m e : ℕ) (w : Option ℕ) (ys : List ℕ)
    → IsCode n d v xs → IsCode m e w ys → IsCode (n + m) (d + e) (added_weights v w) (juxtaposed m xs ys)
IsCode-juxtaposed n d v xs m e w ys first second =
    code_from_far (n + m) (d + e) (added_weights v w) (juxtaposed m xs ys)
    (All-juxtaposed (λ x. x < 2 ^ n) (λ y. y < 2 ^ m) (λ z. z < 2 ^ (n + m)) m (followed_by-lt n m) xs ys first.lengths second.lengths)
    (AllPairs-juxtaposed (λ y. y < 2 ^ m) (AreFar n d) (AreFar m e) (AreFar (n + m) (d + e)) m far xs ys second.lengths
    (far_from_code n d v xs first) (far_from_code m e w ys second))
    (weights-juxtaposed n m v w xs ys second.lengths first.weights second.weights)
  where
    far : (x y x' y' : ℕ) → y < 2 ^ m → y' < 2 ^ m → AreFar n d x x' → AreFar m e y y'
        → AreFar (n + m) (d + e) (followed_by m x y) (followed_by m x' y')
    far x y x' y' below below' one two =
        let sum = distance-followed_by n m x y x' y' below below' in
        let a = one.0 in
        let b = one.1 in
        let c = two.1 in
        (omega arith, omega arith)

-- a word whose first part is smaller is smaller
followed_by-order : (m x y x' y' : ℕ) → y < 2 ^ m → x < x' → followed_by m x y < followed_by m x' y'
followed_by-order m x y x' y' below less =
    let next : suc x ≤ x' = omega arith in
    let more = mul-le-mul_left (2 ^ m) next in
    omega arith

-- the words ascend where the first ones do
pub IsStrictlyIncreasing-juxtaposed : (m : ℕ) (xs ys : List ℕ) → IsStrictlyIncreasing xs → All (λ y. y < 2 ^ m) ys
    → IsStrictlyIncreasing (juxtaposed m xs ys)
IsStrictlyIncreasing-juxtaposed m xs ys ascending below = λ k within.
    AllPairs-juxtaposed (λ y. y < 2 ^ m) (λ x x'. x < x') (λ y y'. Unit {0}) (λ z z'. z < z') m
    (λ x y x' y' h h' less any. followed_by-order m x y x' y' h less) xs ys below
    (AllPairs-from_increasing xs ascending) (λ i j d order l. tt) k (k + 1) 0 (omega arith) within

-- one word more
pub juxtaposed-more : (m : ℕ) (xs ys : List ℕ) (k : ℕ) → k < length xs → k < length ys
    → juxtaposed m (take (suc k) xs) (take (suc k) ys) ≡ juxtaposed m (take k xs) (take k ys) ++ followed_by m (get_or xs k 0) (get_or ys k 0) ∷ []
juxtaposed-more m [] ys k first second = absurd (omega arith)
juxtaposed-more m (x ∷ xs) [] k first second = absurd (omega arith)
juxtaposed-more m (x ∷ xs) (y ∷ ys) zero first second = refl
juxtaposed-more m (x ∷ xs) (y ∷ ys) (suc k) first second =
    ap (λ (zs : List ℕ). followed_by m x y ∷ zs) (juxtaposed-more m xs ys k (omega arith) (omega arith))

-- and all of them
pub juxtaposed-all : (m : ℕ) (xs ys : List ℕ) (k : ℕ) → min (length xs) (length ys) ≤ k
    → juxtaposed m (take k xs) (take k ys) ≡ juxtaposed m xs ys
juxtaposed-all m [] ys zero all = refl
juxtaposed-all m [] ys (suc k) all = refl
juxtaposed-all m (x ∷ xs) [] zero all = refl
juxtaposed-all m (x ∷ xs) [] (suc k) all = refl
juxtaposed-all m (x ∷ xs) (y ∷ ys) zero all = absurd (omega arith)
juxtaposed-all m (x ∷ xs) (y ∷ ys) (suc k) all = ap (λ (zs : List ℕ). followed_by m x y ∷ zs) (juxtaposed-all m xs ys k (omega arith))

-- two codes of the program make one
pub IsSoundCode-juxtaposed : (a b : CodeValue) → IsSoundCode a → IsSoundCode b → a.n + b.n ≤ MAX_N → a.d + b.d ≤ MAX_CODE_DISTANCE
    → IsSoundCode (record { n = a.n + b.n; d = a.d + b.d; w = added_weights a.w b.w; words = juxtaposed b.n a.words b.words })
IsSoundCode-juxtaposed a b first second short near =
    let some = first.length_in_range.0 in
    let apart = first.distance_in_range.0 in
    let size = length-juxtaposed b.n a.words b.words in
    let a_some = first.some in
    let b_some = second.some in
    record {
      length_in_range = (omega arith, short);
      distance_in_range = (omega arith, near);
      some = omega arith;
      ascending = IsStrictlyIncreasing-juxtaposed b.n a.words b.words first.ascending second.code.lengths;
      code = IsCode-juxtaposed a.n a.d a.w a.words b.n b.d b.w b.words first.code second.code;
    }
