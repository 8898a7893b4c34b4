-- All words of a length as lists of digits, and how many of them have a weight or lie at a distance.
use Rattle.std.proofs.Common.{◌≡◌, ◌≢◌, ℕ, zero, suc, ◌+◌, ◌^◌, List, [], ◌∷◌, map, length, get_or, refl, ap, ◌∙◌, arith, length-append}
use Rattle.std.specs.Prelude.{Bool, true, false, cond, ◌==◌, nat_le, count_by}
use Rattle.std.specs.List.{All, AllPairs, Contains}
use Rattle.std.proofs.Math.Nat.{pow-suc}
use Rattle.std.proofs.lemmas.List.{length-map, get_or-map}
use Rattle.std.proofs.lemmas.List.Elements.{All-append, All-map, All-cons, Contains-append_left, Contains-append_right}
use Rattle.std.proofs.lemmas.List.Sums.{sum_by-append}
use Rattle.std.proofs.lemmas.Bool.Decides.{nat_tests}
use Rattle.ct_words.specs.Counting.Binomials.{choose, volume}
use Rattle.ct_words.specs.Counting.Words.{all_words, ones, apart}
use Rattle.ct_words.proofs.Counting.Sums.{sum_by-map, sum_by-zero, sum_by-congruence, sum_below-congruence}
use Rattle.ct_words.proofs.Counting.Pairs.{AllPairs-append, AllPairs-map, AllPairs-weaker}
use Rattle.ct_words.proofs.Counting.DoubleCounting.{count_by-le}

-- there are 2 ^ n words of n digits
pub length-all_words : (n : ℕ) → length (all_words n) ≡ 2 ^ n
length-all_words zero = refl
length-all_words (suc n) =
    let ih = length-all_words n in
    let low = length-map (all_words n) (λ w. false ∷ w) in
    let high = length-map (all_words n) (λ w. true ∷ w) in
    let joined = length-append (map (λ w. false ∷ w) (all_words n)) (map (λ w. true ∷ w) (all_words n)) in
    let double = pow-suc 2 n in
    omega arith

-- each of them has n digits
pub lengths-all_words : (n : ℕ) → All (λ x. length x ≡ n) (all_words n)
lengths-all_words zero = All-cons (λ x. length x ≡ 0) [] [] refl (λ k d l. absurd (omega arith))
lengths-all_words (suc n) =
    let P : List Bool → Type 0 = λ x. length x ≡ suc n in
    let longer : (b : Bool) → All P (map (λ w. b ∷ w) (all_words n)) =
    λ b. All-map P (λ w. b ∷ w) (all_words n) (λ k d l. ap suc (lengths-all_words n k d l)) in
    All-append P (map (λ w. false ∷ w) (all_words n)) (map (λ w. true ∷ w) (all_words n)) (longer false) (longer true)

-- an element's image is among the images
pub Contains-map : {X Y : Type 0} (f : X → Y) (xs : List X) (x : X) → Contains xs x → Contains (map f xs) (f x)
Contains-map f xs x (k, l, at) =
    let image : get_or (map f xs) k (f x) ≡ f (get_or xs k x) = get_or-map f xs k x (f x) l in
    let same : f (get_or xs k x) ≡ f x = ap f at in
    (k, omega (arith, length-map xs f), image ∙ same)

-- each word is among those of its length
pub all_words-complete : (x : List Bool) → Contains (all_words (length x)) x
all_words-complete [] = (0, omega arith, refl)
all_words-complete (false ∷ x) =
    let ws = all_words (length x) in
    Contains-append_left (map (λ w. false ∷ w) ws) (map (λ w. true ∷ w) ws) (false ∷ x) (Contains-map (λ w. false ∷ w) ws x (all_words-complete x))
all_words-complete (true ∷ x) =
    let ws = all_words (length x) in
    Contains-append_right (map (λ w. false ∷ w) ws) (map (λ w. true ∷ w) ws) (true ∷ x) (Contains-map (λ w. true ∷ w) ws x (all_words-complete x))

-- no two of them are equal
pub all_words-distinct : (n : ℕ) → AllPairs (λ x y. x ≢ y) (all_words n)
all_words-distinct zero = λ i j d l m. absurd (omega arith)
all_words-distinct (suc n) =
    let R : List Bool → List Bool → Type 0 = λ x y. x ≢ y in
    let ws = all_words n in
    let longer : (b : Bool) → AllPairs R (map (λ w. b ∷ w) ws) =
    λ b. AllPairs-map R (λ w. b ∷ w) ws (AllPairs-weaker R (λ x y. b ∷ x ≢ b ∷ y) ws (λ x y ne same. ne cc) (all_words-distinct n)) in
    AllPairs-append R (map (λ w. false ∷ w) ws) (map (λ w. true ∷ w) ws) (longer false) (longer true)
    (All-map (λ x. All (R x) (map (λ w. true ∷ w) ws)) (λ w. false ∷ w) ws
    (λ k d l. All-map (R (false ∷ _)) (λ w. true ∷ w) ws (λ k' d' l' same. cc)))

-- the words of n + 1 digits that pass a test, by their first digit
pub count_by-all_words : (p : List Bool → Bool) (n : ℕ) → count_by p (all_words (suc n)) ≡ count_by (λ w. p (false ∷ w)) (all_words n) + count_by (λ w. p (true ∷ w)) (all_words n)
count_by-all_words p n =
    let term : List Bool → ℕ = λ w. cond (p w) 1 0 in
    let low = sum_by-map term (λ w. false ∷ w) (all_words n) in
    let high = sum_by-map term (λ w. true ∷ w) (all_words n) in
    let joined = sum_by-append term (map (λ w. false ∷ w) (all_words n)) (map (λ w. true ∷ w) (all_words n)) in
    omega arith

-- a count of a measure that is zero more
count_same : (f : List Bool → ℕ) (j : ℕ) (ws : List (List Bool)) → count_by (λ w. 0 + f w == j) ws ≡ count_by (λ w. f w == j) ws
count_same f j ws =
    sum_by-congruence (λ w. cond (0 + f w == j) 1 0) (λ w. cond (f w == j) 1 0) ws (λ w. grind (arith, nat_tests))

-- a count of a measure that is one more, at zero
count_one_more_zero : (f : List Bool → ℕ) (ws : List (List Bool)) → count_by (λ w. 1 + f w == 0) ws ≡ 0
count_one_more_zero f ws =
    sum_by-congruence (λ w. cond (1 + f w == 0) 1 0) (λ w. 0) ws (λ w. grind (arith, nat_tests)) ∙ sum_by-zero ws

-- a count of a measure that is one more, at one more
count_one_more : (f : List Bool → ℕ) (j : ℕ) (ws : List (List Bool)) → count_by (λ w. 1 + f w == suc j) ws ≡ count_by (λ w. f w == j) ws
count_one_more f j ws =
    sum_by-congruence (λ w. cond (1 + f w == suc j) 1 0) (λ w. cond (f w == j) 1 0) ws (λ w. grind (arith, nat_tests))

-- choose n k words of n digits have weight k
pub count_of_weight : (n k : ℕ) → count_by (λ x. ones x == k) (all_words n) ≡ choose n k
count_of_weight zero zero = refl
count_of_weight zero (suc k) = grind (arith, nat_tests)
count_of_weight (suc n) zero =
    let split = count_by-all_words (λ x. ones x == 0) n in
    let low = count_same ones 0 (all_words n) in
    let high = count_one_more_zero ones (all_words n) in
    let ih = count_of_weight n zero in
    omega arith
count_of_weight (suc n) (suc k) =
    let split = count_by-all_words (λ x. ones x == suc k) n in
    let low = count_same ones (suc k) (all_words n) in
    let high = count_one_more ones k (all_words n) in
    let a = count_of_weight n k in
    let b = count_of_weight n (suc k) in
    omega arith

-- choose n j words of n digits lie at distance j from one of them
pub count_at_distance : (c : List Bool) (j : ℕ) → count_by (λ x. apart c x == j) (all_words (length c)) ≡ choose (length c) j
count_at_distance [] zero = refl
count_at_distance [] (suc j) = grind (arith, nat_tests)
count_at_distance (false ∷ c) zero =
    let ws = all_words (length c) in
    let split = count_by-all_words (λ x. apart (false ∷ c) x == 0) (length c) in
    let low = count_same (apart c) 0 ws in
    let high = count_one_more_zero (apart c) ws in
    let ih = count_at_distance c zero in
    omega arith
count_at_distance (true ∷ c) zero =
    let ws = all_words (length c) in
    let split = count_by-all_words (λ x. apart (true ∷ c) x == 0) (length c) in
    let low = count_one_more_zero (apart c) ws in
    let high = count_same (apart c) 0 ws in
    let ih = count_at_distance c zero in
    omega arith
count_at_distance (false ∷ c) (suc j) =
    let ws = all_words (length c) in
    let split = count_by-all_words (λ x. apart (false ∷ c) x == suc j) (length c) in
    let low = count_same (apart c) (suc j) ws in
    let high = count_one_more (apart c) j ws in
    let a = count_at_distance c j in
    let b = count_at_distance c (suc j) in
    omega arith
count_at_distance (true ∷ c) (suc j) =
    let ws = all_words (length c) in
    let split = count_by-all_words (λ x. apart (true ∷ c) x == suc j) (length c) in
    let low = count_one_more (apart c) j ws in
    let high = count_same (apart c) (suc j) ws in
    let a = count_at_distance c j in
    let b = count_at_distance c (suc j) in
    omega arith

-- volume n e words of n digits lie within distance e of one of them
pub count_in_ball : (c : List Bool) (e : ℕ) → count_by (λ x. nat_le (apart c x) e) (all_words (length c)) ≡ volume (length c) e
count_in_ball c e =
    count_by-le (apart c) (all_words (length c)) e
    ∙ sum_below-congruence (λ j. count_by (λ x. apart c x == j) (all_words (length c))) (choose (length c)) (suc e) (λ j l. count_at_distance c j)
