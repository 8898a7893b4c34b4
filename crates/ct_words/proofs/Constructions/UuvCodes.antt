-- The words u followed by u + v, for u and v of two codes, are a code.
use Rattle.std.proofs.Common.{◌≡◌, ℕ, ◌+◌, ◌*◌, ◌^◌, ◌<◌, ◌≤◌, List, [], ◌∷◌, length, get_or, map, min, bit_xor, All, ap, sym, subst, ◌∙◌, inl, inr, arith, length-append}
use Rattle.std.specs.Prelude.{◌⊎◌, AllPairs, Option, None}
use Rattle.std.proofs.lemmas.List.{length-map}
use Rattle.std.proofs.lemmas.List.Elements.{All-nil, All-append, All-map, All-head, All-tail}
use Rattle.std.proofs.lemmas.Nat.{xor_lt, xor_comm}
use Rattle.ct_words.proofs.Counting.Pairs.{AllPairs-head, AllPairs-tail, AllPairs-append, AllPairs-map, AllPairs-within, AllPairs-others}
use Rattle.ct_words.specs.Word.{distance, IsSum}
use Rattle.ct_words.proofs.WordLemmas.{IsSum-bit_xor, distance_same, distance_comm, distance-triangle, distance-sum}
use Rattle.ct_words.specs.Code.{IsCode}
use Rattle.ct_words.specs.Constructions.Joined.{followed_by}
use Rattle.ct_words.specs.Constructions.Uuv.{uuv_words}
use Rattle.ct_words.proofs.Constructions.JoinedLemmas.{followed_by-lt, distance-followed_by}
use Rattle.ct_words.proofs.Constructions.FarWords.{AreFar, AreFar-turned, far_from_code, code_from_far}

-- u followed by u + v
abbrev uuv_word : ℕ → ℕ → ℕ → ℕ
uuv_word n u v = followed_by n u (bit_xor u v)

-- there is one word for each pair of words
pub length-uuv_words : (n : ℕ) (us vs : List ℕ) → length (uuv_words n us vs) ≡ length us * length vs
length-uuv_words n [] vs = omega arith
length-uuv_words n (u ∷ us) vs =
    let rest = length-uuv_words n us vs in
    let row = length-map vs (uuv_word n u) in
    length-append (map (uuv_word n u) vs) (uuv_words n us vs) ∙ omega arith

-- what holds of each pair of words holds of all words that they give
All-uuv : (P Q R : ℕ → Type 0) (n : ℕ) → ((u v : ℕ) → P u → Q v → R (uuv_word n u v))
    → (us vs : List ℕ) → All P us → All Q vs → All R (uuv_words n us vs)
All-uuv P Q R n given [] vs first second = All-nil R
All-uuv P Q R n given (u ∷ us) vs first second =
    All-append R (map (uuv_word n u) vs) (uuv_words n us vs)
    (All-map R (uuv_word n u) vs (λ k d l. given u (get_or vs k d) (All-head P u us first) (second k d l)))
    (All-uuv P Q R n given us vs (All-tail P u us first) second)

-- the sum from the other side
sum_turned : (n u v : ℕ) → u < 2 ^ n → v < 2 ^ n → IsSum n v u (bit_xor u v)
sum_turned n u v h k = subst (IsSum n v u) (xor_comm v u) (IsSum-bit_xor n v u k h)

-- sums with the same word are as far apart as the words
distance-same_first : (n u v v' : ℕ) → u < 2 ^ n → v < 2 ^ n → v' < 2 ^ n → distance n (bit_xor u v) (bit_xor u v') ≡ distance n v v'
distance-same_first n u v v' h k k' = distance-sum n v v' u (bit_xor u v) (bit_xor u v') (sum_turned n u v h k) (sum_turned n u v' h k')

distance-same_second : (n u u' v : ℕ) → u < 2 ^ n → u' < 2 ^ n → v < 2 ^ n → distance n (bit_xor u v) (bit_xor u' v) ≡ distance n u u'
distance-same_second n u u' v h h' k = distance-sum n u u' v (bit_xor u v) (bit_xor u' v) (IsSum-bit_xor n u v h k) (IsSum-bit_xor n u' v h' k)

-- two words v are no further apart than two words u and their sums together
distance-of_sums : (n u v u' v' : ℕ) → u < 2 ^ n → v < 2 ^ n → u' < 2 ^ n → v' < 2 ^ n
    → distance n v v' ≤ distance n u u' + distance n (bit_xor u v) (bit_xor u' v')
distance-of_sums n u v u' v' h k h' k' =
    let first = distance-same_first n u v v' h k k' in
    let second = distance-same_second n u u' v' h h' k' in
    let turned = distance_comm n (bit_xor u v') (bit_xor u' v') in
    let way = distance-triangle n (bit_xor u v) (bit_xor u' v') (bit_xor u v') in
    omega arith

-- the distance of two words u followed by u + v
distance-uuv : (n u v u' v' : ℕ) → u < 2 ^ n → v < 2 ^ n → u' < 2 ^ n → v' < 2 ^ n
    → distance (2 * n) (uuv_word n u v) (uuv_word n u' v') ≡ distance n u u' + distance n (bit_xor u v) (bit_xor u' v')
distance-uuv n u v u' v' h k h' k' =
    let twice : 2 * n ≡ n + n = omega arith in
    ap (λ m. distance m (uuv_word n u v) (uuv_word n u' v')) twice
    ∙ distance-followed_by n n u (bit_xor u v) u' (bit_xor u' v') (xor_lt n u v h k) (xor_lt n u' v' h' k')

-- two words with the same u
far_same_first : (n d e u v v' : ℕ) → u < 2 ^ n → v < 2 ^ n → v' < 2 ^ n → AreFar n e v v'
    → AreFar (2 * n) (min (2 * d) e) (uuv_word n u v) (uuv_word n u v')
far_same_first n d e u v v' h k k' far =
    let whole = distance-uuv n u v u v' h k h k' in
    let none = distance_same n u in
    let sums = distance-same_first n u v v' h k k' in
    let some = far.0 in
    let apart = far.1 in
    (omega arith, omega arith)

-- two words with different u
far_other_first : (n d e u v u' v' : ℕ) → u < 2 ^ n → v < 2 ^ n → u' < 2 ^ n → v' < 2 ^ n
    → AreFar n d u u' → (v ≡ v') ⊎ AreFar n e v v' → AreFar (2 * n) (min (2 * d) e) (uuv_word n u v) (uuv_word n u' v')
far_other_first n d e u v u' v' h k h' k' far (inl same) =
    let whole = distance-uuv n u v u' v' h k h' k' in
    let sums = ap (λ z. distance n (bit_xor u v) (bit_xor u' z)) (sym same) ∙ distance-same_second n u u' v h h' k in
    let some = far.0 in
    let apart = far.1 in
    (omega arith, omega arith)
far_other_first n d e u v u' v' h k h' k' far (inr other) =
    let whole = distance-uuv n u v u' v' h k h' k' in
    let sums = distance-of_sums n u v u' v' h k h' k' in
    let some = other.0 in
    let apart = other.1 in
    (omega arith, omega arith)

-- so all words are far from each other
far_uuv : (n d e : ℕ) (us vs : List ℕ) → All (λ u. u < 2 ^ n) us → All (λ v. v < 2 ^ n) vs → AllPairs (AreFar n d) us → AllPairs (AreFar n e) vs
    → AllPairs (AreFar (2 * n) (min (2 * d) e)) (uuv_words n us vs)
far_uuv n d e [] vs below below' far far' = λ i j z order within. absurd (omega arith)
far_uuv n d e (u ∷ us) vs below below' far far' =
    AllPairs-append R (map (uuv_word n u) vs) (uuv_words n us vs) row
    (far_uuv n d e us vs rest below' (AllPairs-tail (AreFar n d) u us far) far') across
  where
    R : ℕ → ℕ → Type 0
    R = AreFar (2 * n) (min (2 * d) e)

    first : u < 2 ^ n
    first = All-head (λ x. x < 2 ^ n) u us below

    rest : All (λ x. x < 2 ^ n) us
    rest = All-tail (λ x. x < 2 ^ n) u us below

    row : AllPairs R (map (uuv_word n u) vs)
    row = AllPairs-map R (uuv_word n u) vs
        (AllPairs-within (λ v. v < 2 ^ n) (AreFar n e) (λ v v'. R (uuv_word n u v) (uuv_word n u v')) vs
        (λ v v' k k' h. far_same_first n d e u v v' first k k' h) below' far')

    across : All (λ x. All (R x) (uuv_words n us vs)) (map (uuv_word n u) vs)
    across = All-map (λ x. All (R x) (uuv_words n us vs)) (uuv_word n u) vs (λ k z within.
        All-uuv (λ u'. (u' < 2 ^ n) × AreFar n d u u') (λ v'. (v' < 2 ^ n) × ((get_or vs k z ≡ v') ⊎ AreFar n e (get_or vs k z) v'))
        (R (uuv_word n u (get_or vs k z))) n
        (λ u' v' s t. far_other_first n d e u (get_or vs k z) u' v' first (below' k z within) s.0 t.0 s.1 t.1) us vs
        (λ i y l. (rest i y l, AllPairs-head (AreFar n d) u us far i y l))
        (λ i y l. (below' i y l, AllPairs-others (AreFar n e) vs (AreFar-turned n e) far' k z within i y l)))

-- the distance is the least of twice the first and the second one
pub IsCode-uuv : (n d : ℕ) (v : Option ℕ) (us : List ℕ) (e : ℕ) (w : Option ℕ) (vs : List ℕ)
    → IsCode n d v us → IsCode n e w vs → IsCode (2 * n) (min (2 * d) e) None (uuv_words n us vs)
IsCode-uuv n d v us e w vs first second =
    code_from_far (2 * n) (min (2 * d) e) None (uuv_words n us vs)
    (All-uuv (λ x. x < 2 ^ n) (λ y. y < 2 ^ n) (λ z. z < 2 ^ (2 * n)) n lengths us vs first.lengths second.lengths)
    (far_uuv n d e us vs first.lengths second.lengths (far_from_code n d v us first) (far_from_code n e w vs second))
    tt
  where
    lengths : (x y : ℕ) → x < 2 ^ n → y < 2 ^ n → uuv_word n x y < 2 ^ (2 * n)
    lengths x y h k =
        let twice : n + n ≡ 2 * n = omega arith in
        subst (λ m. uuv_word n x y < 2 ^ m) twice (followed_by-lt n n x (bit_xor x y) h (xor_lt n x y h k))
