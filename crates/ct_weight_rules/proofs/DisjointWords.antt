-- Words of w ones side by side: no two have a one in common.
use Rattle.std.proofs.Common.{◌≡◌, ℕ, zero, suc, ◌+◌, ◌-◌, ◌*◌, ◌/◌, ◌^◌, ◌<◌, ◌≤◌, List, [], ◌∷◌, length, get_or, All, AllPairs, bit_xor, refl, ap, subst, ◌∙◌, lt_of_lt_of_le, arith, pow_pos}
use Rattle.std.specs.Prelude.{Some}
use Rattle.std.specs.Int.Bits.{xor_zero_l}
use Rattle.std.proofs.Math.Nat.{pow-le-pow_right, div-add-mod'}
use Rattle.std.proofs.Math.Pow.{ones_lt}
use Rattle.std.proofs.lemmas.List.Elements.{All-nil, All-cons}
use Rattle.std.proofs.lemmas.List.Kept.{AllPairs-cons}
use Rattle.ct_words.specs.Word.{weight, distance}
use Rattle.ct_words.proofs.WordLemmas.{IsSum-bit_xor, distance-is_weight, distance_comm, weight_any_length, weight-ones}
use Rattle.ct_words.specs.Entry.{constant_weight}
use Rattle.ct_words.specs.Code.{IsCode, IsTrueLower}
use Rattle.ct_words.specs.Constructions.Joined.{followed_by}
use Rattle.ct_words.specs.Constructions.Translation.{all_ones}
use Rattle.ct_words.proofs.Constructions.FarWords.{AreFar, code_from_far}
use Rattle.ct_words.proofs.Constructions.JoinedLemmas.{followed_by-lt, weight-followed_by, distance-followed_by, words_wider}

-- k words of w ones each, side by side: behind the ones are w·(k - 1), .., 2w, w, 0 places
abbrev pub side_by_side : ℕ → ℕ → List ℕ
side_by_side w zero = []
side_by_side w (suc k) = followed_by (w * k) (all_ones w) 0 ∷ side_by_side w k

pub length-side_by_side : (w k : ℕ) → length (side_by_side w k) ≡ k
length-side_by_side w zero = refl
length-side_by_side w (suc k) = ap suc (length-side_by_side w k)

-- they have length w·k
block-lt : (w m : ℕ) → followed_by m (all_ones w) 0 < 2 ^ (w + m)
block-lt w m = followed_by-lt w m (all_ones w) 0 (ones_lt w) (pow_pos m)

lengths : (w k : ℕ) → All (λ x. x < 2 ^ (w * k)) (side_by_side w k)
lengths w zero = All-nil (λ x. x < 2 ^ (w * 0))
lengths w (suc k) =
    let longer : w + w * k ≡ w * suc k = omega arith in
    All-cons (λ x. x < 2 ^ (w * suc k)) (followed_by (w * k) (all_ones w) 0) (side_by_side w k)
    (subst (λ m. followed_by (w * k) (all_ones w) 0 < 2 ^ m) longer (block-lt w (w * k)))
    (words_wider (w * k) (w * suc k) (side_by_side w k) (omega arith) (lengths w k))

-- and weight w
weight-block : (n w m : ℕ) → w + m ≤ n → weight n (followed_by m (all_ones w) 0) ≡ w
weight-block n w m long =
    let powers : 2 ^ (w + m) ≤ 2 ^ n = pow-le-pow_right (omega arith) long in
    let below = block-lt w m in
    let front = weight-ones w w (omega arith) in
    let back = weight-ones m 0 (omega arith) in
    weight_any_length n (w + m) (followed_by m (all_ones w) 0) (lt_of_lt_of_le below powers) below
    ∙ weight-followed_by w m (all_ones w) 0 (pow_pos m) ∙ omega arith

weights : (w k n : ℕ) → w * k ≤ n → All (λ x. weight n x ≡ w) (side_by_side w k)
weights w zero n long = All-nil (λ x. weight n x ≡ w)
weights w (suc k) n long =
    All-cons (λ x. weight n x ≡ w) (followed_by (w * k) (all_ones w) 0) (side_by_side w k)
    (weight-block n w (w * k) (omega arith)) (weights w k n (omega arith))

-- the distance of a word from the word 0
distance-from_zero : (n x : ℕ) → x < 2 ^ n → distance n 0 x ≡ weight n x
distance-from_zero n x below =
    distance-is_weight n 0 x (bit_xor 0 x) (IsSum-bit_xor n 0 x (pow_pos n) below) ∙ ap (weight n) (xor_zero_l x)

-- a word of w ones with m places behind them, and a word of w ones at those places
distance-block : (l w m y : ℕ) → w ≤ l → y < 2 ^ m → weight m y ≡ w
    → distance (l + m) (followed_by m (all_ones w) 0) y ≡ 2 * w
distance-block l w m y long below ones =
    let powers : 2 ^ w ≤ 2 ^ l = pow-le-pow_right (omega arith) long in
    let alone : y ≡ followed_by m 0 y = omega arith in
    let front = distance_comm l (all_ones w) 0 ∙ distance-from_zero l (all_ones w) (lt_of_lt_of_le (ones_lt w) powers)
    ∙ weight-ones l w long in
    let back = distance-from_zero m y below ∙ ones in
    ap (distance (l + m) (followed_by m (all_ones w) 0)) alone
    ∙ distance-followed_by l m (all_ones w) 0 0 y (pow_pos m) below ∙ omega arith

-- so each two are 2w apart
far : (w k n : ℕ) → 1 ≤ w → w * k ≤ n → AllPairs (AreFar n (2 * w)) (side_by_side w k)
far w zero n some long = λ i j d order within. absurd (omega arith)
far w (suc k) n some long =
    AllPairs-cons (AreFar n (2 * w)) (followed_by (w * k) (all_ones w) 0) (side_by_side w k)
    (λ i d within.
    let apart =
    distance-block (n - w * k) w (w * k) (get_or (side_by_side w k) i d) (omega arith) (lengths w k i d within) (weights w k (w * k)
    (omega arith) i d within) in
    let whole : n - w * k + w * k ≡ n = omega arith in
    let here = rw whole at apart in
    (omega arith, omega arith))
    (far w k n some (omega arith))

-- where they fit into n places they are a code
pub IsCode-side_by_side : (n w k : ℕ) → 1 ≤ w → w * k ≤ n → IsCode n (2 * w) (Some w) (side_by_side w k)
IsCode-side_by_side n w k some long =
    code_from_far n (2 * w) (Some w) (side_by_side w k) (words_wider (w * k) n (side_by_side w k) long (lengths w k))
    (far w k n some long) (weights w k n long)

-- ⌊n/w⌋ words of weight w with no one in common
pub disjoint_code : (n w : ℕ) → 1 ≤ w → IsTrueLower (constant_weight n (2 * w) w) (n / w)
disjoint_code n w some =
    let k = n / w in
    let parts = div-add-mod' n w in
    let long : w * k ≤ n = omega arith in
    (side_by_side w k, IsCode-side_by_side n w k some long, length-side_by_side w k)
