-- Hamming's bound: the balls about the words of a code are disjoint parts of all words.
use Rattle.std.proofs.Common.{◌≡◌, ℕ, ◌*◌, ◌-◌, ◌/◌, ◌^◌, ◌<◌, ◌≤◌, List, length, get_or, subst, arith}
use Rattle.std.specs.Prelude.{Bool, ◌==◌, nat_le, count_by}
use Rattle.std.specs.List.{sum_by}
use Rattle.std.proofs.lemmas.Bool.{leb-true, lt-leb}
use Rattle.std.proofs.lemmas.List.Elements.{recursion_from_All}
use Rattle.std.proofs.lemmas.Nat.{le-div}
use Rattle.ct_words.proofs.Counting.Binomials.{one-le-volume}
use Rattle.ct_words.specs.Counting.Binomials.{choose, volume}
use Rattle.ct_words.specs.Counting.Words.{all_words, apart}
use Rattle.ct_words.proofs.Counting.Sums.{sum_by-congruence_within, sum_by-le_within, sum_by-constant}
use Rattle.ct_words.proofs.Counting.DoubleCounting.{count_by-swap, count_by-le_one}
use Rattle.ct_words.proofs.Counting.Distances.{apart_symmetric, apart_triangle}
use Rattle.ct_words.proofs.Counting.Words.{length-all_words, lengths-all_words, count_at_distance, count_in_ball}
use Rattle.ct_words.proofs.Counting.Spread.{IsSpread}

-- the words in a ball about a word of n digits
pub ball_size : (n e : ℕ) (c : List Bool) → length c ≡ n → count_by (λ x. nat_le (apart c x) e) (all_words n) ≡ volume n e
ball_size n e c h =
    let P : ℕ → Type 0 = λ m. count_by (λ x. nat_le (apart c x) e) (all_words m) ≡ volume m e in
    subst P h (count_in_ball c e)

-- the words at a distance from a word of n digits
pub sphere_size : (n j : ℕ) (c : List Bool) → length c ≡ n → count_by (λ x. apart c x == j) (all_words n) ≡ choose n j
sphere_size n j c h =
    let P : ℕ → Type 0 = λ m. count_by (λ x. apart c x == j) (all_words m) ≡ choose m j in
    subst P h (count_at_distance c j)

-- a word lies in at most one of the balls
pub one_ball : (n d e : ℕ) (cs : List (List Bool)) → 2 * e < d → IsSpread n d cs → (x : List Bool) → length x ≡ n → count_by (λ c. nat_le (apart c x) e) cs ≤ 1
one_ball n d e cs small spread x long =
    count_by-le_one (λ c. nat_le (apart c x) e) cs
    (λ i j z l m first.
    let a = spread.lengths i z (omega arith) in
    let b = spread.lengths j z m in
    let near = leb-true _ _ first in
    let far = spread.distances i j z l m in
    let through = apart_triangle (get_or cs i z) x (get_or cs j z) (omega arith) (omega arith) in
    let turned = apart_symmetric x (get_or cs j z) in
    lt-leb _ _ (omega arith))

-- the balls of the words of a code have no more words than there are
pub spread_balls : (n d e : ℕ) (cs : List (List Bool)) → 2 * e < d → IsSpread n d cs → length cs * volume n e ≤ 2 ^ n
spread_balls n d e cs small spread =
    let near : List Bool → List Bool → Bool = λ c x. nat_le (apart c x) e in
    let ball : List Bool → ℕ = λ c. count_by (near c) (all_words n) in
    let size : List Bool → ℕ = λ c. volume n e in
    let balls : List Bool → ℕ = λ x. count_by (λ c. near c x) cs in
    let one : List Bool → ℕ = λ x. 1 in
    let sizes : sum_by ball cs ≡ sum_by size cs =
    sum_by-congruence_within ball size cs (recursion_from_All (λ c. ball c ≡ size c) cs (λ k z l. ball_size n e _ (spread.lengths k z l))) in
    let within : sum_by balls (all_words n) ≤ sum_by one (all_words n) =
    sum_by-le_within balls one (all_words n)
    (recursion_from_All (λ x. balls x ≤ one x) (all_words n) (λ k z l. one_ball n d e cs small spread _ (lengths-all_words n k z l))) in
    let both = count_by-swap near cs (all_words n) in
    let count = sum_by-constant (volume n e) cs in
    let whole = sum_by-constant 1 (all_words n) in
    let all = length-all_words n in
    omega arith

-- Hamming's bound on words of n digits, each two of which have distance at least d
pub spread_hamming : (n d : ℕ) → 1 ≤ d → (cs : List (List Bool)) → IsSpread n d cs → length cs ≤ 2 ^ n / volume n ((d - 1) / 2)
spread_hamming n d h cs spread =
    let e = (d - 1) / 2 in
    le-div (length cs) (2 ^ n) (volume n e) (one-le-volume n e) (spread_balls n d e cs (omega arith) spread)
