-- Codes of few words, as the program keeps them: one word, two opposite ones, and words of ones side by side.
use Rattle.std.proofs.Common.{◌≡◌, ℕ, zero, suc, ◌+◌, ◌-◌, ◌*◌, ◌/◌, ◌^◌, ◌%◌, ◌<◌, ◌≤◌, List, [], ◌∷◌, ◌++◌, length, Option, Some, None, nat_cmp, ap, ◌∙◌, arith, pow_pos, pow_mono}
use Rattle.std.specs.Prelude.{IsPermutation}
use Rattle.std.specs.Option.{unwrap_or}
use Rattle.std.specs.List.Sorted.{IsSorted, IsStrictlyIncreasing}
use Rattle.std.proofs.Math.Nat.{div-add-mod'}
use Rattle.std.proofs.Math.Pow.{ones_lt}
use Rattle.std.proofs.Math.Seq.{append_snoc}
use Rattle.std.proofs.lemmas.Nat.{le-div}
use Rattle.std.proofs.lemmas.List.Sorted.{length_permutation}
use Rattle.ct_words.specs.declared.limits.TheConstants.{MAX_N}
use Rattle.ct_words.proofs.WordLemmas.{weight-ones}
use Rattle.ct_words.specs.declared.entry.Entry.{Entry}
use Rattle.ct_words.specs.Entry.{IsEntry}
use Rattle.ct_words.specs.Code.{IsCode, IsSoundCode}
use Rattle.ct_words.proofs.BoundLemmas.{one_word_code}
use Rattle.ct_words.proofs.EntryLemmas.{WeightFits, entry_limits}
use Rattle.ct_words.specs.Constructions.Joined.{followed_by}
use Rattle.ct_words.specs.Constructions.Translation.{all_ones}
use Rattle.ct_words.proofs.Constructions.JoinedLemmas.{followed_by-lt}
use Rattle.ct_words.proofs.Constructions.SortedCodes.{sound_from_sort}
use Rattle.ct_rule_parts.proofs.Constructions.{IsCode-two}
use Rattle.ct_weight_rules.proofs.DisjointWords.{side_by_side, length-side_by_side, IsCode-side_by_side}

-- a word of the weight of an entry
pub sound_word : (e : Entry) → IsEntry e
    → IsSoundCode (record { n = e.n; d = e.d; w = e.w; words = all_ones (unwrap_or e.w 0) ∷ [] })
sound_word e entry =
    let limits = entry_limits e entry in
    let near = limits.distance_from in
    let far = limits.distance_to in
    record {
      length_in_range = (limits.length_from, limits.length_to);
      distance_in_range = (omega arith, omega arith);
      some = omega arith;
      ascending = λ k within. absurd (omega arith);
      code = word e.w limits.weight;
    }
  where
    word : (w : Option ℕ) → WeightFits e w → IsCode e.n e.d w (all_ones (unwrap_or w 0) ∷ [])
    word None fits = one_word_code e.n e.d None 0 (pow_pos e.n) tt
    word (Some k) fits =
        let some = pow_pos k in
        let below = pow_mono fits.2 in
        one_word_code e.n e.d (Some k) (all_ones k) (omega arith) (weight-ones e.n k fits.2)

-- two numbers that ascend
two_ascend : (x y : ℕ) → x < y → IsStrictlyIncreasing (x ∷ y ∷ [])
two_ascend x y less zero within = less
two_ascend x y less (suc k) within = absurd (omega arith)

-- the words 0..0 and 1..1
pub sound_opposite : (n d : ℕ) → (1 ≤ n) × (n ≤ MAX_N) → (1 ≤ d) × (d ≤ n)
    → IsSoundCode (record { n = n; d = d; w = None; words = 0 ∷ all_ones n ∷ [] })
sound_opposite n d long far =
    let all = pow_mono {i = 1} {j = n} long.0 in
    let short = long.1 in
    record {
      length_in_range = long;
      distance_in_range = (far.0, omega arith);
      some = omega arith;
      ascending = two_ascend 0 (all_ones n) (omega arith);
      code = IsCode-two n d long.0 far.1;
    }

-- words of w ones side by side, sorted
pub sound_side_by_side : (n w : ℕ) (words : List ℕ) → (1 ≤ w) × (w ≤ n) → n ≤ MAX_N → IsPermutation (side_by_side w (n / w)) words
    → IsSorted nat_cmp words → IsSoundCode (record { n = n; d = 2 * w; w = Some w; words = words })
sound_side_by_side n w words some short moved sorted =
    let parts = div-add-mod' n w in
    let count = length-side_by_side w (n / w) in
    let one = le-div 1 n w some.0 (omega arith) in
    sound_from_sort n (2 * w) (Some w) (side_by_side w (n / w)) words (omega arith, short) (omega arith, omega arith) (omega arith)
    (IsCode-side_by_side n w (n / w) some.0 (omega arith)) moved sorted

-- there are ⌊n/w⌋ of them
pub length-sorted_side_by_side : (w k : ℕ) (words : List ℕ) → IsPermutation (side_by_side w k) words → length words ≡ k
length-sorted_side_by_side w k words moved =
    length_permutation (side_by_side w k) words moved ∙ length-side_by_side w k

-- w ones with w·k places behind them, as 32 bits have them
block_value : (w k y : ℕ) → w * suc k ≤ MAX_N → y ≡ all_ones w → y * 2 ^ (w * k) % 4294967296 ≡ followed_by (w * k) (all_ones w) 0
block_value w k y short is =
    let below = followed_by-lt w (w * k) (all_ones w) 0 (ones_lt w) (pow_pos (w * k)) in
    let powers = pow_mono {i = w + w * k} {j = MAX_N} (omega arith) in
    let value = ap (λ z. z * 2 ^ (w * k)) is in
    omega arith

-- one block more in front of those that are still to come
pub blocks_step : (w k y : ℕ) (front all : List ℕ) → 0 < k → w * k ≤ MAX_N → y ≡ all_ones w → front ++ side_by_side w k ≡ all
    → (front ++ y * 2 ^ (w * (k - 1)) % 4294967296 ∷ []) ++ side_by_side w (k - 1) ≡ all
blocks_step w zero y front all some short is before = absurd (omega arith)
blocks_step w (suc k) y front all some short is before =
    let less : suc k - 1 ≡ k = omega arith in
    ap (λ j. (front ++ y * 2 ^ (w * j) % 4294967296 ∷ []) ++ side_by_side w j) less
    ∙ append_snoc front (y * 2 ^ (w * k) % 4294967296) (side_by_side w k)
    ∙ ap (λ x. front ++ x ∷ side_by_side w k) (block_value w k y short is) ∙ before
