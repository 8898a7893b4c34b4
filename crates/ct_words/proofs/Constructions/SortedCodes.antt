-- The words of a code in order.
use Rattle.std.proofs.Common.{ℕ, ◌≤◌, List, length, get_or, nat_cmp, arith}
use Rattle.std.specs.Prelude.{Option, IsPermutation, ◌==◌}
use Rattle.std.specs.List.Sorted.{IsSorted, IsStrictlyIncreasing}
use Rattle.std.proofs.lemmas.Bool.{ne_eqb}
use Rattle.std.proofs.lemmas.List.Sorted.{IsNonDecreasingBy-from_sort, length_permutation}
use Rattle.std.proofs.lemmas.Map.Keys.{IsDistinct-from_apart, IsStrictlyIncreasing-from_distinct}
use Rattle.ct_words.specs.declared.limits.TheConstants.{MAX_N}
use Rattle.ct_words.specs.declared.code.TheConstants.{MAX_CODE_DISTANCE}
use Rattle.ct_words.specs.Code.{IsCode, IsSoundCode}
use Rattle.ct_words.proofs.CheckLemmas.{IsCode-permutation}

-- words of a code that are in order ascend strictly
increasing_from_code : (n d : ℕ) (w : Option ℕ) (words : List ℕ) → IsSorted nat_cmp words → IsCode n d w words → IsStrictlyIncreasing words
increasing_from_code n d w words sorted code =
    IsStrictlyIncreasing-from_distinct words (IsNonDecreasingBy-from_sort (λ x. x) words sorted)
    (IsDistinct-from_apart (λ x y. x == y) words (λ i j z order within.
    ne_eqb (get_or words i z) (get_or words j z) (code.different i j z order within)))

-- the words of a code, sorted, are a code as the program keeps it
pub sound_from_sort : (n d : ℕ) (w : Option ℕ) (xs ys : List ℕ) → (1 ≤ n) × (n ≤ MAX_N) → (1 ≤ d) × (d ≤ MAX_CODE_DISTANCE)
    → 1 ≤ length xs → IsCode n d w xs → IsPermutation xs ys → IsSorted nat_cmp ys → IsSoundCode (record { n = n; d = d; w = w; words = ys })
sound_from_sort n d w xs ys lengths distances some code moved sorted =
    let same_length = length_permutation xs ys moved in
    let moved_code = IsCode-permutation n d w xs ys moved code in
    record {
      length_in_range = lengths;
      distance_in_range = distances;
      some = omega arith;
      ascending = increasing_from_code n d w ys sorted moved_code;
      code = moved_code;
    }
