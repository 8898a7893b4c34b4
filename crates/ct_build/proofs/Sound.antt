-- When a list of words is the value of a code.
use Rattle.std.proofs.Common.{◌≡◌, ℕ, ◌^◌, ◌<◌, ◌≤◌, List, get_or, Option, Some, None, IfSome, All, arith}
use Rattle.std.specs.Option.{ForSome}
use Rattle.ct_words.specs.declared.limits.TheConstants.{MAX_N}
use Rattle.ct_words.specs.Word.{weight}
use Rattle.ct_words.proofs.WordLemmas.{weight-le}
use Rattle.ct_words.specs.Code.{CodeValue, IsSoundCode}

-- the same value, told by its four parts
pub IsSoundCode-same : (c : CodeValue) (n d : ℕ) (w : Option ℕ) (words : List ℕ) → n ≡ c.n → d ≡ c.d → w ≡ c.w → words ≡ c.words
    → IsSoundCode c
    → IsSoundCode (record { n = n; d = d; w = w; words = words })
IsSoundCode-same c n d w words same_n same_d same_w same_words sound = rw (same_n, same_d, same_w, same_words) sound

-- a weight that a code has is at most its length
pub weight_within : (c : CodeValue) → IsSoundCode c → ForSome c.w (λ k. k ≤ c.n)
weight_within c sound = go c.w sound.code.weights
  where
    go : (w : Option ℕ) → IfSome w (λ k. All (λ x. weight c.n x ≡ k) c.words) → ForSome w (λ k. k ≤ c.n)
    go None each k is = cc
    go (Some v) each k is =
        let here = each 0 0 sound.some in
        let few = weight-le c.n (get_or c.words 0 0) in
        let same : v ≡ k = cc in
        omega arith

-- so it is at most the greatest length
pub weight_limit : (c : CodeValue) → IsSoundCode c → ForSome c.w (λ k. k ≤ MAX_N)
weight_limit c sound = λ k is. let few = weight_within c sound k is in let long = sound.length_in_range.1 in omega arith

-- the words of a code, as they were read
pub words_within : (c : CodeValue) (n : ℕ) (words : List ℕ) → IsSoundCode c → n ≡ c.n → words ≡ c.words → All (λ x. x < 2 ^ n) words
words_within c n words sound same_n same_words = rw (same_n, same_words) sound.code.lengths
