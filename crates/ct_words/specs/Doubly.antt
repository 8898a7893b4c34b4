-- Doubly constant weight codes (Johnson 1972; Brouwer, Shearer, Sloane and Smith 1990, whose T(w1,n1,w2,n2,d) is the greatest size of one;
-- Agrell, Vardy and Zeger 2000). The first n1 digits of a word x of length n1 + n2 are the word x / 2^n2, and its last n2 the word x % 2^n2.
use Rattle.std.specs.Prelude.{◌≡◌, ◌≢◌, ℕ, ◌+◌, ◌/◌, ◌%◌, ◌^◌, ◌<◌, ◌≤◌, List, length, All, AllPairs}
use Rattle.ct_words.specs.Word.{weight, distance}

-- the list is a doubly constant weight code: words of length n1 + n2, no two places hold equal words, each two have distance at least d,
-- and each word has w1 ones among its first n1 digits and w2 among its last n2
pub record IsDoubly (n1 w1 n2 w2 d : ℕ) (words : List ℕ) : Type 0 where
  pub lengths : All (λ x. x < 2 ^ (n1 + n2)) words
  pub different : AllPairs (λ x y. x ≢ y) words
  pub apart : AllPairs (λ x y. d ≤ distance (n1 + n2) x y) words
  pub first_weights : All (λ x. weight n1 (x / 2 ^ n2) ≡ w1) words
  pub last_weights : All (λ x. weight n2 (x % 2 ^ n2) ≡ w2) words

-- every doubly constant weight code of these numbers has at most v words
abbrev pub IsTrueDoublyUpper : ℕ → ℕ → ℕ → ℕ → ℕ → ℕ → Type 0
IsTrueDoublyUpper n1 w1 n2 w2 d v = (words : List ℕ) → IsDoubly n1 w1 n2 w2 d words → length words ≤ v
