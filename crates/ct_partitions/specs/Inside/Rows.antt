-- The words of one class in the list of all words, those that are too close to a word of it, and pairs of places in order.
use Rattle.std.specs.Prelude.{◌≡◌, ℕ, ◌<◌, ◌≤◌, ◌⊎◌, nat_lt, Bool, false, if◌then◌else◌, List, slice_index}
use Rattle.ct_words.specs.Word.{distance}

-- whether the words at the places i < j are too close, where the class of the first ends before the place `end`
abbrev pub is_near : List ℕ → ℕ → ℕ → ℕ → ℕ → ℕ → Bool
is_near words end d between i j = nat_lt (distance 32 (slice_index words i) (slice_index words j)) (if nat_lt j end then d else between)

-- no place from `start` on and below `end` is in a pair with a later one, below `total`
abbrev pub NoneFrom : (ℕ → ℕ → Bool) → ℕ → ℕ → ℕ → Type 0
NoneFrom test start end total = (i j : ℕ) → start ≤ i → i < end → i < j → j < total → test i j ≡ false

-- the first pair does not come after the second, in order of the first places and then the second ones
abbrev pub NotAfter : ℕ × ℕ → ℕ × ℕ → Type 0
NotAfter p q = (p.0 < q.0) ⊎ ((p.0 ≡ q.0) × (p.1 ≤ q.1))

-- the pair is one of the two, and comes after neither
pub record IsLesser (p q result : ℕ × ℕ) : Type 0 where
  pub one : (result ≡ p) ⊎ (result ≡ q)
  pub first : NotAfter result p
  pub second : NotAfter result q
