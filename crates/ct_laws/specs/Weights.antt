-- Words of which the weight of an entry is asked.
use Rattle.std.specs.Prelude.{◌≡◌, ◌≢◌, ◌<◌, ℕ, List, length, slice_index, All, Some, IfSome}
use Rattle.ct_words.specs.Word.{weight}
use Rattle.ct_words.specs.declared.entry.Entry.{Entry}

-- each word has the weight of the entry, where it has one
abbrev pub HaveWeight : Entry → List ℕ → Type 0
HaveWeight e words = IfSome e.w (λ w. All (λ x. weight e.n x ≡ w) words)

-- the entry has a weight, and the word at this place is the first without it
pub record IsFirstOfOtherWeight (e : Entry) (words : List ℕ) (place : ℕ) : Type 0 where
  pub w : ℕ
  pub stated : e.w ≡ Some w
  pub within : place < length words
  pub other : weight e.n (slice_index words place) ≢ w
  pub before : (k : ℕ) → k < place → weight e.n (slice_index words k) ≡ w
