-- The words of an entry are a scheme: the Hamming scheme, and with a weight the Johnson scheme.
use Rattle.std.proofs.Common.{◌≡◌, ℕ, ◌^◌, ◌<◌, refl}
use Rattle.std.specs.Prelude.{Option, Some, None, IfSome}
use Rattle.ct_words.specs.Word.{weight, distance}
use Rattle.ct_words.proofs.WordLemmas.{distance-le, distance_same}
use Rattle.ct_words.proofs.PairProducts.{half_distance-le, half_distance-same}
use Rattle.ct_words.specs.declared.entry.Entry.{Entry}
use Rattle.ct_krawtchouk.specs.Hamming.{krawtchouk-positive, krawtchouk-first}
use Rattle.ct_scheme.specs.Johnson.{johnson-positive, johnson-first}
use Rattle.ct_duals.specs.Dual.{IsWordOf, as_index, index_of, greatest_index, degree_of, Fits}
use Rattle.ct_duals.proofs.Sound.{AreLaws}
use Rattle.ct_words.specs.Numbers.{number_at, numbers_of}

-- what the schemes keep
pub laws_of : (n : ℕ) (w : Option ℕ)
    → AreLaws (λ x. (x < 2 ^ n) × IfSome w (λ v. weight n x ≡ v)) (λ x y. as_index w (distance n x y)) (greatest_index n w) (number_at n w)
laws_of n None = record {
  positive_rows = λ k h. krawtchouk-positive n k (λ x. (x < 2 ^ n) × Unit {0});
  ones = λ i h. krawtchouk-first n i;
  within = λ x y p q. distance-le n x y;
  itself = λ x p. distance_same n x;
}
laws_of n (Some w) = record {
  positive_rows = λ k h. johnson-positive n w k;
  ones = λ i h. johnson-first n w i;
  within = λ x y p q. half_distance-le n w x y p.1 q.1;
  itself = λ x p. half_distance-same n x;
}

-- they fit the entry
pub fits_of : (e : Entry) → Fits (IsWordOf e) (index_of e) (degree_of e) (numbers_of e) e
fits_of e = record { words = λ x h. h; same_index = λ x y. refl; same_degree = refl; numbers = λ k i. refl }
