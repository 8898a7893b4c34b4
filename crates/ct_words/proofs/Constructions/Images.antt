-- Codes whose words are the images of a code's words.
use Rattle.std.proofs.Common.{◌≡◌, ◌≢◌, ℕ, ◌+◌, ◌^◌, ◌<◌, ◌≤◌, List, get_or, map, Option, Some, None, IfSome, All, ap, ◌∙◌, arith}
use Rattle.std.specs.Prelude.{⊤}
use Rattle.std.specs.Option.{option_map}
use Rattle.std.specs.List.Sorted.{IsStrictlyIncreasing}
use Rattle.std.proofs.lemmas.List.{length-map, get_or-map}
use Rattle.std.proofs.lemmas.List.Elements.{All-map}
use Rattle.ct_words.proofs.Counting.Pairs.{AllPairs-map, AllPairs-within}
use Rattle.ct_words.specs.Word.{weight, distance}
use Rattle.ct_words.specs.Code.{IsCode}

-- the map f takes words of length n to words of length m, different ones to different ones, and two at distance d or more to two at distance
-- e or more
pub record IsCodeMap (n d m e : ℕ) (f : ℕ → ℕ) : Type 0 where
  pub lengths : (x : ℕ) → x < 2 ^ n → f x < 2 ^ m
  pub different : (x y : ℕ) → x < 2 ^ n → y < 2 ^ n → f x ≡ f y → x ≡ y
  pub apart : (x y : ℕ) → x < 2 ^ n → y < 2 ^ n → d ≤ distance n x y → e ≤ distance m (f x) (f y)

-- the images of a code's words, without a weight
pub IsCode-image : (n d m e : ℕ) (w : Option ℕ) (f : ℕ → ℕ) (words : List ℕ) → IsCodeMap n d m e f → IsCode n d w words
    → IsCode m e None (map f words)
IsCode-image n d m e w f words maps code = record {
  lengths = All-map (λ x. x < 2 ^ m) f words (λ k z h. maps.lengths (get_or words k z) (code.lengths k z h));
  different = AllPairs-map (λ x y. x ≢ y) f words
      (AllPairs-within (λ x. x < 2 ^ n) (λ x y. x ≢ y) (λ x y. f x ≢ f y) words (λ x y p q other same. other (maps.different x y p q same)) code.lengths code.different);
  apart = AllPairs-map (λ x y. e ≤ distance m x y) f words
      (AllPairs-within (λ x. x < 2 ^ n) (λ x y. d ≤ distance n x y) (λ x y. e ≤ distance m (f x) (f y)) words maps.apart code.lengths code.apart);
  weights = tt;
}

-- a code without a weight whose words have one
pub IsCode-weighted : (n d : ℕ) (w : Option ℕ) (words : List ℕ) → IsCode n d None words → IfSome w (λ k. All (λ x. weight n x ≡ k) words)
    → IsCode n d w words
IsCode-weighted n d w words code each = record { lengths = code.lengths; different = code.different; apart = code.apart; weights = each }

-- the weights of the images, where they are told by those of the words
pub weights-image : (n m : ℕ) (g f : ℕ → ℕ) (w : Option ℕ) (words : List ℕ) → ((x : ℕ) → x < 2 ^ n → weight m (f x) ≡ g (weight n x))
    → All (λ x. x < 2 ^ n) words
    → IfSome w (λ k. All (λ x. weight n x ≡ k) words) → IfSome (option_map g w) (λ k. All (λ x. weight m x ≡ k) (map f words))
weights-image n m g f None words told below each = tt
weights-image n m g f (Some k) words told below each =
    All-map (λ x. weight m x ≡ g k) f words (λ i z h. told (get_or words i z) (below i z h) ∙ ap g (each i z h))

-- the images of a code's words, with their weight
pub IsCode-image_weighted : (n d m e : ℕ) (g : ℕ → ℕ) (w : Option ℕ) (f : ℕ → ℕ) (words : List ℕ) → IsCodeMap n d m e f
    → ((x : ℕ) → x < 2 ^ n → weight m (f x) ≡ g (weight n x)) → IsCode n d w words → IsCode m e (option_map g w) (map f words)
IsCode-image_weighted n d m e g w f words maps told code =
    IsCode-weighted m e (option_map g w) (map f words) (IsCode-image n d m e w f words maps code)
    (weights-image n m g f w words told code.lengths code.weights)

-- a map that keeps the order of words of which P holds keeps an ascending list of such words ascending
pub IsStrictlyIncreasing-map_within : (P : ℕ → Type 0) (f : ℕ → ℕ) (words : List ℕ)
    → ((x y : ℕ) → P x → P y → x < y → f x < f y) → All P words → IsStrictlyIncreasing words
    → IsStrictlyIncreasing (map f words)
IsStrictlyIncreasing-map_within P f words rises each up = λ k h.
    let long = length-map words f in
    let here = get_or-map f words k 0 0 (omega arith) in
    let next = get_or-map f words (k + 1) 0 0 (omega arith) in
    let first = each k 0 (omega arith) in
    let second = each (k + 1) 0 (omega arith) in
    rw (here, next) (rises (get_or words k 0) (get_or words (k + 1) 0) first second (up k (omega arith)))

-- a map that keeps the order keeps an ascending list ascending
pub IsStrictlyIncreasing-map : (f : ℕ → ℕ) (words : List ℕ) → ((x y : ℕ) → x < y → f x < f y) → IsStrictlyIncreasing words
    → IsStrictlyIncreasing (map f words)
IsStrictlyIncreasing-map f words rises up =
    IsStrictlyIncreasing-map_within (λ x. ⊤) f words (λ x y p q less. rises x y less) (λ k d l. tt) up
