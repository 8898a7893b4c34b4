-- Bounds that hold for every entry.
use Rattle.std.proofs.Common.{◌≡◌, ℕ, ◌-◌, ◌%◌, ◌^◌, ◌<◌, ◌≤◌, [], ◌∷◌, Option, Some, None, IfSome, All, refl, arith, pow_pos, pow_mono}
use Rattle.std.proofs.lemmas.List.Elements.{All-nil, All-cons}
use Rattle.ct_words.specs.Word.{weight}
use Rattle.ct_words.proofs.WordLemmas.{weight-ones}
use Rattle.ct_words.specs.declared.entry.Entry.{Entry}
use Rattle.ct_words.specs.Entry.{IsEntry}
use Rattle.ct_words.specs.Code.{IsCode, IsTrueLower}
use Rattle.ct_words.proofs.EntryLemmas.{entry_limits}

-- a word of the length and the weight
word_of_weight : (n : ℕ) (w : Option ℕ) → IfSome w (λ k. k ≤ n) → (x : ℕ) × (x < 2 ^ n) × IfSome w (λ k. weight n x ≡ k)
word_of_weight n None h = (0, pow_pos n, tt)
word_of_weight n (Some k) h =
    let some = pow_pos k in
    let below = pow_mono h in
    (2 ^ k - 1, omega arith, weight-ones n k h)

-- one word of the length and the weight is a code
pub one_word_code : (n d : ℕ) (w : Option ℕ) (x : ℕ) → x < 2 ^ n → IfSome w (λ k. weight n x ≡ k) → IsCode n d w (x ∷ [])
one_word_code n d w x below weight_is = record {
  lengths = All-cons (λ y. y < 2 ^ n) x [] below (All-nil (λ y. y < 2 ^ n));
  different = λ i j z order within. absurd (omega arith);
  apart = λ i j z order within. absurd (omega arith);
  weights = weights_are w weight_is;
}
  where
    weights_are : (o : Option ℕ) → IfSome o (λ k. weight n x ≡ k) → IfSome o (λ k. All (λ y. weight n y ≡ k) (x ∷ []))
    weights_are None h = tt
    weights_are (Some k) h = All-cons (λ y. weight n y ≡ k) x [] h (All-nil (λ y. weight n y ≡ k))

-- each entry of the table has a code of one word
pub one_is_lower : (e : Entry) → IsEntry e → IsTrueLower e 1
one_is_lower e entry =
    let found = word_of_weight e.n e.w (weight_within e.w (entry_limits e entry).weight) in
    (found.0 ∷ [], one_word_code e.n e.d e.w found.0 found.1 found.2, refl)
  where
    weight_within : (w : Option ℕ) → IfSome w (λ k. (e.d % 2 ≡ 0) × (4 ≤ e.d) × (k ≤ e.n)) → IfSome w (λ k. k ≤ e.n)
    weight_within None h = tt
    weight_within (Some k) h = h.2
