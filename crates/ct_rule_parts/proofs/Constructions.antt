-- Codes without weight from codes without weight, as claims: there is a code of so many words.
use Rattle.std.proofs.Common.{◌≡◌, ℕ, ◌+◌, ◌-◌, ◌*◌, ◌^◌, ◌<◌, ◌≤◌, min, List, [], ◌∷◌, length, All, AllPairs, refl, ap₂, subst, ◌∙◌, inl, inr, arith, pow_pos}
use Rattle.std.specs.Prelude.{Some, None}
use Rattle.std.proofs.Math.Pow.{ones_lt}
use Rattle.std.proofs.lemmas.Bool.{cases_lt}
use Rattle.std.proofs.lemmas.Nat.Bits.{bit_at-zero, bit_at-lt}
use Rattle.std.proofs.lemmas.List.Elements.{All-nil, All-cons}
use Rattle.std.proofs.lemmas.List.Kept.{AllPairs-cons}
use Rattle.ct_words.specs.Word.{digit, distance, IsSum}
use Rattle.ct_words.proofs.WordLemmas.{distance-is_weight, weight-ones}
use Rattle.ct_words.specs.Entry.{unrestricted, constant_weight}
use Rattle.ct_words.specs.Code.{IsCode, IsTrueLower}
use Rattle.ct_words.specs.Constructions.Even.{even_from, even_words}
use Rattle.ct_words.specs.Constructions.Append.{lengthened, with_parity}
use Rattle.ct_words.specs.Constructions.Translation.{all_ones}
use Rattle.ct_words.specs.Constructions.Places.{ArePlaces}
use Rattle.ct_words.specs.Constructions.Punctured.{punctured}
use Rattle.ct_words.specs.Constructions.Shortened.{shortened}
use Rattle.ct_words.specs.Constructions.Uuv.{uuv_words}
use Rattle.ct_words.specs.Constructions.Juxtaposed.{juxtaposed}
use Rattle.ct_words.proofs.Constructions.FarWords.{AreFar, code_from_far}
use Rattle.ct_words.proofs.Constructions.FrontLemmas.{IsCode-nearer, IsCode-unweighted}
use Rattle.ct_words.proofs.Constructions.AppendLemmas.{IsCode-lengthened, IsCode-with_parity, length-lengthened, length-with_parity}
use Rattle.ct_words.proofs.Constructions.EvenLemmas.{IsCode-even_words, length-even_words}
use Rattle.ct_words.proofs.Constructions.PuncturedCodes.{IsCode-punctured, length-punctured}
use Rattle.ct_words.proofs.Constructions.ShortenedCodes.{IsCode-shortened, halves-shortened}
use Rattle.ct_words.proofs.Constructions.UuvCodes.{IsCode-uuv, length-uuv_words}
use Rattle.ct_words.proofs.Constructions.JuxtaposedCodes.{IsCode-juxtaposed, length-juxtaposed}
use Rattle.ct_rule_parts.specs.Parts.{half_up}
use Rattle.ct_rule_parts.proofs.SlotLemmas.{IsTrueLower-fewer}

-- some code of length n and distance d has exactly v words
abbrev pub HasCode : ℕ → ℕ → ℕ → Type 0
HasCode n d v = IsTrueLower (unrestricted n d) v

-- it has fewer
pub HasCode-fewer : (n d u v : ℕ) → v ≤ u → HasCode n d u → HasCode n d v
HasCode-fewer n d u v few code =
    IsTrueLower-fewer (unrestricted n d) u v few code

-- it has a smaller distance
pub HasCode-nearer : (n d e v : ℕ) → e ≤ d → HasCode n d v → HasCode n e v
HasCode-nearer n d e v near code = (code.0, IsCode-nearer n d e None code.0 near code.1, code.2)

-- each word has one weight
pub HasCode-unweighted : (n d w v : ℕ) → IsTrueLower (constant_weight n d w) v → HasCode n d v
HasCode-unweighted n d w v code = (code.0, IsCode-unweighted n d (Some w) code.0 code.1, code.2)

-- the word 0 added to a word
zero_sum : (n x : ℕ) → x < 2 ^ n → IsSum n 0 x x
zero_sum n x below = record {
  word = below;
  digits = λ p within.
      let none : digit n 0 p ≡ 0 = bit_at-zero (n - 1 - p) in
      let binary : digit n x p < 2 = bit_at-lt x (n - 1 - p) in
      omega arith;
}

-- the words 0 and 1..1 differ at each place
pub IsCode-two : (n d : ℕ) → 1 ≤ n → d ≤ n → IsCode n d None (0 ∷ all_ones n ∷ [])
IsCode-two n d some near =
    let y = all_ones n in
    let apart : distance n 0 y ≡ n =
    distance-is_weight n 0 y y (zero_sum n y (ones_lt n)) ∙ weight-ones n n (omega arith) in
    let below : All (λ x. x < 2 ^ n) (0 ∷ y ∷ []) =
    All-cons (λ x. x < 2 ^ n) 0 (y ∷ []) (pow_pos n)
    (All-cons (λ x. x < 2 ^ n) y [] (ones_lt n) (All-nil (λ x. x < 2 ^ n))) in
    let far : All (AreFar n d 0) (y ∷ []) =
    All-cons (AreFar n d 0) y [] (omega arith, omega arith) (All-nil (AreFar n d 0)) in
    let pairs : AllPairs (AreFar n d) (0 ∷ y ∷ []) =
    AllPairs-cons (AreFar n d) 0 (y ∷ []) far (λ i j z order within. absurd (omega arith)) in
    code_from_far n d None (0 ∷ y ∷ []) below pairs tt

pub HasCode-two : (n d : ℕ) → 1 ≤ n → d ≤ n → HasCode n d 2
HasCode-two n d some near = (0 ∷ all_ones n ∷ [], IsCode-two n d some near, refl)

-- a 0 is added to each word
pub HasCode-lengthened : (n d v : ℕ) → HasCode n d v → HasCode (n + 1) d v
HasCode-lengthened n d v code =
    (lengthened code.0, IsCode-lengthened n d None code.0 code.1, length-lengthened code.0 ∙ code.2)

-- the parity of its weight is added to each word
pub HasCode-parity : (n d v : ℕ) → HasCode n d v → HasCode (n + 1) (even_from d) v
HasCode-parity n d v code =
    (with_parity n code.0, IsCode-with_parity n d None code.0 code.1, length-with_parity n code.0 ∙ code.2)

-- the first place of a word
first_place : (n : ℕ) → ArePlaces (n + 1) (0 ∷ [])
first_place n = record {
  ascending = λ k within. absurd (omega arith);
  within = All-cons (λ p. p < n + 1) 0 [] (omega arith) (All-nil (λ p. p < n + 1));
}

-- the first place is left out
pub HasCode-punctured : (n d v : ℕ) → 1 ≤ d → HasCode (n + 1) (d + 1) v → HasCode n d v
HasCode-punctured n d v some code =
    let words = punctured (n + 1) (0 ∷ []) code.0 in
    let shorter : n + 1 - 1 ≡ n = omega arith in
    let nearer : d + 1 - 1 ≡ d = omega arith in (
      words,
      subst (λ m. IsCode m d None words) shorter (subst (λ e. IsCode (n + 1 - 1) e None words) nearer
          (IsCode-punctured (n + 1) (d + 1) None code.0 (0 ∷ []) (first_place n) (omega arith) code.1)),
      length-punctured (n + 1) (0 ∷ []) code.0 ∙ code.2,
    )

-- of the words with a 0 and those with a 1 at the first place, the more frequent ones, without it
pub HasCode-shortened : (n d v : ℕ) → HasCode (n + 1) d v → HasCode n d (half_up v)
HasCode-shortened n d v code =
    elim (cases_lt (length (with_first 0)) (half_up v)) [
      | inl few ↦ HasCode-fewer n d (length (with_first 1)) (half_up v) (omega (arith, halves)) (part 1)
      | inr enough ↦ HasCode-fewer n d (length (with_first 0)) (half_up v) enough (part 0)
    ]
  where
    with_first : ℕ → List ℕ
    with_first a = shortened (n + 1) (0 ∷ []) (a ∷ []) code.0

    halves : length (with_first 0) + length (with_first 1) ≡ v
    halves = halves-shortened (n + 1) 0 code.0 ∙ code.2

    part : (a : ℕ) → HasCode n d (length (with_first a))
    part a =
        let shorter : n + 1 - 1 ≡ n = omega arith in (
          with_first a,
          subst (λ m. IsCode m d None (with_first a)) shorter
              (IsCode-shortened (n + 1) d None code.0 (0 ∷ []) (a ∷ []) (first_place n) refl code.1),
          refl,
        )

-- u followed by u + v
pub HasCode-uuv : (n d e u v : ℕ) → HasCode n d u → HasCode n e v → HasCode (2 * n) (min (2 * d) e) (u * v)
HasCode-uuv n d e u v first second = (
  uuv_words n first.0 second.0,
  IsCode-uuv n d None first.0 e None second.0 first.1 second.1,
  length-uuv_words n first.0 second.0 ∙ ap₂ (λ (i j : ℕ). i * j) first.2 second.2,
)

-- the words of even weight
pub HasCode-even : (n : ℕ) → 1 ≤ n → HasCode n 2 (2 ^ (n - 1))
HasCode-even n some = (even_words n, IsCode-even_words n, length-even_words n some)

-- the words of one code side by side with those of another
pub HasCode-juxtaposed : (n d m e u v : ℕ) → HasCode n d u → HasCode m e v → HasCode (n + m) (d + e) (min u v)
HasCode-juxtaposed n d m e u v first second = (
  juxtaposed m first.0 second.0,
  IsCode-juxtaposed n d None first.0 m e None second.0 first.1 second.1,
  length-juxtaposed m first.0 second.0 ∙ ap₂ (λ (i j : ℕ). min i j) first.2 second.2,
)
