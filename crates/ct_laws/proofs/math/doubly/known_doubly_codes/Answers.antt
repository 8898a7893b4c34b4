-- Weights and distances are computed.
use Rattle.std.proofs.Common.{◌≡◌, ◌≢◌, ℕ, ◌+◌, ◌/◌, ◌%◌, ◌^◌, ◌<◌, ◌≤◌, [], ◌∷◌, refl, arith}
use Rattle.std.specs.List.{All, AllPairs}
use Rattle.std.proofs.lemmas.List.Elements.{All-nil, All-cons}
use Rattle.std.proofs.lemmas.List.Kept.{AllPairs-cons}
use Rattle.ct_words.specs.Word.{weight, distance}
use Rattle.ct_laws.proofs.math.doubly.known_doubly_codes.Goals as goal

two : (P : ℕ → Type 0) (x y : ℕ) → P x → P y → All P (x ∷ y ∷ [])
two P x y here there = All-cons P x (y ∷ []) here (All-cons P y [] there (All-nil P))

pair : (R : ℕ → ℕ → Type 0) (x y : ℕ) → R x y → AllPairs R (x ∷ y ∷ [])
pair R x y related =
    AllPairs-cons R x (y ∷ []) (All-cons (R x) y [] related (All-nil (R x)))
    (AllPairs-cons R y [] (All-nil (R y)) (λ i j d l m. absurd (omega arith)))

pub returns-clause-code : goal.returns-clause-code
unfolding weight distance
returns-clause-code c = record {
  lengths = two (λ x. x < 2 ^ (2 + 4)) 44 19 (omega arith) (omega arith);
  different = pair (λ x y. x ≢ y) 44 19 (λ same. absurd (omega arith));
  apart = pair (λ x y. 6 ≤ distance (2 + 4) x y) 44 19 (omega arith);
  first_weights = two (λ x. weight 2 (x / 2 ^ 4) ≡ 1) 44 19 refl refl;
  last_weights = two (λ x. weight 4 (x % 2 ^ 4) ≡ 2) 44 19 refl refl;
}

pub returns-clause-close : goal.returns-clause-close
unfolding distance
returns-clause-close c = λ h. let far = h.apart 0 1 0 (omega arith) (omega arith) in absurd (omega arith)

pub returns-clause-other_order : goal.returns-clause-other_order
unfolding weight
returns-clause-other_order c = λ h. let first = h.first_weights 0 0 (omega arith) in absurd (omega arith)

pub returns-clause-heavier : goal.returns-clause-heavier
unfolding weight
returns-clause-heavier c = λ h. let last = h.last_weights 0 0 (omega arith) in absurd (omega arith)

pub returns-clause-repeated : goal.returns-clause-repeated
returns-clause-repeated c = λ h. h.different 0 1 0 (omega arith) (omega arith) refl

pub returns-clause-longer : goal.returns-clause-longer
returns-clause-longer c = λ h. let short = h.lengths 0 0 (omega arith) in absurd (omega arith)
