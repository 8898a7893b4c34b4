-- The word of length 4 and weight 0, as a code.
use Rattle.std.proofs.Common.{◌≡◌, ◌<◌, [], ◌∷◌, Some, refl, arith}
use Rattle.std.proofs.lemmas.List.Elements.{All-nil, All-cons}
use Rattle.ct_words.specs.Code.{CodeValue}
use Rattle.ct_words.specs.Word.{weight}
use Rattle.ct_words.specs.Entry.{constant_weight}
use Rattle.ct_derive.specs.Listed.{IsListedCode}
use Rattle.ct_laws.proofs.EqualBounds.{one_word_alone}

abbrev pub word_alone : CodeValue
word_alone = record { n = 4; d = 4; w = Some 0; words = 0 ∷ [] }

pub word_alone_listed : IsListedCode [] (constant_weight 4 4 0) word_alone
unfolding weight
word_alone_listed = record {
  entry = refl;
  sound = record {
    length_in_range = (omega arith, omega arith);
    distance_in_range = (omega arith, omega arith);
    some = omega arith;
    ascending = λ k within. absurd (omega (arith, within));
    code = record {
      lengths = All-cons (λ x. x < 16) 0 [] (omega arith) (All-nil (λ x. x < 16));
      different = λ i j d before within. absurd (omega (arith, before, within));
      apart = λ i j d before within. absurd (omega (arith, before, within));
      weights = All-cons (λ x. weight 4 x ≡ 0) 0 [] refl (All-nil (λ x. weight 4 x ≡ 0));
    };
  };
  best = (one_word_alone 4 4 0 refl refl).lower.best;
}
