use Rattle.std.proofs.Common.{◌≤◌, [], ◌∷◌, refl, arith}
use Rattle.std.proofs.lemmas.List.Elements.{All-from_recursion}
use Rattle.ct_words.specs.Word.{weight}
use Rattle.ct_words.specs.declared.claim.Side.TheVariants.{Lower}
use Rattle.ct_words.specs.declared.entry.Entry.{Entry}
use Rattle.ct_words.specs.Entry.{unrestricted}
use Rattle.ct_sum_classes.specs.SumClass.{place_sum, largest_class}
use Rattle.ct_rules.specs.declared.rule.Rule.TheVariants.{L1, L2, M2, M9, U2, U3, V1, V2}
use Rattle.ct_rules.specs.Rule.{row_of}
use Rattle.ct_kept.specs.Kept.{IsGroundBound}
use Rattle.ct_kept.specs.Inside.Ground.{IsGroundWithin}
use Rattle.ct_kept.proofs.GroundLemmas.{own_ground_within, ground_within_better, without_weight}
use Rattle.ct_kept.proofs.GroundBest.{ground_bound}
use Rattle.ct_laws.proofs.grounds.known_grounds.Goals as goal

-- at A(8,4) one word and two are all that rests on nothing
of_eight : IsGroundBound (Lower, unrestricted 8 4) 2
unfolding row_of
of_eight =
    let e : Entry = unrestricted 8 4 in
    let few : 1 ≤ 2 = omega arith in
    ground_bound Lower e 2
    (ground_within_better (Lower, e) 1 2 L1 few (own_ground_within (Lower, e) L1 1 refl))
    (All-from_recursion (IsGroundWithin (Lower, e) 2) (L2 ∷ []) (own_ground_within (Lower, e) L2 2 refl, tt))
    (λ low k. without_weight 8 4 k 2)

pub returns : goal.returns
unfolding row_of weight place_sum largest_class
returns c = record {
  two_words = λ v ground. ground L2 2 refl (refl, refl) refl;
  disjoint_words = λ v ground. ground M2 2 refl (refl, refl) refl;
  class_of_four = λ v ground. ground (M9 0) 4 refl (refl, refl) refl;
  average_distance = λ v ground. ground U2 4 refl (refl, refl) refl;
  balls = λ v ground. ground U3 16 refl (refl, refl) refl;
  far_words = λ v ground. ground V1 1 refl (refl, refl) refl;
  disjoint_above = λ v ground. ground V2 2 refl (refl, refl) refl;
  no_sums = of_eight;
}
