use Rattle.std.proofs.Common.{◌≡◌, ℕ, ◌<◌, List, [], ◌∷◌, All, Option, Some, None, refl, ap, arith}
use Rattle.std.proofs.lemmas.List.Elements.{All-nil, All-cons}
use Rattle.ct_words.specs.Entry.{unrestricted}
use Rattle.ct_rules.specs.declared.rule.Rule.TheVariants.{L1, L6, L8, L10, L11, U2, U4, U6}
use Rattle.ct_rule_parts.specs.declared.support.Support.TheVariants.{Size}
use Rattle.ct_rules.specs.Derivation.{LineValue}
use Rattle.ct_rules.specs.Rule.{row_of}
use Rattle.ct_rule_parts.specs.Slot.{Slot, claim_at, lower_at, upper_at}
use Rattle.ct_rules.proofs.Derivations.{derivation-nil, derivation-push}
use Rattle.ct_laws.proofs.derivations.known_derivations.Goals as goal

-- the lines of the examples
one_at : ℕ → ℕ → LineValue
one_at n d = record { claim = claim_at (lower_at n d) 1; rule = L1; from = [] }

four_at_six : LineValue
four_at_six = record { claim = claim_at (lower_at 6 4) 4; rule = L8; from = 0 ∷ [] }

four_at_five : LineValue
four_at_five = record { claim = claim_at (lower_at 5 3) 4; rule = L6; from = 1 ∷ [] }

sixteen_at_eight : LineValue
sixteen_at_eight = record { claim = claim_at (upper_at 8 4) 16; rule = U2; from = [] }

sixteen_at_seven : LineValue
sixteen_at_seven = record { claim = claim_at (upper_at 7 3) 16; rule = U4; from = 0 ∷ [] }

twice_sixteen_at_eight : LineValue
twice_sixteen_at_eight = record { claim = claim_at (upper_at 8 3) 32; rule = U6; from = 1 ∷ [] }

juxtaposition : LineValue
juxtaposition = record { claim = claim_at (lower_at 6 6) 1; rule = L11 3 3; from = 0 ∷ 0 ∷ [] }

supported : LineValue
supported = record { claim = claim_at (lower_at 6 4) 4; rule = L10 0; from = [] }

one_place : (n p : ℕ) → p < n → All (λ q. q < n) (p ∷ [])
one_place n p h = All-cons (λ q. q < n) p [] h (All-nil (λ q. q < n))

pub returns-clause-three_lines : goal.returns-clause-three_lines
unfolding row_of one_at four_at_six four_at_five
returns-clause-three_lines c =
    derivation-push [] (one_at 3 4 ∷ four_at_six ∷ []) four_at_five
    (derivation-push [] (one_at 3 4 ∷ []) four_at_six
    (derivation-push [] [] (one_at 3 4) (derivation-nil [])
    (record { earlier = All-nil (λ q. q < 0); side = refl; premises = refl; value = refl }))
    (record { earlier = one_place 1 0 (omega arith); side = refl; premises = refl; value = refl }))
    (record { earlier = one_place 2 1 (omega arith); side = refl; premises = refl; value = refl })

pub returns-clause-from_above : goal.returns-clause-from_above
unfolding row_of sixteen_at_eight sixteen_at_seven twice_sixteen_at_eight
returns-clause-from_above c =
    derivation-push [] (sixteen_at_eight ∷ sixteen_at_seven ∷ []) twice_sixteen_at_eight
    (derivation-push [] (sixteen_at_eight ∷ []) sixteen_at_seven
    (derivation-push [] [] sixteen_at_eight (derivation-nil [])
    (record { earlier = All-nil (λ q. q < 0); side = refl; premises = refl; value = refl }))
    (record { earlier = one_place 1 0 (omega arith); side = refl; premises = refl; value = refl }))
    (record { earlier = one_place 2 1 (omega arith); side = refl; premises = refl; value = refl })

pub returns-clause-place_named_twice : goal.returns-clause-place_named_twice
unfolding row_of one_at juxtaposition
returns-clause-place_named_twice c =
    derivation-push [] (one_at 3 3 ∷ []) juxtaposition
    (derivation-push [] [] (one_at 3 3) (derivation-nil [])
    (record { earlier = All-nil (λ q. q < 0); side = refl; premises = refl; value = refl }))
    (record {
      earlier = All-cons (λ q. q < 1) 0 (0 ∷ []) (omega arith) (one_place 1 0 (omega arith));
      side = refl;
      premises = refl;
      value = refl;
    })

pub returns-clause-support : goal.returns-clause-support
unfolding row_of supported
returns-clause-support c =
    derivation-push (Size (unrestricted 6 4) 4 ∷ []) [] supported (derivation-nil (Size (unrestricted 6 4) 4 ∷ []))
    (record { earlier = All-nil (λ q. q < 0); side = refl; premises = refl; value = refl })

-- the distance of the first premise
first_distance : Option (List Slot) → ℕ
first_distance None = 0
first_distance (Some []) = 0
first_distance (Some (s ∷ slots)) = s.1.d

pub returns-clause-no_support : goal.returns-clause-no_support
unfolding row_of
returns-clause-no_support c follows = absurd (cc follows.value)

pub returns-clause-no_premise : goal.returns-clause-no_premise
unfolding row_of
returns-clause-no_premise c follows = absurd cc

pub returns-clause-other_premise : goal.returns-clause-other_premise
unfolding row_of first_distance
returns-clause-other_premise c follows =
    let same : ◌≡◌ {A = ℕ} 4 3 = ap first_distance follows.premises in absurd (omega arith)

pub returns-clause-other_order : goal.returns-clause-other_order
unfolding row_of first_distance
returns-clause-other_order c follows =
    let same : ◌≡◌ {A = ℕ} 3 5 = ap first_distance follows.premises in absurd (omega arith)

pub returns-clause-smaller_value : goal.returns-clause-smaller_value
unfolding row_of
returns-clause-smaller_value c follows = absurd (cc follows.value)

pub returns-clause-other_entry : goal.returns-clause-other_entry
unfolding row_of
returns-clause-other_entry c follows = absurd (cc follows.value)

pub returns-clause-other_side : goal.returns-clause-other_side
unfolding row_of
returns-clause-other_side c follows = absurd (cc follows.side)
