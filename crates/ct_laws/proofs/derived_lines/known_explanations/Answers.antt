use Rattle.std.proofs.Common.{◌≡◌, ℕ, zero, suc, ◌+◌, ◌<◌, [], ◌∷◌, length, All, refl, sym, ap, arith}
use Rattle.std.specs.Prelude.{◌≢◌, AllPairs, Contains}
use Rattle.std.proofs.lemmas.List.Elements.{All-nil, All-cons}
use Rattle.std.proofs.lemmas.Option.{none-some, same_Some}
use Rattle.std.specs.List.{slice_index_or}
use Rattle.ct_words.specs.declared.claim.Claim.{Claim}
use Rattle.ct_rule_parts.specs.Slot.{claim_at, lower_at}
use Rattle.ct_rules.specs.Rule.{row_of}
use Rattle.ct_rules.specs.Derivation.{LineValue, IsDerivation}
use Rattle.ct_rules.proofs.Derivations.{derivation-nil, derivation-push}
use Rattle.ct_laws.specs.RuleExamples.{one_at_three, one_at_four, four_at_six, four_at_five, four_by_support}
use Rattle.ct_derive.specs.Explanation.{IsNamedLater}
use Rattle.ct_derive.specs.Pieces.{IsNeeded}
use Rattle.ct_derive.specs.Pieces.IsNeeded.{by_line, by_piece}
use Rattle.ct_laws.proofs.derived_lines.known_explanations.Goals as goal

one_place : (n p : ℕ) → p < n → All (λ q. q < n) (p ∷ [])
one_place n p h = All-cons (λ q. q < n) p [] h (All-nil (λ q. q < n))

derivation : IsDerivation [] (one_at_three ∷ four_at_six ∷ four_at_five ∷ [])
unfolding row_of
derivation =
    derivation-push [] (one_at_three ∷ four_at_six ∷ []) four_at_five
    (derivation-push [] (one_at_three ∷ []) four_at_six
    (derivation-push [] [] one_at_three (derivation-nil [])
    (record { earlier = All-nil (λ q. q < 0); side = refl; premises = refl; value = refl }))
    (record { earlier = one_place 1 0 (omega arith); side = refl; premises = refl; value = refl }))
    (record { earlier = one_place 2 1 (omega arith); side = refl; premises = refl; value = refl })

-- facts of each two of three items
three_pairs : {X : Type 0} (R : X → X → Type 0) (x y z : X) → R x y → R x z → R y z → AllPairs R (x ∷ y ∷ z ∷ [])
three_pairs R x y z xy xz yz i zero d lower within = absurd (omega arith)
three_pairs R x y z xy xz yz zero (suc zero) d lower within = xy
three_pairs R x y z xy xz yz zero (suc (suc zero)) d lower within = xz
three_pairs R x y z xy xz yz (suc zero) (suc (suc zero)) d lower within = yz
three_pairs R x y z xy xz yz (suc zero) (suc zero) d lower within = absurd (omega arith)
three_pairs R x y z xy xz yz (suc (suc i)) (suc zero) d lower within = absurd (omega arith)
three_pairs R x y z xy xz yz (suc (suc i)) (suc (suc zero)) d lower within = absurd (omega arith)
three_pairs R x y z xy xz yz i (suc (suc (suc j))) d lower within = absurd (omega arith)

named_in_three : (i : ℕ) → i + 1 < 3 → IsNamedLater (one_at_three ∷ four_at_six ∷ four_at_five ∷ []) i
named_in_three zero h = (1, four_at_six, omega arith, refl, (0, omega arith, refl))
named_in_three (suc zero) h = (2, four_at_five, omega arith, refl, (0, omega arith, refl))
named_in_three (suc (suc i)) h = absurd (omega arith)

-- the lengths of entries, apart
length_of : LineValue → ℕ
length_of l = l.claim.entry.n

apart : (l m : LineValue) → (length_of l ≡ length_of m → ⊥) → l.claim ≢ m.claim
unfolding length_of
apart l m other = λ same. other (ap (λ (c : Claim). c.entry.n) same)

pub returns-clause-three_lines : goal.returns-clause-three_lines
unfolding length_of
returns-clause-three_lines c = record {
  derivation = derivation;
  ends = refl;
  different = three_pairs (λ (l m : LineValue). l.claim ≢ m.claim) one_at_three four_at_six four_at_five
      (apart one_at_three four_at_six (λ h. absurd (omega arith)))
      (apart one_at_three four_at_five (λ h. absurd (omega arith)))
      (apart four_at_six four_at_five (λ h. absurd (omega arith)));
  named = named_in_three;
}

pub returns-clause-other_value : goal.returns-clause-other_value
returns-clause-other_value c = λ h. other (ap (λ (x : Claim). x.value) (same_Some (claim_at (lower_at 5 3) 4) (claim_at (lower_at 5 3) 3) h.ends))
  where
    other : ◌≡◌ {A = ℕ} 4 3 → ⊥
    other h = absurd (omega arith)

pub returns-clause-not_needed : goal.returns-clause-not_needed
returns-clause-not_needed c = λ h. none (h.named 0 (omega arith))
  where
    none : IsNamedLater (one_at_four ∷ one_at_three ∷ []) 0 → ⊥
    none (zero, l, lower, at, has) = absurd (omega arith)
    none (suc zero, l, lower, at, has) =
        let from = ap (λ (m : LineValue). m.from) (same_Some one_at_three l at) in
        let size : length l.from ≡ 0 = ap length (sym from) in
        absurd (omega (arith, has.1))
    none (suc (suc j), l, lower, at, has) = none-some l at

pub returns-clause-twice : goal.returns-clause-twice
returns-clause-twice c = λ h. h.different 0 1 one_at_three (omega arith) (omega arith) refl

pub returns-clause-part : goal.returns-clause-part
unfolding row_of
returns-clause-part c = by_piece 2 0 (by_line 2 (0, omega arith, refl)) (0, omega arith, refl)

pub returns-clause-no_part : goal.returns-clause-no_part
unfolding row_of
returns-clause-no_part c = λ h. one_not_needed 1 h refl
  where
    of_place : (k q : ℕ) → Contains (slice_index_or ([] ∷ [] ∷ (0 ∷ []) ∷ []) k []) q → q ≡ 0
    of_place zero q has = absurd (let within = has.1 in omega arith)
    of_place (suc zero) q has = absurd (let within = has.1 in omega arith)
    of_place (suc (suc zero)) q (zero, within, is) = sym is
    of_place (suc (suc zero)) q (suc k, within, is) = absurd (omega arith)
    of_place (suc (suc (suc k))) q has = absurd (let within = has.1 in omega arith)

    one_not_needed : (p : ℕ) → IsNeeded ([] ∷ [] ∷ (0 ∷ []) ∷ []) (four_by_support 2 ∷ []) p → p ≡ 1 → ⊥
    one_not_needed p (by_line q (zero, within, two)) is = absurd (omega arith)
    one_not_needed p (by_line q (suc k, within, two)) is = absurd (omega arith)
    one_not_needed p (by_piece r q needed has) is = let none = of_place r q has in absurd (omega arith)
