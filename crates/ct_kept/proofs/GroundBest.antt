-- No rule that rests on nothing betters a bound that neither the rules of the slot that are asked better, nor the sum classes.
use Rattle.std.proofs.Common.{◌≡◌, ℕ, length, Bool, true, false, if◌then◌else◌, List, [], ◌∷◌, All, Contains, Option, Some, None, refl, sym, subst, ap, ◌∙◌, inl, inr, arith}
use Rattle.std.specs.Prelude.{nat_lt}
use Rattle.std.proofs.lemmas.Bool.{false≢true}
use Rattle.std.proofs.lemmas.List.Elements.{All-contains, All-from_recursion, recursion_from_All}
use Rattle.ct_words.specs.declared.claim.Side.{Side}
use Rattle.ct_words.specs.declared.claim.Side.TheVariants.{Lower, Upper}
use Rattle.ct_words.specs.declared.entry.Entry.{Entry}
use Rattle.ct_words.specs.Entry.{unrestricted, constant_weight}
use Rattle.ct_rule_parts.specs.Parts.{RuleParts}
use Rattle.ct_rule_parts.specs.Slot.{Slot, IsNoBetter}
use Rattle.ct_rules.specs.declared.rule.Rule.{Rule}
use Rattle.ct_rules.specs.declared.rule.Rule.TheVariants.{L2, L9, L11, M2, M9, U1, U2, U3, U9, U10, V1, V2, V8}
use Rattle.ct_rules.specs.declared.rule.TheConstants.{LOWER_RULES, UPPER_RULES, LOWER_WEIGHT_RULES, UPPER_WEIGHT_RULES}
use Rattle.ct_rules.specs.Listing.{rules_alone}
use Rattle.ct_rules.specs.Rule.{row_of, rule_side, is_alone, is_by_weight, parts_over, value_of}
use Rattle.ct_rules.proofs.Applied.{IsDefined, defined, applies_from_value}
use Rattle.ct_rules.proofs.ClosedBounds.{no_better-trans}
use Rattle.ct_rules.proofs.LawfulRows.{alone_at, alone-parts, not_alone}
use Rattle.ct_kept.specs.Kept.{RestsOnNothing, IsGroundBound}
use Rattle.ct_kept.specs.Inside.Ground.{IsGroundWithin, first_ground_rule, other_ground_rules}
use Rattle.ct_kept.proofs.GroundLemmas.{ground_within_better}

-- what rests on something does not rest on nothing
full : {X : Type 0} {x : X} {xs : List X} → x ∷ xs ≡ [] → ⊥
full {X} {x} {xs} h = let lengths = ap (λ (ys : List X). length ys) h in omega arith

one_or_two : {X : Type 0} (b : Bool) (x y z : X) → (if b then x ∷ [] else y ∷ z ∷ []) ≡ [] → ⊥
one_or_two true x y z h = full h
one_or_two false x y z h = full h

sums_rest : (m c : ℕ) (e : Entry) → RestsOnNothing (L11 m c) e → ⊥
unfolding row_of
sums_rest m c e nothing = full nothing.1

weights_rest : (r : Rule) (e : Entry) → is_by_weight r ≡ true → RestsOnNothing r e → ⊥
unfolding row_of
weights_rest (L9 w) e by nothing = full nothing.1
weights_rest U9 e by nothing = full nothing.1
weights_rest (U10 w) e by nothing = full nothing.1
weights_rest r e by nothing = false≢true by

-- the rules of a slot with neither numbers nor a support: those that rest on nothing were asked
alone_grounds : (side : Side) (n d : ℕ) (w : Option ℕ) (v : ℕ)
    → IsGroundWithin (side, record { n = n; d = d; w = w }) v (first_ground_rule (side, record { n = n; d = d; w = w }))
    → All (IsGroundWithin (side, record { n = n; d = d; w = w }) v) (other_ground_rules (side, record { n = n; d = d; w = w }))
    → All (λ r. RestsOnNothing r (record { n = n; d = d; w = w }) → IsGroundWithin (side, record { n = n; d = d; w = w }) v r)
    (rules_alone (side, record { n = n; d = d; w = w }))
unfolding row_of
alone_grounds Lower n d None v first others =
    let e : Entry = unrestricted n d in
    let asked = recursion_from_All (IsGroundWithin (Lower, e) v) (L2 ∷ []) others in
    All-from_recursion (λ r. RestsOnNothing r e → IsGroundWithin (Lower, e) v r) LOWER_RULES (
      λ nothing. first,
      (
        λ nothing. asked.0,
        (
          λ nothing. absurd (full nothing.1),
          (
            λ nothing. absurd (full nothing.1),
            (
              λ nothing. absurd (full nothing.1),
              (
                λ nothing. absurd (full nothing.1),
                (
                  λ nothing. absurd (full nothing.1),
                  (
                    λ nothing. absurd (one_or_two (nat_lt d 5) _ _ _ nothing.1),
                    tt,
                  ),
                ),
              ),
            ),
          ),
        ),
      ),
    )
alone_grounds Lower n d (Some w) v first others =
    let e : Entry = constant_weight n d w in
    let asked = recursion_from_All (IsGroundWithin (Lower, e) v) (M2 ∷ []) others in
    All-from_recursion (λ r. RestsOnNothing r e → IsGroundWithin (Lower, e) v r) LOWER_WEIGHT_RULES (
      λ nothing. first,
      (
        λ nothing. asked.0,
        (
          λ nothing. absurd (full nothing.1),
          (
            λ nothing. absurd (full nothing.1),
            (
              λ nothing. absurd (full nothing.1),
              (
                λ nothing. absurd (full nothing.1),
                (
                  λ nothing. absurd (full nothing.1),
                  (
                    λ nothing. absurd (full nothing.1),
                    tt,
                  ),
                ),
              ),
            ),
          ),
        ),
      ),
    )
alone_grounds Upper n d None v first others =
    let e : Entry = unrestricted n d in
    let asked = recursion_from_All (IsGroundWithin (Upper, e) v) (U1 ∷ U2 ∷ U3 ∷ []) others in
    All-from_recursion (λ r. RestsOnNothing r e → IsGroundWithin (Upper, e) v r) UPPER_RULES (
      λ nothing. first,
      (
        λ nothing. asked.0,
        (
          λ nothing. asked.1.0,
          (
            λ nothing. asked.1.1.0,
            (
              λ nothing. absurd (full nothing.1),
              (
                λ nothing. absurd (full nothing.1),
                (
                  λ nothing. absurd (full nothing.1),
                  (
                    λ nothing. absurd (full nothing.1),
                    (
                      λ nothing. absurd (full nothing.1),
                      tt,
                    ),
                  ),
                ),
              ),
            ),
          ),
        ),
      ),
    )
alone_grounds Upper n d (Some w) v first others =
    let e : Entry = constant_weight n d w in
    let asked = recursion_from_All (IsGroundWithin (Upper, e) v) (V1 ∷ V2 ∷ V8 ∷ []) others in
    All-from_recursion (λ r. RestsOnNothing r e → IsGroundWithin (Upper, e) v r) UPPER_WEIGHT_RULES (
      λ nothing. first,
      (
        λ nothing. asked.0,
        (
          λ nothing. asked.1.0,
          (
            λ nothing. absurd (full nothing.1),
            (
              λ nothing. absurd (full nothing.1),
              (
                λ nothing. absurd (full nothing.1),
                (
                  λ nothing. absurd (full nothing.1),
                  (
                    λ nothing. absurd (full nothing.1),
                    (
                      λ nothing. asked.1.1.0,
                      tt,
                    ),
                  ),
                ),
              ),
            ),
          ),
        ),
      ),
    )

-- a sum class bounds from below
class_below : (k : ℕ) → rule_side (M9 k) ≡ Lower
unfolding row_of
class_below k = refl

pub ground_bound : (side : Side) (e : Entry) (v : ℕ) → IsGroundWithin (side, e) v (first_ground_rule (side, e))
    → All (IsGroundWithin (side, e) v) (other_ground_rules (side, e)) → (side ≡ Lower → (k : ℕ) → IsGroundWithin (side, e) v (M9 k))
    → IsGroundBound (side, e) v
ground_bound side e v first others classes r u same nothing value = by_alone (is_alone r) refl
  where
    is : IsDefined (parts_over [] r) e
    is = defined (parts_over [] r) e (applies_from_value [] r e [] u value)

    listed : is_alone r ≡ true → Contains (rules_alone (side, e)) r
    listed alone =
        subst (λ (t : Side). Contains (rules_alone (t, e)) r) same
        (alone_at r e.n e.d e.w alone (subst (λ (p : RuleParts). p.condition e ≡ true) (alone-parts r [] alone) is.condition))

    sum : (m c : ℕ) → r ≡ L11 m c → ⊥
    sum m c written = sums_rest m c e (subst (λ (q : Rule). RestsOnNothing q e) written nothing)

    by_class : (k : ℕ) → r ≡ M9 k → IsNoBetter side u v
    by_class k written =
        classes (sym same ∙ ap rule_side written ∙ class_below k) k u
        (subst (λ (q : Rule). value_of [] q e [] ≡ Some u) written value)

    by_alone : (b : Bool) → is_alone r ≡ b → IsNoBetter side u v
    by_alone true alone =
        All-contains (λ q. RestsOnNothing q e → IsGroundWithin (side, e) v q) (rules_alone (side, e)) r
        (alone_grounds side e.n e.d e.w v first others) (listed alone) nothing u value
    by_alone false alone = elim (not_alone r nothing.0 alone) [
      | inl numbers ↦ absurd (sum numbers.0 numbers.1 numbers.2)
      | inr (inl class) ↦ by_class class.0 class.1
      | inr (inr by) ↦ absurd (weights_rest r e by nothing)
    ]

-- so the best of the first rule and of the one other from below, without weight and with one
pub best_of_two : (e : Entry) (r : Rule) (u v : ℕ) → other_ground_rules (Lower, e) ≡ r ∷ []
    → IsGroundWithin (Lower, e) u (first_ground_rule (Lower, e)) → IsNoBetter Lower u v → IsGroundWithin (Lower, e) v r
    → (x : ℕ) → IsNoBetter Lower v x → ((k : ℕ) → IsGroundWithin (Lower, e) x (M9 k)) → IsGroundBound (Lower, e) x
best_of_two e r u v others first worse within x last classes =
    let s : Slot = (Lower, e) in
    ground_bound Lower e x
    (ground_within_better s u x (first_ground_rule s) (no_better-trans Lower u v x worse last) first)
    (subst (All (IsGroundWithin s x)) (sym others)
    (All-from_recursion (IsGroundWithin s x) (r ∷ []) (ground_within_better s v x r last within, tt)))
    (λ low. classes)

-- and that of the first rule and of the three others from above
pub best_of_four : (e : Entry) (p q r : Rule) (u v x y : ℕ) → other_ground_rules (Upper, e) ≡ p ∷ q ∷ r ∷ []
    → IsGroundWithin (Upper, e) u (first_ground_rule (Upper, e)) → IsNoBetter Upper u v → IsGroundWithin (Upper, e) v p
    → IsNoBetter Upper v x → IsGroundWithin (Upper, e) x q → IsNoBetter Upper x y → IsGroundWithin (Upper, e) y r → IsGroundBound (Upper, e) y
best_of_four e p q r u v x y others first second p_within third q_within fourth r_within =
    let s : Slot = (Upper, e) in
    let rest = no_better-trans Upper v x y third fourth in
    ground_bound Upper e y
    (ground_within_better s u y (first_ground_rule s) (no_better-trans Upper u v y second rest) first)
    (subst (All (IsGroundWithin s y)) (sym others)
    (All-from_recursion (IsGroundWithin s y) (p ∷ q ∷ r ∷ [])
    (ground_within_better s v y p rest p_within, (ground_within_better s x y q fourth q_within, (r_within, tt)))))
    (λ low. absurd cc)
