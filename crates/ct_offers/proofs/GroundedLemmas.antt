-- The rules of a slot with neither numbers nor a support, where those that rest on nothing give nothing better than what stands.
use Rattle.std.proofs.Common.{◌≡◌, ℕ, ◌≤◌, ◌&&◌, true, if◌then◌else◌, List, [], All, Option, Some, None, refl, ap₂, le-leb}
use Rattle.std.proofs.lemmas.List.Elements.{All-from_recursion, recursion_from_All}
use Rattle.ct_words.specs.declared.claim.Side.{Side}
use Rattle.ct_words.specs.declared.claim.Side.TheVariants.{Lower, Upper}
use Rattle.ct_words.specs.declared.entry.Entry.{Entry}
use Rattle.ct_words.specs.Entry.{IsEntry, unrestricted, constant_weight}
use Rattle.ct_rule_parts.specs.declared.support.Support.{Support}
use Rattle.ct_rule_parts.specs.Slot.{Slot, IsNoBetter}
use Rattle.ct_rules.specs.declared.rule.Rule.{Rule}
use Rattle.ct_rules.specs.declared.rule.Rule.TheVariants.{L1, L2, M1, M2, M9, U0, U1, U2, U3, V0, V1, V2, V8}
use Rattle.ct_rules.specs.declared.rule.TheConstants.{LOWER_RULES, UPPER_RULES, LOWER_WEIGHT_RULES, UPPER_WEIGHT_RULES}
use Rattle.ct_rules.specs.Listing.{rules_alone}
use Rattle.ct_rules.specs.Rule.{row_of, rule_side, named_place, parts_of}
use Rattle.ct_offers.specs.Offers.{value_over, AreGrounded, IsWithin}
use Rattle.ct_offers.specs.Inside.Pulled.{resting_rules}
use Rattle.ct_offers.proofs.PulledLemmas.{within_better}

-- a rule that rests on nothing gives nothing better than a bound that is no worse than what stands
from_ground : (supports : List Support) (f : Slot → ℕ) (r : Rule) (e : Entry) (best : ℕ) → AreGrounded supports f → IsEntry e
    → named_place r ≡ None → (parts_of r None).rests_on e ≡ [] → IsNoBetter (rule_side r) (f (rule_side r, e)) best
    → IsWithin supports f (rule_side r, e) best r
from_ground supports f r e best grounded entry none nothing worse =
    within_better supports f (rule_side r, e) (f (rule_side r, e)) best r worse (grounded r e entry none nothing)

-- so where those that rest on a bound give nothing better, no rule of these does
but_grounds : (supports : List Support) (f : Slot → ℕ) (side : Side) (n d : ℕ) (w : Option ℕ) (best : ℕ) → AreGrounded supports f
    → IsEntry (record { n = n; d = d; w = w })
    → IsNoBetter side (f (side, record { n = n; d = d; w = w })) best
    → All (IsWithin supports f (side, record { n = n; d = d; w = w }) best) (resting_rules (side, record { n = n; d = d; w = w }))
    → All (IsWithin supports f (side, record { n = n; d = d; w = w }) best) (rules_alone (side, record { n = n; d = d; w = w }))
unfolding row_of
but_grounds supports f Lower n d None best grounded entry worse resting =
    let e : Entry = unrestricted n d in
    let s : Slot = (Lower, e) in
    let asked = recursion_from_All (IsWithin supports f s best) (resting_rules s) resting in
    All-from_recursion (IsWithin supports f s best) LOWER_RULES (
      from_ground supports f L1 e best grounded entry refl refl worse,
      (
        from_ground supports f L2 e best grounded entry refl refl worse,
        asked,
      ),
    )
but_grounds supports f Lower n d (Some w) best grounded entry worse resting =
    let e : Entry = constant_weight n d w in
    let s : Slot = (Lower, e) in
    let asked = recursion_from_All (IsWithin supports f s best) (resting_rules s) resting in
    All-from_recursion (IsWithin supports f s best) LOWER_WEIGHT_RULES (
      from_ground supports f M1 e best grounded entry refl refl worse,
      (
        from_ground supports f M2 e best grounded entry refl refl worse,
        asked,
      ),
    )
but_grounds supports f Upper n d None best grounded entry worse resting =
    let e : Entry = unrestricted n d in
    let s : Slot = (Upper, e) in
    let asked = recursion_from_All (IsWithin supports f s best) (resting_rules s) resting in
    All-from_recursion (IsWithin supports f s best) UPPER_RULES (
      from_ground supports f U0 e best grounded entry refl refl worse,
      (
        from_ground supports f U1 e best grounded entry refl refl worse,
        (
          from_ground supports f U2 e best grounded entry refl refl worse,
          (
            from_ground supports f U3 e best grounded entry refl refl worse,
            asked,
          ),
        ),
      ),
    )
but_grounds supports f Upper n d (Some w) best grounded entry worse resting =
    let e : Entry = constant_weight n d w in
    let s : Slot = (Upper, e) in
    let asked = recursion_from_All (IsWithin supports f s best) (resting_rules s) resting in
    All-from_recursion (IsWithin supports f s best) UPPER_WEIGHT_RULES (
      from_ground supports f V0 e best grounded entry refl refl worse,
      (
        from_ground supports f V1 e best grounded entry refl refl worse,
        (
          from_ground supports f V2 e best grounded entry refl refl worse,
          (
            asked.0,
            (
              asked.1.0,
              (
                asked.1.1.0,
                (
                  asked.1.1.1.0,
                  (
                    asked.1.1.1.1.0,
                    (
                      from_ground supports f V8 e best grounded entry refl refl worse,
                      tt,
                    ),
                  ),
                ),
              ),
            ),
          ),
        ),
      ),
    )

pub all_but_grounds : (supports : List Support) (f : Slot → ℕ) (side : Side) (e : Entry) (best : ℕ) → AreGrounded supports f → IsEntry e
    → IsNoBetter side (f (side, e)) best → All (IsWithin supports f (side, e) best) (resting_rules (side, e))
    → All (IsWithin supports f (side, e) best) (rules_alone (side, e))
all_but_grounds supports f side e best grounded entry worse resting =
    but_grounds supports f side e.n e.d e.w best grounded entry worse resting

-- nor does a sum class
pub class_grounded : (supports : List Support) (f : Slot → ℕ) (e : Entry) (k : ℕ) → AreGrounded supports f → IsEntry e
    → IsWithin supports f (Lower, e) (f (Lower, e)) (M9 k)
unfolding row_of
class_grounded supports f e k grounded entry = grounded (M9 k) e entry refl refl

-- opposite words give two where there is room for them
two_over : (supports : List Support) (f : Slot → ℕ) (n d : ℕ) → IsEntry (unrestricted n d) → d ≤ n
    → value_over supports f L2 (unrestricted n d) ≡ Some 2
unfolding row_of
two_over supports f n d entry near =
    ap₂ (λ a b. if a && b && true then (if a && b && true then Some 2 else None) else None) entry (le-leb d n near)

-- so where no rule of a slot gives anything better than a bound, this is two at least
pub two_below : (supports : List Support) (f : Slot → ℕ) (e : Entry) (best : ℕ) → IsEntry e → e.w ≡ None → e.d ≤ e.n
    → All (IsWithin supports f (Lower, e) best) (rules_alone (Lower, e)) → 2 ≤ best
two_below supports f e best = go e.n e.d e.w
  where
    go : (n d : ℕ) (w : Option ℕ) → IsEntry (record { n = n; d = d; w = w }) → w ≡ None → d ≤ n
        → All (IsWithin supports f (Lower, record { n = n; d = d; w = w }) best) (rules_alone (Lower, record { n = n; d = d; w = w })) → 2 ≤ best
    go n d None entry none near alone =
        let each = recursion_from_All (IsWithin supports f (Lower, unrestricted n d) best) LOWER_RULES alone in
        each.1.0 2 (two_over supports f n d entry near)
    go n d (Some w) entry none near alone = absurd cc
