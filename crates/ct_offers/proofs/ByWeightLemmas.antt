-- The rules that lead from entries with weight to those without, in the closing of a table.
use Rattle.std.proofs.Common.{◌≡◌, ℕ, ◌+◌, ◌-◌, ◌*◌, ◌<◌, ◌≤◌, ◌%◌, min, List, map, Some, None, true, false, refl, sym, subst, ◌∙◌, arith, inl, inr}
use Rattle.std.specs.Prelude.{Option}
use Rattle.std.proofs.lemmas.Bool.{and_parts, false≢true, cases_lt}
use Rattle.std.proofs.lemmas.Option.{same_Some}
use Rattle.ct_words.specs.declared.claim.Side.{Side}
use Rattle.ct_words.specs.declared.claim.Side.TheVariants.{Lower, Upper}
use Rattle.ct_words.specs.declared.entry.Entry.{Entry}
use Rattle.ct_words.specs.Claim.{IsTrueClaim}
use Rattle.ct_words.specs.Entry.{IsEntry, is_entry, constant_weight}
use Rattle.ct_words.proofs.DigitCodes.{bound_from_weight}
use Rattle.ct_words.proofs.EntryLemmas.{entry_limits}
use Rattle.ct_rule_parts.specs.declared.support.Support.{Support}
use Rattle.ct_johnson.proofs.Weights.{weight_bound-apart}
use Rattle.ct_rule_parts.specs.Parts.{half_up}
use Rattle.ct_rule_parts.specs.Slot.{Slot, claim_at}
use Rattle.ct_rule_parts.proofs.PlainEntries.{one_item, two_items}
use Rattle.ct_weight_rules.specs.Neighbours.{of_weight, even_of_weight, around, unweighted, unweighted_and_nearer}
use Rattle.ct_weight_rules.specs.WithoutWeight.{without_weight}
use Rattle.ct_weight_rules.specs.EliasBassalygo.{elias_bassalygo}
use Rattle.ct_weight_rules.specs.Johnson.{johnson_above}
use Rattle.ct_rules.specs.declared.rule.Rule.{Rule}
use Rattle.ct_rules.specs.declared.rule.Rule.TheVariants.{L9, U9, U10}
use Rattle.ct_rules.specs.Closed.{AreTrue}
use Rattle.ct_rules.specs.Inside.RestedOn.{rested_on_by}
use Rattle.ct_rules.specs.Rule.{row_of, rule_side, is_by_weight, applies, premises_at}
use Rattle.ct_rules.proofs.Applied.{defined, value_where_applies}
use Rattle.ct_rules.proofs.RestedRows.{leads_back}
use Rattle.ct_slots.specs.Worklist.{WorkValue}
use Rattle.ct_offers.specs.Inside.Marking.{KeepsMarks, IsTestedAt, AreTestedByWeight}
use Rattle.ct_offers.specs.Offers.{value_over, IsWithin}
use Rattle.ct_offers.proofs.MarkingLemmas.{tested_at_more}
use Rattle.ct_offers.proofs.PullingLemmas.{over-applies}
use Rattle.ct_offers.proofs.SatisfiedLemmas.{value_over-defined}
use Rattle.ct_offers.proofs.JuxtapositionLemmas.{limited}

-- they are defined at entries without weight alone
plain_alone : (supports : List Support) (r : Rule) (n d k : ℕ) → is_by_weight r ≡ true
    → applies supports r (record { n = n; d = d; w = Some k }) ≡ true → false ≡ true
unfolding row_of
plain_alone supports (L9 v) n d k by here = (defined (without_weight v) (record { n = n; d = d; w = Some k }) here).condition
plain_alone supports U9 n d k by here = (defined johnson_above (record { n = n; d = d; w = Some k }) here).condition
plain_alone supports (U10 v) n d k by here = (defined (elias_bassalygo v) (record { n = n; d = d; w = Some k }) here).condition
plain_alone supports r n d k by here = absurd (false≢true by)

pub by_weight_none : (supports : List Support) (f : Slot → ℕ) (side : Side) (e : Entry) (k best : ℕ) → e.w ≡ Some k
    → (r : Rule) → is_by_weight r ≡ true → IsWithin supports f (side, e) best r
by_weight_none supports f side e k best weight r by v value =
    let here : applies supports r (record { n = e.n; d = e.d; w = e.w }) ≡ true = over-applies supports f r e v value in
    absurd (false≢true (plain_alone supports r e.n e.d k by
    (subst (λ (w : Option ℕ). applies supports r (record { n = e.n; d = e.d; w = w }) ≡ true) weight here)))

-- the weight of the entry that they rest on is not above the length
below_length : (supports : List Support) (v : ℕ) (e : Entry) → applies supports (L9 v) e ≡ true → v ≤ e.n
unfolding row_of
below_length supports v e here =
    (entry_limits (even_of_weight e v) (and_parts (is_entry (even_of_weight e v)) true (defined (without_weight v) e here).premises).0).weight.2

above_length : (supports : List Support) (v : ℕ) (e : Entry) → applies supports (U10 v) e ≡ true → v ≤ e.n
unfolding row_of
above_length supports v e here =
    (entry_limits (of_weight e v) (and_parts (is_entry (of_weight e v)) true (defined (elias_bassalygo v) e here).premises).0).weight.2

-- so none stands at an odd distance
pub odd_within : (supports : List Support) (f : Slot → ℕ) (e : Entry) (best : ℕ) → e.d % 2 ≡ 1 → (w : ℕ) → IsWithin supports f (Upper, e) best (U10 w)
unfolding row_of
odd_within supports f e best odd w v value =
    let here = over-applies supports f (U10 w) e v value in
    let even : e.d % 2 ≡ 0 = (entry_limits (of_weight e w) (and_parts (is_entry (of_weight e w)) true (defined (elias_bassalygo w) e here).premises).0).weight.0 in
    absurd (omega (arith, odd, even))

-- all of a side
pub by_weight_below : (supports : List Support) (f : Slot → ℕ) (e : Entry) (best : ℕ)
    → ((w : ℕ) → w ≤ e.n → IsWithin supports f (Lower, e) best (L9 w)) → (r : Rule) → is_by_weight r ≡ true
    → rule_side r ≡ Lower → IsWithin supports f (Lower, e) best r
unfolding row_of
by_weight_below supports f e best within (L9 w) by side = λ v value.
    within w (below_length supports w e (over-applies supports f (L9 w) e v value)) v value
by_weight_below supports f e best within U9 by side = let clash : Upper ≡ Lower = side in absurd cc
by_weight_below supports f e best within (U10 w) by side = let clash : Upper ≡ Lower = side in absurd cc
by_weight_below supports f e best within r by side = absurd (false≢true by)

pub by_weight_above : (supports : List Support) (f : Slot → ℕ) (e : Entry) (best : ℕ) → IsWithin supports f (Upper, e) best U9
    → ((w : ℕ) → w ≤ e.n → IsWithin supports f (Upper, e) best (U10 w)) → (r : Rule) → is_by_weight r ≡ true
    → rule_side r ≡ Upper → IsWithin supports f (Upper, e) best r
unfolding row_of
by_weight_above supports f e best own within (U10 w) by side = λ v value.
    within w (above_length supports w e (over-applies supports f (U10 w) e v value)) v value
by_weight_above supports f e best own within U9 by side = own
by_weight_above supports f e best own within (L9 w) by side = let clash : Lower ≡ Upper = side in absurd cc
by_weight_above supports f e best own within r by side = absurd (false≢true by)

-- from one side to its name
pub by_weight_on : (supports : List Support) (f : Slot → ℕ) (side own : Side) (e : Entry) (best : ℕ) → side ≡ own
    → ((r : Rule) → is_by_weight r ≡ true → rule_side r ≡ own → IsWithin supports f (own, e) best r)
    → (r : Rule) → is_by_weight r ≡ true → rule_side r ≡ side → IsWithin supports f (side, e) best r
by_weight_on supports f side own e best same each =
    subst (λ (s : Side). (r : Rule) → is_by_weight r ≡ true → rule_side r ≡ s → IsWithin supports f (s, e) best r) (sym same) each

-- what a code of constant weight gives
weight_value : (supports : List Support) (f : Slot → ℕ) (w : ℕ) (e : Entry) → AreTrue f → applies supports (L9 w) e ≡ true
    → IsEntry (even_of_weight e w) × (value_over supports f (L9 w) e ≡ Some (f (Lower, even_of_weight e w)))
unfolding row_of
weight_value supports f w e truth h =
    let premise = (and_parts (is_entry (even_of_weight e w)) true (defined (without_weight w) e h).premises).0 in (
      premise,
      value_over-defined supports f (L9 w) e h
          ∙ value_where_applies supports (L9 w) e (map f (premises_at supports (L9 w) e)) h
          ∙ limited (f (Lower, even_of_weight e w)) (truth (Lower, even_of_weight e w) premise).range.1,
    )

-- a true lower bound where no two words of the weight are so far apart
far_weight : (n d w v : ℕ) → 2 * min w (n - w) < d → IsTrueClaim (claim_at (Lower, constant_weight n d w) v) → v ≤ 1
far_weight n d w v far claim =
    let words = claim.truth in
    let few = bound_from_weight n d w 1 (weight_bound-apart n d w far) words.0 words.1 in
    omega (arith, few, words.2)

-- so weights with as many ones, and as many zeros, as half of the distance are enough
pub weights_enough : (supports : List Support) (f : Slot → ℕ) (e : Entry) (best half end : ℕ) → AreTrue f → 1 ≤ best
    → half ≡ half_up e.d → e.n + 1 ≤ end + half → ((w : ℕ) → half ≤ w → w < end → IsWithin supports f (Lower, e) best (L9 w))
    → (w : ℕ) → w ≤ e.n → IsWithin supports f (Lower, e) best (L9 w)
weights_enough supports f e best half end truth some is enough looked w within = elim (cases_lt w half) [
  | inl few ↦ far (omega arith)
  | inr from ↦ elim (cases_lt w end) [
    | inl below ↦ looked w from below
    | inr above ↦ far (omega arith)
  ]
]
  where
    far : 2 * min w (e.n - w) < 2 * half_up e.d → IsWithin supports f (Lower, e) best (L9 w)
    far apart v value =
        let given = weight_value supports f w e truth (over-applies supports f (L9 w) e v value) in
        let same = same_Some (f (Lower, even_of_weight e w)) v (sym given.1 ∙ value) in
        let one = far_weight e.n (2 * half_up e.d) w (f (Lower, even_of_weight e w)) apart (truth (Lower, even_of_weight e w) given.0) in
        omega (arith, same, one, some)

-- an entry that rests on one with a weight by such a rule is one of two, and the rule has that weight
pub tested_below : (supports : List Support) (bounds : List ℕ) (work : WorkValue) (f : Entry) (w : ℕ) → f.w ≡ Some w
    → IsTestedAt supports bounds work (L9 w) (unweighted f) → IsTestedAt supports bounds work (L9 w) (unweighted_and_nearer f)
    → AreTestedByWeight supports bounds work (Lower, f)
unfolding row_of rested_on_by
tested_below supports bounds work f w weight same nearer (L9 v) e by side here rests =
    let named : f.w ≡ Some v = one_item (λ g. g.w ≡ Some v) (even_of_weight e v) f refl rests in
    let is : w ≡ v = same_Some w v (sym weight ∙ named) in
    subst (λ u. IsTestedAt supports bounds work (L9 u) e) is
    (two_items (λ g. IsTestedAt supports bounds work (L9 w) g) (unweighted f) (unweighted_and_nearer f) e same nearer
    (leads_back (L9 v) None e f here rests))
tested_below supports bounds work f w weight same nearer U9 e by side here rests = let clash : Upper ≡ Lower = side in absurd cc
tested_below supports bounds work f w weight same nearer (U10 v) e by side here rests = let clash : Upper ≡ Lower = side in absurd cc
tested_below supports bounds work f w weight same nearer r e by side here rests = absurd (false≢true by)

pub tested_above : (supports : List Support) (bounds : List ℕ) (work : WorkValue) (f : Entry) (w : ℕ) → f.w ≡ Some w
    → IsTestedAt supports bounds work (U10 w) (unweighted f) → (w + 1 ≡ f.d → IsTestedAt supports bounds work U9 (unweighted_and_nearer f))
    → AreTestedByWeight supports bounds work (Upper, f)
unfolding row_of rested_on_by
tested_above supports bounds work f w weight same nearer (U10 v) e by side here rests =
    let named : f.w ≡ Some v = one_item (λ g. g.w ≡ Some v) (of_weight e v) f refl rests in
    let is : w ≡ v = same_Some w v (sym weight ∙ named) in
    subst (λ u. IsTestedAt supports bounds work (U10 u) e) is
    (one_item (λ g. IsTestedAt supports bounds work (U10 w) g) (unweighted f) e same (leads_back (U10 v) None e f here rests))
tested_above supports bounds work f w weight same nearer U9 e by side here rests =
    let named : f.w ≡ Some e.d = one_item (λ g. g.w ≡ Some e.d) (around e) f refl rests in
    let farther : f.d ≡ e.d + 1 = one_item (λ g. g.d ≡ e.d + 1) (around e) f refl rests in
    let is : w ≡ e.d = same_Some w e.d (sym weight ∙ named) in
    one_item (λ g. IsTestedAt supports bounds work U9 g) (unweighted_and_nearer f) e (nearer (omega arith)) (leads_back U9 None e f here rests)
tested_above supports bounds work f w weight same nearer (L9 v) e by side here rests = let clash : Lower ≡ Upper = side in absurd cc
tested_above supports bounds work f w weight same nearer r e by side here rests = absurd (false≢true by)

-- none rests on an entry without weight
pub tested_by_none : (supports : List Support) (bounds : List ℕ) (work : WorkValue) (side : Side) (f : Entry) → f.w ≡ None
    → AreTestedByWeight supports bounds work (side, f)
unfolding row_of
tested_by_none supports bounds work side f none (L9 v) e by same here rests =
    let named : f.w ≡ Some v = one_item (λ g. g.w ≡ Some v) (even_of_weight e v) f refl rests in
    let clash : None ≡ Some v = sym none ∙ named in absurd cc
tested_by_none supports bounds work side f none U9 e by same here rests =
    let named : f.w ≡ Some e.d = one_item (λ g. g.w ≡ Some e.d) (around e) f refl rests in
    let clash : None ≡ Some e.d = sym none ∙ named in absurd cc
tested_by_none supports bounds work side f none (U10 v) e by same here rests =
    let named : f.w ≡ Some v = one_item (λ g. g.w ≡ Some v) (of_weight e v) f refl rests in
    let clash : None ≡ Some v = sym none ∙ named in absurd cc
tested_by_none supports bounds work side f none r e by same here rests = absurd (false≢true by)

-- both were tested, one after the other
pub marked_below : (supports : List Support) (bounds : List ℕ) (first second : WorkValue) (side : Side) (f same nearer : Entry) (w : ℕ)
    → side ≡ Lower → f.w ≡ Some w → same ≡ unweighted f → nearer ≡ unweighted_and_nearer f → KeepsMarks first second
    → IsTestedAt supports bounds first (L9 w) same → IsTestedAt supports bounds second (L9 w) nearer
    → AreTestedByWeight supports bounds second (side, f)
marked_below supports bounds first second side f same nearer w low weight is_same is_nearer keeps one other =
    subst (λ (s : Side). AreTestedByWeight supports bounds second (s, f)) (sym low)
    (tested_below supports bounds second f w weight
    (subst (IsTestedAt supports bounds second (L9 w)) is_same (tested_at_more supports bounds first second (L9 w) same keeps one))
    (subst (IsTestedAt supports bounds second (L9 w)) is_nearer other))

pub marked_above : (supports : List Support) (bounds : List ℕ) (first second : WorkValue) (side : Side) (f same nearer : Entry) (w : ℕ)
    → side ≡ Upper → f.w ≡ Some w → same ≡ unweighted f → nearer ≡ unweighted_and_nearer f → KeepsMarks first second
    → IsTestedAt supports bounds first (U10 w) same → (w + 1 ≡ f.d → IsTestedAt supports bounds second U9 nearer)
    → AreTestedByWeight supports bounds second (side, f)
marked_above supports bounds first second side f same nearer w up weight is_same is_nearer keeps one other =
    subst (λ (s : Side). AreTestedByWeight supports bounds second (s, f)) (sym up)
    (tested_above supports bounds second f w weight
    (subst (IsTestedAt supports bounds second (U10 w)) is_same (tested_at_more supports bounds first second (U10 w) same keeps one))
    (λ odd. subst (IsTestedAt supports bounds second U9) is_nearer (other odd)))
