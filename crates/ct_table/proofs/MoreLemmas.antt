-- What more supports change: only the rules that name one of them.
use Rattle.std.proofs.Common.{◌≡◌, ℕ, zero, suc, ◌+◌, ◌-◌, ◌≤◌, List, [], ◌∷◌, ◌++◌, length, map, Option, Some, None, Bool, true, false, not, slice_get, refl, sym, ap, subst, ◌∙◌, inl, inr, arith}
use Rattle.std.specs.Prelude.{if◌then◌else◌, is_some}
use Rattle.std.proofs.lemmas.Bool.{and_parts, cases_lt, not-true, false≢true}
use Rattle.std.proofs.lemmas.Option.{none-some, same_Some}
use Rattle.ct_words.specs.declared.claim.Side.{Side}
use Rattle.ct_words.specs.declared.claim.Side.TheVariants.{Lower, Upper}
use Rattle.ct_words.specs.declared.entry.Entry.{Entry}
use Rattle.ct_words.specs.Entry.{IsEntry, same_entry}
use Rattle.ct_words.proofs.EntryLemmas.{same_entry_is}
use Rattle.ct_rule_parts.specs.declared.support.Support.{Support}
use Rattle.ct_rule_parts.specs.declared.support.Support.TheVariants.{Nothing, Size, Bound, Odd, Local}
use Rattle.ct_rule_parts.specs.Parts.{has_weight}
use Rattle.ct_rule_parts.specs.Slot.{Slot, IsNoBetter}
use Rattle.ct_rule_parts.specs.Support.{size_at, dual_at, odd_at, local_at, dual_behind}
use Rattle.ct_rule_parts.proofs.DualLemmas.{behind-bound, behind-odd, behind-local}
use Rattle.ct_rules.specs.declared.rule.Rule.{Rule}
use Rattle.ct_rules.specs.declared.rule.Rule.TheVariants.{L10, M10, U11, U12, V9, V10}
use Rattle.ct_rules.specs.Closed.{IsSatisfied, IsClosed}
use Rattle.ct_rules.specs.Rule.{row_of, rule_side, named_place, support_at, cited, parts_over, applies}
use Rattle.ct_rules.proofs.Applied.{defined, applies_from_premises}
use Rattle.ct_rule_parts.proofs.Places.{slice_get-append_left, slice_get-append_right}
use Rattle.ct_rules.proofs.LoweredRules.{premises_of-alike, value_of-alike}
use Rattle.ct_table.specs.Closing.{IsPending}
use Rattle.ct_slots.specs.Number.{bound_of}
use Rattle.ct_slots.specs.Places.{GivesTo, side_of_support, entry_of_support}
use Rattle.ct_slots.specs.Worklist.{WorkValue, IsMarked}
use Rattle.ct_offers.specs.Offers.{IsWithin}
use Rattle.ct_offers.specs.Inside.Pulled.{given_rule}
use Rattle.ct_offers.proofs.BoundingRules.{bounding-bound, bounding-odd, bounding-weighted, bounding-local}
use Rattle.ct_offers.proofs.SatisfiedLemmas.{satisfied_within}
use Rattle.ct_table.proofs.BaseLemmas.{cited-nothing}

-- a support that gives something to an entry of the table is one of that entry
pub gives_entry : (support : Support) (e : Entry) → GivesTo support e → IsEntry e → entry_of_support support ≡ Some e
gives_entry Nothing e (inl gives) entry = absurd (gives refl)
gives_entry Nothing e (inr gives) entry = absurd (gives refl)
gives_entry (Size f size) e (inr gives) entry = absurd (gives refl)
gives_entry (Bound a) e (inl gives) entry = absurd (gives refl)
gives_entry (Odd a m) e (inl gives) entry = absurd (gives refl)
gives_entry (Local a) e (inl gives) entry = absurd (gives refl)
gives_entry (Size f size) e (inl gives) entry = go (same_entry f e) refl
  where
    go : (b : Bool) → same_entry f e ≡ b → entry_of_support (Size f size) ≡ Some e
    go true is =
        let same : f ≡ e = same_entry_is f e is in
        ap (λ (b : Bool). if b then Some f else None) (subst IsEntry (sym same) entry) ∙ ap Some same
    go false is = absurd (gives (ap (λ (b : Bool). if b then Some size else None) is))
gives_entry (Bound a) e (inr gives) entry = go (same_entry a.dual.entry e) refl
  where
    go : (b : Bool) → same_entry a.dual.entry e ≡ b → entry_of_support (Bound a) ≡ Some e
    go true is =
        let same : a.dual.entry ≡ e = same_entry_is a.dual.entry e is in
        ap (λ (b : Bool). if b then Some a.dual.entry else None) (subst IsEntry (sym same) entry) ∙ ap Some same
    go false is =
        absurd (gives (ap (λ (b : Bool). if b then Some a else None) is))
gives_entry (Odd a m) e (inr gives) entry = go (same_entry a.dual.entry e) refl
  where
    go : (b : Bool) → same_entry a.dual.entry e ≡ b → entry_of_support (Odd a m) ≡ Some e
    go true is =
        let same : a.dual.entry ≡ e = same_entry_is a.dual.entry e is in
        ap (λ (b : Bool). if b then Some a.dual.entry else None) (subst IsEntry (sym same) entry) ∙ ap Some same
    go false is =
        absurd (gives (ap (λ (b : Bool). if b then Some a else None) is))
gives_entry (Local a) e (inr gives) entry = go (same_entry a.dual.entry e) refl
  where
    go : (b : Bool) → same_entry a.dual.entry e ≡ b → entry_of_support (Local a) ≡ Some e
    go true is =
        let same : a.dual.entry ≡ e = same_entry_is a.dual.entry e is in
        ap (λ (b : Bool). if b then Some a.dual.entry else None) (subst IsEntry (sym same) entry) ∙ ap Some same
    go false is =
        absurd (gives (ap (λ (b : Bool). if b then Some a else None) is))

-- a rule that is defined and names a support: it is the one by which that support gives something
pub record IsNamed (supports : List Support) (r : Rule) (place : ℕ) (e : Entry) : Type 0 where
  pub support : Support
  pub there : slice_get supports place ≡ Some support
  pub gives : GivesTo support e
  pub side : rule_side r ≡ side_of_support support
  pub rule : r ≡ given_rule (Some support) (side_of_support support, e) place

-- a support that gives something on a side
abbrev IsGiving : Option Support → Entry → Side → Type 0
IsGiving o e side = (support : Support) × (o ≡ Some support) × GivesTo support e × (side ≡ side_of_support support)

giving : (o : Option Support) (e : Entry) → is_some (size_at o e) ≡ true → IsGiving o e Lower
giving None e is = absurd (false≢true is)
giving (Some Nothing) e is = absurd (false≢true is)
giving (Some (Bound a)) e is = absurd (false≢true is)
giving (Some (Odd a m)) e is = absurd (false≢true is)
giving (Some (Local a)) e is = absurd (false≢true is)
giving (Some (Size f size)) e is = (Size f size, refl, inl (λ none. false≢true (sym (ap is_some none) ∙ is)), refl)

giving_dual : (o : Option Support) (e : Entry) → is_some (dual_behind o e) ≡ true → IsGiving o e Upper
giving_dual None e is = absurd (false≢true is)
giving_dual (Some Nothing) e is = absurd (false≢true is)
giving_dual (Some (Size f size)) e is = absurd (false≢true is)
giving_dual (Some (Bound a)) e is = (Bound a, refl, inr (λ none. false≢true (sym (ap is_some none) ∙ is)), refl)
giving_dual (Some (Odd a m)) e is = (Odd a m, refl, inr (λ none. false≢true (sym (ap is_some none) ∙ is)), refl)
giving_dual (Some (Local a)) e is = (Local a, refl, inr (λ none. false≢true (sym (ap is_some none) ∙ is)), refl)

named_by : (supports : List Support) (r : Rule) (p place : ℕ) (e : Entry) (side : Side) → p ≡ place → IsGiving (slice_get supports p) e side
    → rule_side r ≡ side → r ≡ given_rule (slice_get supports p) (side, e) p → IsNamed supports r place e
named_by supports r p place e side same one own rule = record {
  support = one.0;
  there = subst (λ (q : ℕ). slice_get supports q ≡ Some one.0) same one.1;
  gives = one.2;
  side = own ∙ one.3;
  rule =
      rule ∙ ap (λ (o : Option Support). given_rule o (side, e) p) one.1 ∙ ap (given_rule (Some one.0) (side, e)) same
      ∙ ap (λ (s : Side). given_rule (Some one.0) (s, e) place) one.3;
}

pub named : (supports : List Support) (r : Rule) (place : ℕ) (e : Entry) → named_place r ≡ Some place
    → applies supports r e ≡ true → IsNamed supports r place e
unfolding row_of
named supports (L10 p) place e names h =
    let is = defined (parts_over supports (L10 p)) e h in
    let parts = and_parts (not (has_weight e)) (is_some (size_at (slice_get supports p) e)) is.condition in
    named_by supports (L10 p) p place e Lower (same_Some p place names) (giving (slice_get supports p) e parts.1) refl
    (sym (ap (λ (b : Bool). if b then M10 p else L10 p) (not-true (has_weight e) parts.0)))
named supports (M10 p) place e names h =
    let is = defined (parts_over supports (M10 p)) e h in
    let parts = and_parts (has_weight e) (is_some (size_at (slice_get supports p) e)) is.condition in
    named_by supports (M10 p) p place e Lower (same_Some p place names) (giving (slice_get supports p) e parts.1) refl
    (sym (ap (λ (b : Bool). if b then M10 p else L10 p) parts.0))
named supports (U11 p) place e names h =
    let is = defined (parts_over supports (U11 p)) e h in
    let parts = and_parts (not (has_weight e)) (is_some (dual_at (slice_get supports p) e)) is.condition in
    named_by supports (U11 p) p place e Upper (same_Some p place names)
    (giving_dual (slice_get supports p) e (behind-bound (slice_get supports p) e parts.1)) refl
    (bounding-bound supports p e h)
named supports (U12 p) place e names h =
    let is = defined (parts_over supports (U12 p)) e h in
    let parts = and_parts (not (has_weight e)) (is_some (odd_at (slice_get supports p) e)) is.condition in
    named_by supports (U12 p) p place e Upper (same_Some p place names)
    (giving_dual (slice_get supports p) e (behind-odd (slice_get supports p) e parts.1)) refl
    (bounding-odd supports p e h)
named supports (V9 p) place e names h =
    let is = defined (parts_over supports (V9 p)) e h in
    let parts = and_parts (has_weight e) (is_some (dual_at (slice_get supports p) e)) is.condition in
    named_by supports (V9 p) p place e Upper (same_Some p place names)
    (giving_dual (slice_get supports p) e (behind-bound (slice_get supports p) e parts.1)) refl
    (bounding-weighted supports p e h)
named supports (V10 p) place e names h =
    let is = defined (parts_over supports (V10 p)) e h in
    let parts = and_parts (has_weight e) (is_some (local_at (slice_get supports p) e)) is.condition in
    named_by supports (V10 p) p place e Upper (same_Some p place names)
    (giving_dual (slice_get supports p) e (behind-local (slice_get supports p) e parts.1)) refl
    (bounding-local supports p e h)
named supports r place e names h = absurd (none-some place names)

-- one of more supports that gives something to the entry, by the rule that names it
pub record IsNew (olds added : List Support) (r : Rule) (e : Entry) : Type 0 where
  pub index : ℕ
  pub support : Support
  pub there : slice_get added index ≡ Some support
  pub gives : GivesTo support e
  pub side : rule_side r ≡ side_of_support support
  pub rule : r ≡ given_rule (Some support) (side_of_support support, e) (length olds + index)

-- a rule gives nothing better than what was closed, but where it names one of the new supports
pub satisfied_over_more : (olds added : List Support) (bounds : Slot → ℕ) (r : Rule) (e : Entry) → IsClosed olds bounds
    → (IsEntry e → IsNew olds added r e → IsSatisfied (olds ++ added) bounds r e) → IsSatisfied (olds ++ added) bounds r e
satisfied_over_more olds added bounds r e closed new slots v premises value = go (named_place r) refl
  where
    h : applies (olds ++ added) r e ≡ true
    h = applies_from_premises (olds ++ added) r e slots premises

    as_before : cited olds r ≡ cited (olds ++ added) r → IsNoBetter (rule_side r) v (bounds (rule_side r, e))
    as_before same =
        closed r e slots v (premises_of-alike olds (olds ++ added) r r e (λ c. refl) same ∙ premises)
        (value_of-alike olds (olds ++ added) r r e (map bounds slots) (λ c. refl) same ∙ value)

    past : (place : ℕ) → named_place r ≡ Some place → length olds ≤ place → IsNamed (olds ++ added) r place e
        → IsNoBetter (rule_side r) v (bounds (rule_side r, e))
    past place names after is =
        let at : length olds + (place - length olds) ≡ place = omega arith in
        let there : slice_get (olds ++ added) place ≡ slice_get added (place - length olds) =
        ap (slice_get (olds ++ added)) (sym at) ∙ slice_get-append_right olds added (place - length olds) in
        new (defined (parts_over (olds ++ added) r) e h).entry
        (record {
          index = place - length olds;
          support = is.support;
          there = sym there ∙ is.there;
          gives = is.gives;
          side = is.side;
          rule = is.rule ∙ ap (given_rule (Some is.support) (side_of_support is.support, e)) (sym at);
        })
        slots v premises value

    go : (place : Option ℕ) → named_place r ≡ place → IsNoBetter (rule_side r) v (bounds (rule_side r, e))
    go None names = as_before (cited-nothing olds (olds ++ added) r names)
    go (Some place) names = elim (cases_lt place (length olds)) [
      | inl below ↦
          as_before
          (ap (support_at olds) names ∙ sym (slice_get-append_left olds added place below)
          ∙ sym (ap (support_at (olds ++ added)) names))
      | inr after ↦ past place names after (named (olds ++ added) r place e names h)
    ]

-- the slots to which supports give something are marked
abbrev pub AreGivenMarked : List Support → WorkValue → Type 0
AreGivenMarked added work = (index : ℕ) (support : Support) (e : Entry) → slice_get added index ≡ Some support → GivesTo support e
    → IsEntry e → IsMarked work (side_of_support support, e)

-- where these are marked, each slot is marked or satisfied
pub pending_over_more : (olds added : List Support) (bounds : List ℕ) (work : WorkValue) → IsClosed olds (bound_of bounds)
    → AreGivenMarked added work → IsPending (olds ++ added) bounds work
pending_over_more olds added bounds work closed marked s entry unmarked r side =
    satisfied_over_more olds added (bound_of bounds) r s.1 closed
    (λ e_entry is.
    let slot : side_of_support is.support ≡ s.0 = sym is.side ∙ side in
    absurd (unmarked (subst (λ (d : Side). IsMarked work (d, s.1)) slot
    (marked is.index is.support s.1 is.there is.gives entry))))

-- where the one new support betters nothing, all is closed as before
pub closed_over_one : (olds : List Support) (x : Support) (bounds : Slot → ℕ) → IsClosed olds bounds
    → ((e : Entry) → entry_of_support x ≡ Some e
    → IsWithin (olds ++ x ∷ []) bounds (side_of_support x, e) (bounds (side_of_support x, e)) (given_rule (Some x) (side_of_support x, e) (length olds)))
    → IsClosed (olds ++ x ∷ []) bounds
closed_over_one olds x bounds closed within r e =
    satisfied_over_more olds (x ∷ []) bounds r e closed (λ entry is. go entry is.index is.support is.there is.gives is.side is.rule)
  where
    go : IsEntry e → (index : ℕ) (support : Support) → slice_get (x ∷ []) index ≡ Some support → GivesTo support e
        → rule_side r ≡ side_of_support support → r ≡ given_rule (Some support) (side_of_support support, e) (length olds + index) → IsSatisfied (olds ++ x ∷ []) bounds r e
    go entry (suc index) support there gives side rule = absurd (none-some support there)
    go entry zero support there gives side rule =
        let one : x ≡ support = same_Some x support there in
        let end : length olds + 0 ≡ length olds = omega arith in
        let own : rule_side r ≡ side_of_support x = side ∙ ap side_of_support (sym one) in
        let by : r ≡ given_rule (Some x) (side_of_support x, e) (length olds) =
        rule ∙ ap (given_rule (Some support) (side_of_support support, e)) end
        ∙ ap (λ (y : Support). given_rule (Some y) (side_of_support y, e) (length olds)) (sym one) in
        let is = within e (gives_entry x e (subst (λ (y : Support). GivesTo y e) (sym one) gives) entry) in
        satisfied_within (olds ++ x ∷ []) bounds r e
        (subst (λ (d : Side). IsWithin (olds ++ x ∷ []) bounds (d, e) (bounds (d, e)) r) (sym own)
        (subst (IsWithin (olds ++ x ∷ []) bounds (side_of_support x, e) (bounds (side_of_support x, e))) (sym by) is))
