-- The rule by which a support, at a place, bounds an entry from above.
use Rattle.std.proofs.Common.{◌≡◌, ℕ, List, [], ◌++◌, Contains, Option, Some, None, true, false, cond, refl, sym, ap, subst, ◌∙◌}
use Rattle.std.specs.Prelude.{Bool, not, is_some, slice_get, option_map}
use Rattle.std.proofs.lemmas.Bool.{and_parts, not-true, false≢true}
use Rattle.std.proofs.lemmas.List.Elements.{Contains-append_left, Contains-append_right}
use Rattle.ct_words.specs.declared.claim.Side.TheVariants.{Upper}
use Rattle.ct_words.specs.declared.entry.Entry.{Entry}
use Rattle.ct_rule_parts.specs.declared.support.Support.{Support}
use Rattle.ct_rule_parts.specs.declared.support.Support.TheVariants.{Nothing, Size, Bound, Odd, Local}
use Rattle.ct_rule_parts.specs.Parts.{has_weight}
use Rattle.ct_rule_parts.specs.Support.{OddValue, dual_at, odd_at, local_at, dual_behind}
use Rattle.ct_rule_parts.proofs.DualLemmas.{behind-bound, behind-odd, behind-local, odd_dual-behind}
use Rattle.ct_rule_parts.proofs.PlainEntries.{no_item}
use Rattle.ct_weight_rules.specs.Inside.RestedOn.{by_even_distance, all_weights}
use Rattle.ct_weight_rules.specs.Delsarte.{premises_of_dual}
use Rattle.ct_rules.specs.declared.rule.Rule.{Rule}
use Rattle.ct_rules.specs.declared.rule.Rule.TheVariants.{U11, U12, V9, V10}
use Rattle.ct_rules.specs.Inside.RestedOn.{rested_on_by}
use Rattle.ct_rules.specs.Rule.{row_of, rule_side, parts_over, applies}
use Rattle.ct_rules.proofs.Applied.{defined}
use Rattle.ct_offers.specs.Inside.Pulled.{bounding_rule, bounding_rule_of_weight, given_rule}

-- the rule at an entry with weight, and at one without
with_weight : (c : Option Support) (e : Entry) (place : ℕ) → has_weight e ≡ true → given_rule c (Upper, e) place ≡ bounding_rule_of_weight c place
with_weight c e place heavy = ap (λ (b : Bool). cond b (bounding_rule_of_weight c place) (bounding_rule c place)) heavy

without_weight : (c : Option Support) (e : Entry) (place : ℕ) → has_weight e ≡ false → given_rule c (Upper, e) place ≡ bounding_rule c place
without_weight c e place light = ap (λ (b : Bool). cond b (bounding_rule_of_weight c place) (bounding_rule c place)) light

-- what holds of both holds of it
either_rule : (P : Rule → Type 0) (c : Option Support) (e : Entry) (place : ℕ) → (has_weight e ≡ true → P (bounding_rule_of_weight c place))
    → (has_weight e ≡ false → P (bounding_rule c place)) → P (given_rule c (Upper, e) place)
either_rule P c e place heavy light = go (has_weight e) refl
  where
    go : (b : Bool) → has_weight e ≡ b → P (given_rule c (Upper, e) place)
    go true is = subst P (sym (with_weight c e place is)) (heavy is)
    go false is = subst P (sym (without_weight c e place is)) (light is)

-- it bounds from above
bounding_side : (c : Option Support) (place : ℕ) → rule_side (bounding_rule c place) ≡ Upper
unfolding row_of
bounding_side (Some (Odd a m)) place = refl
bounding_side None place = refl
bounding_side (Some Nothing) place = refl
bounding_side (Some (Size f size)) place = refl
bounding_side (Some (Bound a)) place = refl
bounding_side (Some (Local a)) place = refl

weighted_side : (c : Option Support) (place : ℕ) → rule_side (bounding_rule_of_weight c place) ≡ Upper
unfolding row_of
weighted_side (Some (Local a)) place = refl
weighted_side None place = refl
weighted_side (Some Nothing) place = refl
weighted_side (Some (Size f size)) place = refl
weighted_side (Some (Bound a)) place = refl
weighted_side (Some (Odd a m)) place = refl

pub given_side : (c : Option Support) (e : Entry) (place : ℕ) → rule_side (given_rule c (Upper, e) place) ≡ Upper
given_side c e place = either_rule (λ r. rule_side r ≡ Upper) c e place (λ _. weighted_side c place) (λ _. bounding_side c place)

-- and rests on nothing but what the dual of the support does
plain_rests : (supports : List Support) (place : ℕ) (e f : Entry)
    → Contains ((parts_over supports (bounding_rule (slice_get supports place) place)).rests_on e) f
    → Contains (premises_of_dual (dual_behind (slice_get supports place) e)) f
unfolding row_of
plain_rests supports place e f rests = go (slice_get supports place) refl rests
  where
    IsBehind : Type 0
    IsBehind = Contains (premises_of_dual (dual_behind (slice_get supports place) e)) f

    behind : (c : Option Support) → slice_get supports place ≡ c → Contains (premises_of_dual (dual_behind c e)) f → IsBehind
    behind c at here = subst (λ (o : Option Support). Contains (premises_of_dual (dual_behind o e)) f) (sym at) here

    by_bound : (c : Option Support) → slice_get supports place ≡ c → Contains (premises_of_dual (dual_at (slice_get supports place) e)) f
        → Contains (premises_of_dual (dual_at c e)) f
    by_bound c at here = subst (λ (o : Option Support). Contains (premises_of_dual (dual_at o e)) f) at here

    none : Contains [] f → IsBehind
    none here = no_item IsBehind f here

    go : (c : Option Support) → slice_get supports place ≡ c → Contains ((parts_over supports (bounding_rule c place)).rests_on e) f → IsBehind
    go None at here = none (by_bound None at here)
    go (Some Nothing) at here = none (by_bound (Some Nothing) at here)
    go (Some (Size g size)) at here = none (by_bound (Some (Size g size)) at here)
    go (Some (Bound a)) at here = behind (Some (Bound a)) at (by_bound (Some (Bound a)) at here)
    go (Some (Odd a m)) at here =
        behind (Some (Odd a m)) at
        (subst (λ es. Contains es f) (ap premises_of_dual (odd_dual-behind a m e))
        (subst (λ (o : Option Support). Contains (premises_of_dual (option_map (λ (x : OddValue). x.accepted) (odd_at o e))) f) at here))
    go (Some (Local a)) at here = none (by_bound (Some (Local a)) at here)

weighted_rests : (supports : List Support) (place : ℕ) (e f : Entry)
    → Contains ((parts_over supports (bounding_rule_of_weight (slice_get supports place) place)).rests_on e) f
    → Contains (premises_of_dual (dual_behind (slice_get supports place) e)) f
unfolding row_of
weighted_rests supports place e f rests = go (slice_get supports place) refl rests
  where
    none : Contains [] f → Contains (premises_of_dual (dual_behind (slice_get supports place) e)) f
    none here = no_item (Contains (premises_of_dual (dual_behind (slice_get supports place) e)) f) f here

    go : (c : Option Support) → slice_get supports place ≡ c → Contains ((parts_over supports (bounding_rule_of_weight c place)).rests_on e) f
        → Contains (premises_of_dual (dual_behind (slice_get supports place) e)) f
    go None at here = none here
    go (Some Nothing) at here = none here
    go (Some (Size g size)) at here = none here
    go (Some (Bound a)) at here = none here
    go (Some (Odd a m)) at here = none here
    go (Some (Local a)) at here =
        subst (λ es. Contains es f)
        (ap (λ (o : Option Support). premises_of_dual (local_at o e)) at ∙ sym (ap (λ (o : Option Support). premises_of_dual (dual_behind o e)) at)) here

pub bounding_rests : (supports : List Support) (place : ℕ) (e f : Entry)
    → Contains ((parts_over supports (given_rule (slice_get supports place) (Upper, e) place)).rests_on e) f
    → Contains (premises_of_dual (dual_behind (slice_get supports place) e)) f
bounding_rests supports place e f =
    either_rule (λ r. Contains ((parts_over supports r).rests_on e) f → Contains (premises_of_dual (dual_behind (slice_get supports place) e)) f)
    (slice_get supports place) e place (λ _. weighted_rests supports place e f) (λ _. plain_rests supports place e f)

-- the entries that may rest on one by a dual: those of its length without weight, at its distance or one place nearer, and those of its
-- length and its distance with any weight
abbrev pub by_duals : Entry → List Entry
by_duals from = by_even_distance from ++ all_weights from

-- what rests on an entry by it is among these
plain_back : (c : Option Support) (place : ℕ) (from e : Entry) → Contains (rested_on_by (bounding_rule c place) from) e
    → Contains (by_duals from) e
unfolding rested_on_by
plain_back c place from e among = go c among
  where
    two : Contains (by_even_distance from) e → Contains (by_duals from) e
    two here = Contains-append_left (by_even_distance from) (all_weights from) e here

    go : (c : Option Support) → Contains (rested_on_by (bounding_rule c place) from) e → Contains (by_duals from) e
    go (Some (Odd a m)) here = two here
    go None here = two here
    go (Some Nothing) here = two here
    go (Some (Size f size)) here = two here
    go (Some (Bound a)) here = two here
    go (Some (Local a)) here = two here

weighted_back : (c : Option Support) (place : ℕ) (from e : Entry) → Contains (rested_on_by (bounding_rule_of_weight c place) from) e
    → Contains (by_duals from) e
unfolding rested_on_by
weighted_back c place from e among = go c among
  where
    none : Contains [] e → Contains (by_duals from) e
    none here = no_item (Contains (by_duals from) e) e here

    go : (c : Option Support) → Contains (rested_on_by (bounding_rule_of_weight c place) from) e → Contains (by_duals from) e
    go (Some (Local a)) here = Contains-append_right (by_even_distance from) (all_weights from) e here
    go None here = none here
    go (Some Nothing) here = none here
    go (Some (Size f size)) here = none here
    go (Some (Bound a)) here = none here
    go (Some (Odd a m)) here = none here

pub bounding_back : (c : Option Support) (place : ℕ) (from e : Entry) → Contains (rested_on_by (given_rule c (Upper, e) place) from) e
    → Contains (by_duals from) e
bounding_back c place from e =
    either_rule (λ r. Contains (rested_on_by r from) e → Contains (by_duals from) e) c e place
    (λ _. weighted_back c place from e) (λ _. plain_back c place from e)

-- a rule that names a dual and is defined over the support at its place is that
pub bounding-bound : (supports : List Support) (place : ℕ) (e : Entry) → applies supports (U11 place) e ≡ true
    → U11 place ≡ given_rule (slice_get supports place) (Upper, e) place
unfolding row_of
bounding-bound supports place e here =
    let parts = and_parts (not (has_weight e)) (is_some (dual_at (slice_get supports place) e)) (defined (parts_over supports (U11 place)) e here).condition in
    go (slice_get supports place) parts.1 ∙ sym (without_weight (slice_get supports place) e place (not-true (has_weight e) parts.0))
  where
    go : (c : Option Support) → is_some (dual_at c e) ≡ true → U11 place ≡ bounding_rule c place
    go (Some (Bound a)) is = refl
    go None is = refl
    go (Some Nothing) is = refl
    go (Some (Size f size)) is = refl
    go (Some (Odd a m)) is = absurd (false≢true is)
    go (Some (Local a)) is = refl

pub bounding-odd : (supports : List Support) (place : ℕ) (e : Entry) → applies supports (U12 place) e ≡ true
    → U12 place ≡ given_rule (slice_get supports place) (Upper, e) place
unfolding row_of
bounding-odd supports place e here =
    let parts = and_parts (not (has_weight e)) (is_some (odd_at (slice_get supports place) e)) (defined (parts_over supports (U12 place)) e here).condition in
    go (slice_get supports place) parts.1 ∙ sym (without_weight (slice_get supports place) e place (not-true (has_weight e) parts.0))
  where
    go : (c : Option Support) → is_some (odd_at c e) ≡ true → U12 place ≡ bounding_rule c place
    go (Some (Odd a m)) is = refl
    go None is = absurd (false≢true is)
    go (Some Nothing) is = absurd (false≢true is)
    go (Some (Size f size)) is = absurd (false≢true is)
    go (Some (Bound a)) is = absurd (false≢true is)
    go (Some (Local a)) is = absurd (false≢true is)

pub bounding-weighted : (supports : List Support) (place : ℕ) (e : Entry) → applies supports (V9 place) e ≡ true
    → V9 place ≡ given_rule (slice_get supports place) (Upper, e) place
unfolding row_of
bounding-weighted supports place e here =
    let parts = and_parts (has_weight e) (is_some (dual_at (slice_get supports place) e)) (defined (parts_over supports (V9 place)) e here).condition in
    go (slice_get supports place) parts.1 ∙ sym (with_weight (slice_get supports place) e place parts.0)
  where
    go : (c : Option Support) → is_some (dual_at c e) ≡ true → V9 place ≡ bounding_rule_of_weight c place
    go (Some (Bound a)) is = refl
    go None is = refl
    go (Some Nothing) is = refl
    go (Some (Size f size)) is = refl
    go (Some (Odd a m)) is = refl
    go (Some (Local a)) is = absurd (false≢true is)

pub bounding-local : (supports : List Support) (place : ℕ) (e : Entry) → applies supports (V10 place) e ≡ true
    → V10 place ≡ given_rule (slice_get supports place) (Upper, e) place
unfolding row_of
bounding-local supports place e here =
    let parts = and_parts (has_weight e) (is_some (local_at (slice_get supports place) e)) (defined (parts_over supports (V10 place)) e here).condition in
    go (slice_get supports place) parts.1 ∙ sym (with_weight (slice_get supports place) e place parts.0)
  where
    go : (c : Option Support) → is_some (local_at c e) ≡ true → V10 place ≡ bounding_rule_of_weight c place
    go (Some (Local a)) is = refl
    go None is = absurd (false≢true is)
    go (Some Nothing) is = absurd (false≢true is)
    go (Some (Size f size)) is = absurd (false≢true is)
    go (Some (Bound a)) is = absurd (false≢true is)
    go (Some (Odd a m)) is = absurd (false≢true is)

-- where it is defined, the support has a dual there
plain_dual : (supports : List Support) (place : ℕ) (e : Entry) → applies supports (bounding_rule (slice_get supports place) place) e ≡ true
    → is_some (dual_behind (slice_get supports place) e) ≡ true
unfolding row_of
plain_dual supports place e here = go (slice_get supports place) here
  where
    by_bound : applies supports (U11 place) e ≡ true → is_some (dual_behind (slice_get supports place) e) ≡ true
    by_bound here =
        behind-bound (slice_get supports place) e
        (and_parts (not (has_weight e)) (is_some (dual_at (slice_get supports place) e)) (defined (parts_over supports (U11 place)) e here).condition).1

    by_odd : applies supports (U12 place) e ≡ true → is_some (dual_behind (slice_get supports place) e) ≡ true
    by_odd here =
        behind-odd (slice_get supports place) e
        (and_parts (not (has_weight e)) (is_some (odd_at (slice_get supports place) e)) (defined (parts_over supports (U12 place)) e here).condition).1

    go : (c : Option Support) → applies supports (bounding_rule c place) e ≡ true → is_some (dual_behind (slice_get supports place) e) ≡ true
    go (Some (Odd a m)) here = by_odd here
    go None here = by_bound here
    go (Some Nothing) here = by_bound here
    go (Some (Size f size)) here = by_bound here
    go (Some (Bound a)) here = by_bound here
    go (Some (Local a)) here = by_bound here

weighted_dual : (supports : List Support) (place : ℕ) (e : Entry) → applies supports (bounding_rule_of_weight (slice_get supports place) place) e ≡ true
    → is_some (dual_behind (slice_get supports place) e) ≡ true
unfolding row_of
weighted_dual supports place e here = go (slice_get supports place) here
  where
    by_bound : applies supports (V9 place) e ≡ true → is_some (dual_behind (slice_get supports place) e) ≡ true
    by_bound here =
        behind-bound (slice_get supports place) e
        (and_parts (has_weight e) (is_some (dual_at (slice_get supports place) e)) (defined (parts_over supports (V9 place)) e here).condition).1

    by_local : applies supports (V10 place) e ≡ true → is_some (dual_behind (slice_get supports place) e) ≡ true
    by_local here =
        behind-local (slice_get supports place) e
        (and_parts (has_weight e) (is_some (local_at (slice_get supports place) e)) (defined (parts_over supports (V10 place)) e here).condition).1

    go : (c : Option Support) → applies supports (bounding_rule_of_weight c place) e ≡ true → is_some (dual_behind (slice_get supports place) e) ≡ true
    go (Some (Local a)) here = by_local here
    go None here = by_bound here
    go (Some Nothing) here = by_bound here
    go (Some (Size f size)) here = by_bound here
    go (Some (Bound a)) here = by_bound here
    go (Some (Odd a m)) here = by_bound here

pub bounding_dual : (supports : List Support) (place : ℕ) (e : Entry)
    → applies supports (given_rule (slice_get supports place) (Upper, e) place) e ≡ true → is_some (dual_behind (slice_get supports place) e) ≡ true
bounding_dual supports place e =
    either_rule (λ r. applies supports r e ≡ true → is_some (dual_behind (slice_get supports place) e) ≡ true) (slice_get supports place) e place
    (λ _. weighted_dual supports place e) (λ _. plain_dual supports place e)
