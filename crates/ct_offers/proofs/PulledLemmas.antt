-- The best bound of a slot while rules are asked.
use Rattle.std.proofs.Common.{◌≡◌, ℕ, ◌+◌, suc, ◌<◌, ◌≤◌, List, [], ◌∷◌, ◌++◌, ◌-◌, length, map, flat_map, All, Contains, Option, Some, None, true, refl, sym, ap, subst, ◌∙◌, arith, inl, inr, ◌⊎◌}
use Rattle.std.specs.Prelude.{slice_get, IfSome, false, is_some}
use Rattle.std.proofs.lemmas.Bool.{and_parts, cases_eq}
use Rattle.std.proofs.lemmas.List.Elements.{All-nil, All-cons, All-head, All-tail, All-append, All-contains}
use Rattle.std.proofs.lemmas.Option.{none-some, same_Some, slice_get_within}
use Rattle.std.specs.List.{range_with_len}
use Rattle.ct_words.specs.declared.claim.Side.{Side}
use Rattle.ct_words.specs.declared.claim.Side.TheVariants.{Lower, Upper}
use Rattle.ct_words.specs.declared.entry.Entry.{Entry}
use Rattle.ct_words.specs.Entry.{IsEntry}
use Rattle.ct_rule_parts.specs.declared.support.Support.{Support}
use Rattle.ct_rule_parts.specs.Slot.{Slot, IsNoBetter, IsBetter}
use Rattle.ct_rule_parts.specs.Support.{size_at, dual_behind}
use Rattle.ct_rule_parts.proofs.SlotLemmas.{IsNoBetter-self}
use Rattle.ct_rules.specs.declared.rule.Rule.{Rule}
use Rattle.ct_rules.specs.declared.rule.Rule.TheVariants.{L9, L10, L11, M9, M10, U9, U10, U11, U12, V9, V10}
use Rattle.ct_rules.specs.Listing.{rules_alone}
use Rattle.ct_rules.specs.Inside.AllRules.{juxtaposition_rules, sum_class_rules, rules_by_weight, rules_of_supports, rules_at}
use Rattle.ct_rules.specs.Closed.{AreTrue}
use Rattle.ct_rules.specs.Rule.{row_of, parts_over, rule_side, is_by_weight, applies}
use Rattle.ct_rules.proofs.Applied.{defined}
use Rattle.ct_rules.proofs.ClosedBounds.{no_better-trans}
use Rattle.ct_rules.proofs.RuleLists.{rules_at-complete}
use Rattle.ct_offers.specs.declared.best.Best.{Best}
use Rattle.ct_slots.specs.Places.{GivesTo, AreSupportPlaces, IsPlaceOf, IsUpTo}
use Rattle.ct_offers.specs.Offers.{IsGiven, IsWithin, value_over}
use Rattle.ct_offers.specs.Inside.Pulled.{IsPulled, given_rule}
use Rattle.ct_offers.proofs.BoundingRules.{bounding-bound, bounding-odd, bounding-weighted, bounding-local, bounding_dual}
use Rattle.ct_offers.proofs.PullingLemmas.{over-applies}

pub IsPulled-refl : (supports : List Support) (f : Slot → ℕ) (s : Slot) (best : Best) → IsPulled supports f s best best
IsPulled-refl supports f s best = record { no_worse = IsNoBetter-self s.0 best.value; given = λ h. h }

pub IsPulled-trans : (supports : List Support) (f : Slot → ℕ) (s : Slot) (first middle last : Best) → IsPulled supports f s first middle
    → IsPulled supports f s middle last → IsPulled supports f s first last
IsPulled-trans supports f s first middle last one other = record {
  no_worse = no_better-trans s.0 first.value middle.value last.value one.no_worse other.no_worse;
  given = λ h. other.given (one.given h);
}

-- what is better than a bound that is given is better than what stands
better_still : (supports : List Support) (f : Slot → ℕ) (side : Side) (e : Entry) (u v : ℕ) (o : Option Rule) → IsBetter side v u
    → IsGiven supports f (side, e) u o → IsBetter side v (f (side, e))
better_still supports f Lower e u v None better given = omega (arith, better, given)
better_still supports f Lower e u v (Some r) better given = let more = given.2 in omega (arith, better, more)
better_still supports f Upper e u v None better given = omega (arith, better, given)
better_still supports f Upper e u v (Some r) better given = let more = given.2 in omega (arith, better, more)

better_no_worse : (side : Side) (u v : ℕ) → IsBetter side v u → IsNoBetter side u v
better_no_worse Lower u v better = omega (arith, better)
better_no_worse Upper u v better = omega (arith, better)

-- so a better one that a rule gives is put in its place
pub pulled_by : (supports : List Support) (f : Slot → ℕ) (side : Side) (e : Entry) (old : Best) (r : Rule) (v : ℕ) → rule_side r ≡ side
    → value_over supports f r e ≡ Some v → IsBetter side v old.value → IsPulled supports f (side, e) old (record { value = v; rule = Some r })
pulled_by supports f side e old r v same value better = record {
  no_worse = better_no_worse side old.value v better;
  given = λ h. (same, value, better_still supports f side e old.value v old.rule better h);
}

-- on the side that is known
pub pulled_on : (supports : List Support) (f : Slot → ℕ) (side own : Side) (e : Entry) (old new : Best) → side ≡ own
    → IsPulled supports f (own, e) old new → IsPulled supports f (side, e) old new
pulled_on supports f side own e old new same pulled = subst (λ (s : Side). IsPulled supports f (s, e) old new) (sym same) pulled

-- what is within a bound is within one that is no worse
pub within_better : (supports : List Support) (f : Slot → ℕ) (s : Slot) (u v : ℕ) (r : Rule) → IsNoBetter s.0 u v
    → IsWithin supports f s u r → IsWithin supports f s v r
within_better supports f s u v r worse within x value = no_better-trans s.0 x u v (within x value) worse

pub all_within_better : (supports : List Support) (f : Slot → ℕ) (s : Slot) (u v : ℕ) (rules : List Rule) → IsNoBetter s.0 u v
    → All (IsWithin supports f s u) rules → All (IsWithin supports f s v) rules
all_within_better supports f s u v [] worse each = All-nil (IsWithin supports f s v)
all_within_better supports f s u v (r ∷ rules) worse each =
    All-cons (IsWithin supports f s v) r rules
    (within_better supports f s u v r worse (All-head (IsWithin supports f s u) r rules each))
    (all_within_better supports f s u v rules worse (All-tail (IsWithin supports f s u) r rules each))

-- the supports that stand for the entry are asked for, but those up to the next one
abbrev pub AreAskedAbove : List Support → (Slot → ℕ) → Slot → List (Option Entry) → ℕ → Option ℕ → Type 0
AreAskedAbove supports f s entries best next = (place : ℕ) → IsPlaceOf entries s.1 place
    → IsUpTo next place ⊎ IsWithin supports f s best (given_rule (slice_get supports place) s place)

abbrev pub IsNext : List (Option Entry) → Entry → Option ℕ → Type 0
IsNext entries e next = (place : ℕ) → next ≡ Some place → IsPlaceOf entries e place

abbrev pub left_to : Option ℕ → ℕ
left_to None = 0
left_to (Some place) = suc place

-- what holds at the places of an entry above the next one holds at it too, and so above the one before it
pub above_step : (P Q : ℕ → Type 0) (entries : List (Option Entry)) (e : Entry) (place : ℕ) (next : Option ℕ) → ((p : ℕ) → P p → Q p)
    → ((p : ℕ) → IsPlaceOf entries e p → IsUpTo (Some place) p ⊎ P p) → IsPlaceOf entries e place → Q place
    → ((g : Entry) (other : ℕ) → IsPlaceOf entries g place → IsPlaceOf entries g other → other < place → IsUpTo next other)
    → (p : ℕ) → IsPlaceOf entries e p → IsUpTo next p ⊎ Q p
above_step P Q entries e place next still above here holds last other at = elim (above other at) [
  | inl up ↦ elim (cases_eq other place) [
    | inl same ↦ inr (subst Q (sym same) holds)
    | inr apart ↦ inl (last e other here at (omega arith))
  ]
  | inr before ↦ inr (still other before)
]

-- after the next one is asked for
pub asked_step : (supports : List Support) (f : Slot → ℕ) (s : Slot) (entries : List (Option Entry)) (u v place : ℕ) (next : Option ℕ)
    → IsNoBetter s.0 u v → AreAskedAbove supports f s entries u (Some place) → IsPlaceOf entries s.1 place
    → IsWithin supports f s v (given_rule (slice_get supports place) s place)
    → ((g : Entry) (other : ℕ) → IsPlaceOf entries g place → IsPlaceOf entries g other → other < place → IsUpTo next other)
    → AreAskedAbove supports f s entries v next
asked_step supports f s entries u v place next worse asked here within last =
    above_step (λ p. IsWithin supports f s u (given_rule (slice_get supports p) s p)) (λ p. IsWithin supports f s v (given_rule (slice_get supports p) s p))
    entries s.1 place next (λ p before. within_better supports f s u v (given_rule (slice_get supports p) s p) worse before) asked here within last

-- a support that gives something is there
support_there : (supports : List Support) (place : ℕ) (e : Entry) → is_some (size_at (slice_get supports place) e) ≡ true
    → (support : Support) × (slice_get supports place ≡ Some support) × GivesTo support e
support_there supports place e h = go (slice_get supports place) refl h
  where
    go : (c : Option Support) → slice_get supports place ≡ c → is_some (size_at c e) ≡ true
        → (support : Support) × (slice_get supports place ≡ Some support) × GivesTo support e
    go None at is = absurd cc
    go (Some support) at is = (support, at, inl (λ none. let clash : false ≡ true = sym (ap is_some none) ∙ is in cc))

pub dual_support_there : (supports : List Support) (place : ℕ) (e : Entry) → is_some (dual_behind (slice_get supports place) e) ≡ true
    → (support : Support) × (slice_get supports place ≡ Some support) × GivesTo support e
dual_support_there supports place e h = go (slice_get supports place) refl h
  where
    go : (c : Option Support) → slice_get supports place ≡ c → is_some (dual_behind c e) ≡ true
        → (support : Support) × (slice_get supports place ≡ Some support) × GivesTo support e
    go None at is = absurd cc
    go (Some support) at is = (support, at, inr (λ none. let clash : false ≡ true = sym (ap is_some none) ∙ is in cc))

given_there : (supports : List Support) (side : Side) (n d : ℕ) (w : Option ℕ) (place : ℕ)
    → applies supports (given_rule (slice_get supports place) (side, record { n = n; d = d; w = w }) place) (record { n = n; d = d; w = w }) ≡ true
    → (support : Support) × (slice_get supports place ≡ Some support) × GivesTo support (record { n = n; d = d; w = w })
unfolding row_of
given_there supports Lower n d None place h =
    let e : Entry = record { n = n; d = d; w = None } in
    let is = defined (parts_over supports (L10 place)) e h in
    support_there supports place e (and_parts true (is_some (size_at (slice_get supports place) e)) is.condition).1
given_there supports Lower n d (Some w) place h =
    let e : Entry = record { n = n; d = d; w = Some w } in
    let is = defined (parts_over supports (M10 place)) e h in
    support_there supports place e (and_parts true (is_some (size_at (slice_get supports place) e)) is.condition).1
given_there supports Upper n d None place h =
    let e : Entry = record { n = n; d = d; w = None } in dual_support_there supports place e (bounding_dual supports place e h)
given_there supports Upper n d (Some w) place h =
    let e : Entry = record { n = n; d = d; w = Some w } in dual_support_there supports place e (bounding_dual supports place e h)

-- a rule that names a support and is defined at an entry of the table names one of its places
pub given_place : (supports : List Support) (s : Slot) (entries : List (Option Entry)) (place : ℕ) → IsEntry s.1 → AreSupportPlaces supports entries
    → applies supports (given_rule (slice_get supports place) s place) s.1 ≡ true → IsPlaceOf entries s.1 place
given_place supports s entries place entry are here =
    let there = given_there supports s.0 s.1.n s.1.d s.1.w place here in
    are.given place there.0 s.1 entry there.1 there.2

-- once none is left, no support gives anything better
pub asked_all : (supports : List Support) (f : Slot → ℕ) (s : Slot) (entries : List (Option Entry)) (best : ℕ) → IsEntry s.1
    → AreSupportPlaces supports entries → AreAskedAbove supports f s entries best None
    → (place : ℕ) → IsWithin supports f s best (given_rule (slice_get supports place) s place)
asked_all supports f s entries best entry are asked place v value =
    elim (asked place (given_place supports s entries place entry are (over-applies supports f (given_rule (slice_get supports place) s place) s.1 v value))) [
      | inl none ↦ absurd none
      | inr within ↦ within v value
    ]

-- and where there are no supports none does
pub none_within : (supports : List Support) (f : Slot → ℕ) (s : Slot) (best : ℕ) → length supports ≡ 0
    → (place : ℕ) → IsWithin supports f s best (given_rule (slice_get supports place) s place)
none_within supports f s best none place v value =
    let there =
    given_there supports s.0 s.1.n s.1.d s.1.w place (over-applies supports f (given_rule (slice_get supports place) s place) s.1 v value) in
    let within = slice_get_within supports place there.0 there.1 in
    absurd (omega (arith, within, none))

-- of the rules that may name a support as an upper bound the others are defined nowhere that is not the support's
by_own_rule : (supports : List Support) (f : Slot → ℕ) (e : Entry) (best place : ℕ) (r : Rule)
    → (applies supports r e ≡ true → r ≡ given_rule (slice_get supports place) (Upper, e) place)
    → IsWithin supports f (Upper, e) best (given_rule (slice_get supports place) (Upper, e) place) → IsWithin supports f (Upper, e) best r
by_own_rule supports f e best place r own within v value =
    subst (IsWithin supports f (Upper, e) best) (sym (own (over-applies supports f r e v value))) within v value

-- what holds of each item of lists that are put together
all_map : {X Y : Type 0} (P : Y → Type 0) (f : X → Y) (xs : List X) → ((x : X) → P (f x)) → All P (map f xs)
all_map P f [] each = All-nil P
all_map P f (x ∷ xs) each = All-cons P (f x) (map f xs) (each x) (all_map P f xs each)

all_flat_map : {X Y : Type 0} (P : Y → Type 0) (f : X → List Y) (xs : List X) → ((x : X) → All P (f x)) → All P (flat_map f xs)
all_flat_map P f [] each = All-nil P
all_flat_map P f (x ∷ xs) each = All-append P (f x) (flat_map f xs) (each x) (all_flat_map P f xs each)

-- a rule that was asked for, or gives nothing
all_listed : (supports : List Support) (f : Slot → ℕ) (side : Side) (n d : ℕ) (w : Option ℕ) (best : ℕ)
    → All (IsWithin supports f (side, record { n = n; d = d; w = w }) best) (rules_alone (side, record { n = n; d = d; w = w }))
    → (side ≡ Lower → w ≡ None → (m c : ℕ) → IsWithin supports f (Lower, record { n = n; d = d; w = w }) best (L11 m c))
    → (side ≡ Lower → (k : ℕ) → IsWithin supports f (Lower, record { n = n; d = d; w = w }) best (M9 k))
    → ((place : ℕ) → IsWithin supports f (side, record { n = n; d = d; w = w }) best (given_rule (slice_get supports place) (side, record { n = n; d = d; w = w }) place))
    → ((r : Rule) → is_by_weight r ≡ true → rule_side r ≡ side → IsWithin supports f (side, record { n = n; d = d; w = w }) best r)
    → All (IsWithin supports f (side, record { n = n; d = d; w = w }) best) (rules_at (length supports) (side, record { n = n; d = d; w = w }))
unfolding rules_at row_of
all_listed supports f Lower n d None best alone sums classes given by_weight =
    let e : Entry = record { n = n; d = d; w = None } in
    let P : Rule → Type 0 = IsWithin supports f (Lower, e) best in
    All-append P (rules_alone (Lower, e)) (juxtaposition_rules e ++ rules_by_weight (Lower, e) ++ rules_of_supports (length supports) (Lower, e)) alone
    (All-append P (juxtaposition_rules e ++ rules_by_weight (Lower, e)) (rules_of_supports (length supports) (Lower, e))
    (All-append P (juxtaposition_rules e) (rules_by_weight (Lower, e))
    (all_flat_map P (λ m. map (λ c. L11 m c) (range_with_len 3 (d - 5))) (range_with_len 1 (n - 1))
    (λ m. all_map P (λ c. L11 m c) (range_with_len 3 (d - 5)) (λ c. sums refl refl m c)))
    (all_map P (λ w. L9 w) (range_with_len 0 (n + 1)) (λ w. by_weight (L9 w) refl refl)))
    (all_map P (λ place. L10 place) (range_with_len 0 (length supports)) given))
all_listed supports f Lower n d (Some w) best alone sums classes given by_weight =
    let e : Entry = record { n = n; d = d; w = Some w } in
    let P : Rule → Type 0 = IsWithin supports f (Lower, e) best in
    All-append P (rules_alone (Lower, e)) (sum_class_rules e ++ [] ++ rules_of_supports (length supports) (Lower, e)) alone
    (All-append P (sum_class_rules e ++ []) (rules_of_supports (length supports) (Lower, e))
    (All-append P (sum_class_rules e) [] (all_map P (λ k. M9 k) (range_with_len 0 n) (classes refl)) (All-nil P))
    (all_map P (λ place. M10 place) (range_with_len 0 (length supports)) given))
all_listed supports f Upper n d None best alone sums classes given by_weight =
    let e : Entry = record { n = n; d = d; w = None } in
    let P : Rule → Type 0 = IsWithin supports f (Upper, e) best in
    All-append P (rules_alone (Upper, e) ++ rules_by_weight (Upper, e)) (rules_of_supports (length supports) (Upper, e))
    (All-append P (rules_alone (Upper, e)) (rules_by_weight (Upper, e)) alone
    (All-cons P U9 (map (λ w. U10 w) (range_with_len 0 (n + 1))) (by_weight U9 refl refl)
    (all_map P (λ w. U10 w) (range_with_len 0 (n + 1)) (λ w. by_weight (U10 w) refl refl))))
    (All-append P (map (λ place. U11 place) (range_with_len 0 (length supports))) (map (λ place. U12 place) (range_with_len 0 (length supports)))
    (all_map P (λ place. U11 place) (range_with_len 0 (length supports)) (λ place. by_own_rule supports f e best place (U11 place) (bounding-bound supports place e) (given place)))
    (all_map P (λ place. U12 place) (range_with_len 0 (length supports)) (λ place. by_own_rule supports f e best place (U12 place) (bounding-odd supports place e) (given place))))
all_listed supports f Upper n d (Some w) best alone sums classes given by_weight =
    let e : Entry = record { n = n; d = d; w = Some w } in
    let P : Rule → Type 0 = IsWithin supports f (Upper, e) best in
    All-append P (rules_alone (Upper, e)) (rules_of_supports (length supports) (Upper, e)) alone
    (All-append P (map (λ place. V9 place) (range_with_len 0 (length supports))) (map (λ place. V10 place) (range_with_len 0 (length supports)))
    (all_map P (λ place. V9 place) (range_with_len 0 (length supports)) (λ place. by_own_rule supports f e best place (V9 place) (bounding-weighted supports place e) (given place)))
    (all_map P (λ place. V10 place) (range_with_len 0 (length supports)) (λ place. by_own_rule supports f e best place (V10 place) (bounding-local supports place e) (given place))))

pub all_asked : (supports : List Support) (f : Slot → ℕ) (side : Side) (e : Entry) (best : ℕ)
    → All (IsWithin supports f (side, e) best) (rules_alone (side, e))
    → (side ≡ Lower → e.w ≡ None → (m c : ℕ) → IsWithin supports f (Lower, e) best (L11 m c))
    → (side ≡ Lower → (k : ℕ) → IsWithin supports f (Lower, e) best (M9 k))
    → ((place : ℕ) → IsWithin supports f (side, e) best (given_rule (slice_get supports place) (side, e) place))
    → ((r : Rule) → is_by_weight r ≡ true → rule_side r ≡ side → IsWithin supports f (side, e) best r)
    → (r : Rule) → rule_side r ≡ side → IsWithin supports f (side, e) best r
all_asked supports f side e best alone sums classes given by_weight r same v value =
    All-contains (IsWithin supports f (side, e) best) (rules_at (length supports) (side, e)) r
    (all_listed supports f side e.n e.d e.w best alone sums classes given by_weight)
    (subst (λ (s : Side). Contains (rules_at (length supports) (s, e)) r) same
    (rules_at-complete supports r e (over-applies supports f r e v value)))
    v value

-- fewer are left after the next one
pub fewer_left : (entries : List (Option Entry)) (e : Entry) (next : Option ℕ) (place : ℕ)
    → IfSome next (λ other. (other < place) × IsPlaceOf entries e other) → left_to next < suc place
fewer_left entries e None place h = omega arith
fewer_left entries e (Some other) place h = omega (arith, h.0)

pub next_of : (entries : List (Option Entry)) (e : Entry) (next : Option ℕ) (place : ℕ)
    → IfSome next (λ other. (other < place) × IsPlaceOf entries e other) → IsNext entries e next
next_of entries e None place h other is = absurd (none-some other is)
next_of entries e (Some p) place h other is = subst (IsPlaceOf entries e) (same_Some p other is) h.1

pub first_next : (entries : List (Option Entry)) (e : Entry) (next : Option ℕ)
    → IfSome next (λ place. IsPlaceOf entries e place) → IsNext entries e next
first_next entries e None h other is = absurd (none-some other is)
first_next entries e (Some p) h other is = subst (IsPlaceOf entries e) (same_Some p other is) h

-- what was asked for at an upper side, and at a lower one
pub asked_upper : (supports : List Support) (f : Slot → ℕ) (side : Side) (e : Entry) (middle best : ℕ) → side ≡ Upper
    → All (IsWithin supports f (side, e) middle) (rules_alone (side, e))
    → ((r : Rule) → is_by_weight r ≡ true → rule_side r ≡ side → IsWithin supports f (side, e) middle r) → IsNoBetter side middle best
    → ((place : ℕ) → IsWithin supports f (side, e) best (given_rule (slice_get supports place) (side, e) place))
    → (r : Rule) → rule_side r ≡ side → IsWithin supports f (side, e) best r
asked_upper supports f side e middle best up alone by_weight worse given =
    all_asked supports f side e best
    (all_within_better supports f (side, e) middle best (rules_alone (side, e)) worse alone)
    (λ low. let clash : Upper ≡ Lower = sym up ∙ low in absurd cc)
    (λ low. let clash : Upper ≡ Lower = sym up ∙ low in absurd cc)
    given
    (λ r by same. within_better supports f (side, e) middle best r worse (by_weight r by same))

pub asked_lower : (supports : List Support) (f : Slot → ℕ) (side : Side) (e : Entry) (middle best : ℕ) → side ≡ Lower
    → All (IsWithin supports f (side, e) middle) (rules_alone (side, e))
    → ((r : Rule) → is_by_weight r ≡ true → rule_side r ≡ side → IsWithin supports f (side, e) middle r) → middle ≤ best
    → (e.w ≡ None → (m c : ℕ) → IsWithin supports f (Lower, e) best (L11 m c))
    → ((k : ℕ) → IsWithin supports f (Lower, e) best (M9 k))
    → ((place : ℕ) → IsWithin supports f (Lower, e) best (given_rule (slice_get supports place) (Lower, e) place))
    → (r : Rule) → rule_side r ≡ side → IsWithin supports f (side, e) best r
asked_lower supports f side e middle best low alone by_weight worse sums classes given =
    let no_worse : IsNoBetter side middle best = subst (λ (s : Side). IsNoBetter s middle best) (sym low) worse in
    all_asked supports f side e best
    (all_within_better supports f (side, e) middle best (rules_alone (side, e)) no_worse alone)
    (λ here none. sums none)
    (λ here. classes)
    (subst (λ (s : Side). (place : ℕ) → IsWithin supports f (s, e) best (given_rule (slice_get supports place) (s, e) place)) (sym low) given)
    (λ r by same. within_better supports f (side, e) middle best r no_worse (by_weight r by same))

-- from the first bound to the last
pub given_lower : (supports : List Support) (f : Slot → ℕ) (side : Side) (e : Entry) (middle best : Best) → side ≡ Lower
    → IsGiven supports f (side, e) middle.value middle.rule → IsPulled supports f (Lower, e) middle best
    → IsGiven supports f (side, e) best.value best.rule
given_lower supports f side e middle best low given pulled =
    let here = pulled_on supports f side Lower e middle best low pulled in here.given given

-- what stands is given
pub standing_given : (supports : List Support) (f : Slot → ℕ) (s : Slot) (best : Best) → best.value ≡ f s → best.rule ≡ None
    → IsGiven supports f s best.value best.rule
standing_given supports f s best value rule = subst (IsGiven supports f s best.value) (sym rule) value

pub some_below : (supports : List Support) (f : Slot → ℕ) (side : Side) (e : Entry) (first best : Best) → AreTrue f → IsEntry e → side ≡ Lower
    → first.value ≡ f (side, e) → IsPulled supports f (side, e) first best → 1 ≤ best.value
some_below supports f side e first best truth entry low value pulled =
    let own = (truth (side, e) entry).range.0 in
    let better : first.value ≤ best.value = subst (λ (s : Side). IsNoBetter s first.value best.value) low pulled.no_worse in
    omega arith

pub some_lower : (f : Slot → ℕ) (side : Side) (e : Entry) (old new : ℕ) → AreTrue f → IsEntry e → IsNoBetter side (f (side, e)) old
    → IsNoBetter side old new → side ≡ Lower → 1 ≤ new
some_lower f side e old new truth entry stood worse low =
    let own = (truth (side, e) entry).range.0 in
    let one : f (side, e) ≤ old = subst (λ (s : Side). IsNoBetter s (f (side, e)) old) low stood in
    let more : old ≤ new = subst (λ (s : Side). IsNoBetter s old new) low worse in
    omega (arith, own, one, more)

-- what was found from below is at least what stood
pub from_standing : (supports : List Support) (f : Slot → ℕ) (side : Side) (e : Entry) (first middle last : Best) → side ≡ Lower
    → first.value ≡ f (side, e) → IsPulled supports f (side, e) first middle → IsPulled supports f (Lower, e) middle last
    → f (Lower, e) ≤ last.value
from_standing supports f side e first middle last low value one other =
    let here = ap (λ (s : Side). f (s, e)) low in
    let better : first.value ≤ middle.value = subst (λ (s : Side). IsNoBetter s first.value middle.value) low one.no_worse in
    let more = other.no_worse in
    omega arith
