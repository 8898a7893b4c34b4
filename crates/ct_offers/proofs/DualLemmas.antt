-- The entries that rest on one by a dual, in the closing of a table.
use Rattle.std.proofs.Common.{◌≡◌, ℕ, suc, ◌+◌, ◌*◌, ◌%◌, ◌<◌, ap, List, All, Contains, length, arith, Option, Some, None, true, false, refl, sym, subst, inl, inr, ◌⊎◌, ◌∙◌}
use Rattle.std.specs.Prelude.{ℤ, [], ◌∷◌, slice_get, get_or, if◌then◌else◌}
use Rattle.std.proofs.lemmas.Bool.{false≢true, cases_lt}
use Rattle.std.specs.List.{range_with_len}
use Rattle.std.proofs.lemmas.List.Elements.{All-nil, All-cons, All-append, All-map, All-contains}
use Rattle.std.proofs.lemmas.Option.{none-some, same_Some, cond_some, slice_get_within}
use Rattle.ct_words.specs.declared.claim.Side.{Side}
use Rattle.ct_words.specs.declared.claim.Side.TheVariants.{Lower, Upper}
use Rattle.ct_words.specs.declared.entry.Entry.{Entry}
use Rattle.ct_words.specs.Entry.{constant_weight, is_entry, same_entry}
use Rattle.ct_words.proofs.EntryLemmas.{same_entry_is}
use Rattle.ct_words.specs.Constructions.Even.{even_from}
use Rattle.ct_duals.specs.Dual.{as_distance}
use Rattle.ct_duals.specs.Bound.{AcceptedValue, positive, dual_premises}
use Rattle.ct_rule_parts.specs.declared.support.Support.{Support}
use Rattle.ct_rule_parts.specs.declared.support.Support.TheVariants.{Nothing, Size, Bound, Odd, Local}
use Rattle.ct_rule_parts.specs.Support.{dual_behind}
use Rattle.ct_rule_parts.proofs.EntryLists.{All-range}
use Rattle.ct_rule_parts.proofs.PlainEntries.{no_item}
use Rattle.ct_weight_rules.specs.Inside.RestedOn.{by_even_distance, all_weights}
use Rattle.ct_weight_rules.specs.Neighbours.{of_weight, unweighted, unweighted_and_nearer}
use Rattle.ct_weight_rules.specs.Delsarte.{premises_of_dual}
use Rattle.ct_rules.specs.declared.rule.Rule.{Rule}
use Rattle.ct_rules.specs.Rule.{cited, parts_over, applies}
use Rattle.ct_rules.proofs.Applied.{defined}
use Rattle.ct_rules.proofs.RestedRows.{leads_back}
use Rattle.ct_slots.specs.Places.{AreSupportPlaces, IsPlaceOf, IsUpTo}
use Rattle.ct_slots.specs.Worklist.{WorkValue}
use Rattle.ct_offers.specs.Inside.Pulled.{given_rule}
use Rattle.ct_offers.specs.Inside.Marking.{KeepsMarks, IsTestedAt, IsTestedByDual, AreTestedByDuals, AreTestedAtWeights, AreTestedFromDuals}
use Rattle.ct_offers.proofs.BoundingRules.{by_duals, bounding_rests, bounding_back, bounding_dual}
use Rattle.ct_offers.proofs.MarkingLemmas.{tested_at_more}
use Rattle.ct_offers.proofs.PulledLemmas.{above_step, dual_support_there}

-- the rule by which the support at a place bounds an entry from above
abbrev pub by_support : List Support → Entry → ℕ → Rule
by_support supports e place = given_rule (slice_get supports place) (Upper, e) place

pub below-not_above : (side : Side) → side ≡ Lower → side ≡ Upper → ⊥
below-not_above side low up = let clash : Lower ≡ Upper = sym low ∙ up in absurd cc

-- what was tested from an entry, at one that rests on it
pub tested_from_duals : (supports : List Support) (bounds : List ℕ) (work : WorkValue) (from e : Entry) (place : ℕ)
    → AreTestedFromDuals supports bounds work from → applies supports (by_support supports e place) e ≡ true
    → Contains ((parts_over supports (by_support supports e place)).rests_on e) from → IsTestedAt supports bounds work (by_support supports e place) e
tested_from_duals supports bounds work from e place each here rests =
    each e place here rests

-- more marks
by_dual_more : (supports : List Support) (bounds : List ℕ) (work new : WorkValue) (from e : Entry) (place : ℕ) → KeepsMarks work new
    → IsTestedByDual supports bounds work from e place → IsTestedByDual supports bounds new from e place
by_dual_more supports bounds work new from e place keeps tested rests =
    tested_at_more supports bounds work new (by_support supports e place) e keeps (tested rests)

pub by_duals_more : (supports : List Support) (bounds : List ℕ) (work new : WorkValue) (from e : Entry) → KeepsMarks work new
    → AreTestedByDuals supports bounds work from e → AreTestedByDuals supports bounds new from e
by_duals_more supports bounds work new from e keeps each place here =
    by_dual_more supports bounds work new from e place keeps (each place here)

-- the supports that stand for the entry were tested, but those up to the next one
abbrev pub AreTestedAbove : List Support → List ℕ → WorkValue → Entry → Entry → List (Option Entry) → Option ℕ → Type 0
AreTestedAbove supports bounds work from e entries next = (place : ℕ) → IsPlaceOf entries e place
    → IsUpTo next place ⊎ IsTestedByDual supports bounds work from e place

pub tested_step : (supports : List Support) (bounds : List ℕ) (work new : WorkValue) (from e : Entry) (entries : List (Option Entry))
    (place : ℕ) (next : Option ℕ) → KeepsMarks work new → AreTestedAbove supports bounds work from e entries (Some place)
    → IsPlaceOf entries e place → IsTestedByDual supports bounds new from e place
    → ((g : Entry) (other : ℕ) → IsPlaceOf entries g place → IsPlaceOf entries g other → other < place → IsUpTo next other)
    → AreTestedAbove supports bounds new from e entries next
tested_step supports bounds work new from e entries place next keeps above here tested last =
    above_step (λ p. IsTestedByDual supports bounds work from e p) (λ p. IsTestedByDual supports bounds new from e p) entries e place next
    (λ p before. by_dual_more supports bounds work new from e p keeps before) above here tested last

-- a dual that is defined at an entry stands at one of its places
dual_place : (supports : List Support) (e : Entry) (entries : List (Option Entry)) (place : ℕ) → AreSupportPlaces supports entries
    → applies supports (by_support supports e place) e ≡ true → IsPlaceOf entries e place
dual_place supports e entries place are here =
    let is = defined (parts_over supports (by_support supports e place)) e here in
    let there = dual_support_there supports place e (bounding_dual supports place e here) in
    are.given place there.0 e is.entry there.1 there.2

-- once none is left
pub tested_all : (supports : List Support) (bounds : List ℕ) (work : WorkValue) (from e : Entry) (entries : List (Option Entry))
    → AreSupportPlaces supports entries → AreTestedAbove supports bounds work from e entries None → AreTestedByDuals supports bounds work from e
tested_all supports bounds work from e entries are above place here =
    elim (above place (dual_place supports e entries place are here)) [
      | inl none ↦ absurd none
      | inr tested ↦ tested
    ]

-- no dual is defined at an entry that is not of the table
pub none_outside : (supports : List Support) (bounds : List ℕ) (work : WorkValue) (from e : Entry) → is_entry e ≡ false
    → AreTestedByDuals supports bounds work from e
none_outside supports bounds work from e outside place here =
    absurd (false≢true (sym outside ∙ (defined (parts_over supports (by_support supports e place)) e here).entry))

-- what was tested at each weight, with more marks
pub at_weights_more : (supports : List Support) (bounds : List ℕ) (work new : WorkValue) (from : Entry) (below : ℕ) → KeepsMarks work new
    → AreTestedAtWeights supports bounds work from below → AreTestedByDuals supports bounds new from (of_weight from below)
    → AreTestedAtWeights supports bounds new from (below + 1)
at_weights_more supports bounds work new from below keeps each last w less = elim (cases_lt w below) [
  | inl before ↦ by_duals_more supports bounds work new from (of_weight from w) keeps (each w before)
  | inr not_before ↦
      let same : below ≡ w = omega arith in
      subst (λ v. AreTestedByDuals supports bounds new from (of_weight from v)) same last
]

-- without supports nothing rests on an entry by a dual
pub tested_without : (supports : List Support) (bounds : List ℕ) (work : WorkValue) (from : Entry) → length supports ≡ 0
    → AreTestedFromDuals supports bounds work from
tested_without supports bounds work from none e place here rests =
    let support = dual_support_there supports place e (bounding_dual supports place e here) in
    let within : place < length supports = slice_get_within supports place support.0 support.1 in
    absurd (omega arith)

-- an entry that rests on another by a dual is one of two, or of its length and its distance with a weight
pub tested_at_all : (supports : List Support) (bounds : List ℕ) (work : WorkValue) (from same nearer : Entry)
    → same ≡ unweighted from → nearer ≡ unweighted_and_nearer from
    → AreTestedByDuals supports bounds work from same → AreTestedByDuals supports bounds work from nearer
    → AreTestedAtWeights supports bounds work from (suc from.n) → AreTestedFromDuals supports bounds work from
tested_at_all supports bounds work from same nearer is_same is_nearer first second weighted e place here rests =
    All-contains IsTestedThere (by_duals from) e each
    (bounding_back (slice_get supports place) place from e (leads_back r (cited supports r) e from here rests)) place here rests
  where
    r : Rule
    r = by_support supports e place

    IsTestedThere : Entry → Type 0
    IsTestedThere g = AreTestedByDuals supports bounds work from g

    each : All IsTestedThere (by_duals from)
    each =
        All-append IsTestedThere (by_even_distance from) (all_weights from)
        (All-cons IsTestedThere (unweighted from) (unweighted_and_nearer from ∷ []) (subst IsTestedThere is_same first)
        (All-cons IsTestedThere (unweighted_and_nearer from) [] (subst IsTestedThere is_nearer second) (All-nil IsTestedThere)))
        (All-map IsTestedThere (λ w. of_weight from w) (range_with_len 0 (from.n + 1)) (All-range (λ w. IsTestedThere (of_weight from w)) 0 (from.n + 1) (λ w low high. weighted w (omega arith))))

-- a dual rests on entries with a weight alone
weighted_premises : (a : AcceptedValue) (f : Entry) → Contains (dual_premises a.dual) f → f.w ≡ None → ⊥
weighted_premises a f rests = All-contains IsWeighted (dual_premises a.dual) f (All-map IsWeighted at (positive a.dual.y) (λ k o l. weighted (get_or (positive a.dual.y) k o))) rests
  where
    IsWeighted : Entry → Type 0
    IsWeighted g = g.w ≡ None → ⊥

    at : ℕ × ℤ → Entry
    at p = constant_weight a.dual.entry.n (even_from a.dual.entry.d) (as_distance a.dual.entry.w p.0)

    weighted : (p : ℕ × ℤ) → IsWeighted (at p)
    weighted p none = none-some (as_distance a.dual.entry.w p.0) (sym none)

pub tested_from_plain : (supports : List Support) (bounds : List ℕ) (work : WorkValue) (from : Entry) → from.w ≡ None
    → AreTestedFromDuals supports bounds work from
tested_from_plain supports bounds work from none e place here rests = go (dual_behind (slice_get supports place) e) (bounding_rests supports place e from rests)
  where
    go : (o : Option AcceptedValue) → Contains (premises_of_dual o) from → IsTestedAt supports bounds work (by_support supports e place) e
    go None rests = no_item (IsTestedAt supports bounds work (by_support supports e place) e) from rests
    go (Some a) rests = absurd (weighted_premises a from rests none)

-- the rule by which a support bounds from above rests on nothing where the support has no dual there
pub rests_on_none : (supports : List Support) (place : ℕ) (e from : Entry) → dual_behind (slice_get supports place) e ≡ None
    → Contains ((parts_over supports (by_support supports e place)).rests_on e) from → ⊥
rests_on_none supports place e from none rests =
    no_item ⊥ from (subst (λ (o : Option AcceptedValue). Contains (premises_of_dual o) from) none (bounding_rests supports place e from rests))

-- and on nothing but what its dual there does
pub rests_on_dual : (supports : List Support) (place : ℕ) (e from : Entry) (a : AcceptedValue) → dual_behind (slice_get supports place) e ≡ Some a
    → Contains ((parts_over supports (by_support supports e place)).rests_on e) from → Contains (dual_premises a.dual) from
rests_on_dual supports place e from a at rests =
    subst (λ (o : Option AcceptedValue). Contains (premises_of_dual o) from) at (bounding_rests supports place e from rests)

there : (b : AcceptedValue) (e : Entry) (a : AcceptedValue) → (if same_entry b.dual.entry e then Some b else None) ≡ Some a → a.dual.entry ≡ e
there b e a at =
    let both = cond_some (same_entry b.dual.entry e) b a at in
    subst (λ (x : AcceptedValue). x.dual.entry ≡ e) both.1 (same_entry_is b.dual.entry e both.0)

-- the dual that a support has at an entry is of it
behind_entry : (c : Option Support) (e : Entry) (a : AcceptedValue) → dual_behind c e ≡ Some a → a.dual.entry ≡ e
behind_entry None e a at = absurd (none-some a at)
behind_entry (Some Nothing) e a at = absurd (none-some a at)
behind_entry (Some (Size f size)) e a at = absurd (none-some a at)
behind_entry (Some (Bound b)) e a at = there b e a at
behind_entry (Some (Odd b m)) e a at = there b e a at
behind_entry (Some (Local b)) e a at = there b e a at

-- a dual of an entry with weight rests on entries of even weight
even_premises : (a : AcceptedValue) (w v : ℕ) (f : Entry) → a.dual.entry.w ≡ Some w → Contains (dual_premises a.dual) f → f.w ≡ Some v → v % 2 ≡ 1 → ⊥
even_premises a w v f weighted rests =
    All-contains IsEven (dual_premises a.dual) f (All-map IsEven at (positive a.dual.y) (λ k o l. even (get_or (positive a.dual.y) k o))) rests
  where
    IsEven : Entry → Type 0
    IsEven g = g.w ≡ Some v → v % 2 ≡ 1 → ⊥

    at : ℕ × ℤ → Entry
    at p = constant_weight a.dual.entry.n (even_from a.dual.entry.d) (as_distance a.dual.entry.w p.0)

    even : (p : ℕ × ℤ) → IsEven (at p)
    even p is odd =
        let twice : 2 * p.0 ≡ v = ap (λ o. as_distance o p.0) (sym weighted) ∙ same_Some (as_distance a.dual.entry.w p.0) v is in
        omega arith

-- so no entry with weight rests by a dual on one of odd weight
pub tested_from_odd : (supports : List Support) (bounds : List ℕ) (work : WorkValue) (from : Entry) (v below : ℕ) → from.w ≡ Some v → v % 2 ≡ 1
    → AreTestedAtWeights supports bounds work from below
tested_from_odd supports bounds work from v below is odd w less place here rests =
    go (dual_behind (slice_get supports place) e) refl (bounding_rests supports place e from rests)
  where
    e : Entry
    e = of_weight from w

    go : (o : Option AcceptedValue) → dual_behind (slice_get supports place) e ≡ o → Contains (premises_of_dual o) from
        → IsTestedAt supports bounds work (by_support supports e place) e
    go None at here = no_item (IsTestedAt supports bounds work (by_support supports e place) e) from here
    go (Some a) at here =
        absurd (even_premises a w v from (ap (λ (g : Entry). g.w) (behind_entry (slice_get supports place) e a at)) here is odd)
