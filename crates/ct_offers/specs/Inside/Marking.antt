-- Which slots were marked, and which rules were asked for them.
use Rattle.std.specs.Prelude.{◌≡◌, ℕ, ◌<◌, true, List, Contains, slice_get}
use Rattle.ct_words.specs.declared.claim.Side.TheVariants.{Upper}
use Rattle.ct_words.specs.declared.entry.Entry.{Entry}
use Rattle.ct_words.specs.Entry.{IsEntry, unrestricted}
use Rattle.ct_rule_parts.specs.declared.support.Support.{Support}
use Rattle.ct_rule_parts.specs.Slot.{Slot}
use Rattle.ct_weight_rules.specs.Neighbours.{of_weight}
use Rattle.ct_rules.specs.declared.rule.Rule.{Rule}
use Rattle.ct_rules.specs.declared.rule.Rule.TheVariants.{L11}
use Rattle.ct_rules.specs.Closed.{IsSatisfied}
use Rattle.ct_rules.specs.Inside.RestedOn.{rested_on_by}
use Rattle.ct_rules.specs.Rule.{rule_side, is_by_weight, applies, parts_over}
use Rattle.ct_slots.specs.Number.{bound_of}
use Rattle.ct_offers.specs.Inside.Pulled.{given_rule}
use Rattle.ct_slots.specs.Worklist.{WorkValue, IsMarked}

-- what was marked still is
abbrev pub KeepsMarks : WorkValue → WorkValue → Type 0
KeepsMarks old new = (t : Slot) → IsEntry t.1 → IsMarked old t → IsMarked new t

-- a slot is marked, or the rule gives nothing better there
abbrev pub IsTestedAt : List Support → List ℕ → WorkValue → Rule → Entry → Type 0
IsTestedAt supports bounds work r e = IsEntry e → ¬ (IsMarked work (rule_side r, e)) → IsSatisfied supports (bound_of bounds) r e

-- so it is at each entry that may rest on one by a rule with neither numbers nor a support
abbrev pub IsTestedFrom : List Support → List ℕ → WorkValue → Entry → Rule → Type 0
IsTestedFrom supports bounds work from r =
    (e : Entry) → Contains (rested_on_by r from) e → IsTestedAt supports bounds work r e

-- at A(n,d), where it rests on an entry by words side by side
abbrev pub IsTestedAtSum : List ℕ → WorkValue → Entry → ℕ → ℕ → Type 0
IsTestedAtSum bounds work from n d = (supports : List Support) (m c : ℕ) → applies supports (L11 m c) (unrestricted n d) ≡ true →
    Contains ((parts_over supports (L11 m c)).rests_on (unrestricted n d)) from → IsTestedAt supports bounds work (L11 m c) (unrestricted n d)

-- at each entry of a length
abbrev pub AreTestedAtLength : List ℕ → WorkValue → Entry → ℕ → Type 0
AreTestedAtLength bounds work from n = (d : ℕ) → IsTestedAtSum bounds work from n d

-- at each entry that rests on one by words side by side
abbrev pub AreTestedJuxtaposition : List ℕ → WorkValue → Entry → Type 0
AreTestedJuxtaposition bounds work from = (supports : List Support) (m c : ℕ) (e : Entry) → applies supports (L11 m c) e ≡ true →
    Contains ((parts_over supports (L11 m c)).rests_on e) from → IsTestedAt supports bounds work (L11 m c) e

-- at each entry that rests on a slot by a rule that leads from entries with weight to those without
abbrev pub AreTestedByWeight : List Support → List ℕ → WorkValue → Slot → Type 0
AreTestedByWeight supports bounds work s = (r : Rule) (e : Entry) → is_by_weight r ≡ true → rule_side r ≡ s.0 → applies supports r e ≡ true →
    Contains ((parts_over supports r).rests_on e) s.1 → IsTestedAt supports bounds work r e

-- at an entry, where the rule by which the support at a place bounds it from above rests on another
abbrev pub IsTestedByDual : List Support → List ℕ → WorkValue → Entry → Entry → ℕ → Type 0
IsTestedByDual supports bounds work from e place =
    Contains ((parts_over supports (given_rule (slice_get supports place) (Upper, e) place)).rests_on e) from →
    IsTestedAt supports bounds work (given_rule (slice_get supports place) (Upper, e) place) e

-- so by each dual that is defined there
abbrev pub AreTestedByDuals : List Support → List ℕ → WorkValue → Entry → Entry → Type 0
AreTestedByDuals supports bounds work from e =
    (place : ℕ) → applies supports (given_rule (slice_get supports place) (Upper, e) place) e ≡ true → IsTestedByDual supports bounds work from e place

-- so at the entries of the length and the distance of another, of each weight below one
abbrev pub AreTestedAtWeights : List Support → List ℕ → WorkValue → Entry → ℕ → Type 0
AreTestedAtWeights supports bounds work from below = (w : ℕ) → w < below → AreTestedByDuals supports bounds work from (of_weight from w)

-- at each entry that rests on one by a dual
abbrev pub AreTestedFromDuals : List Support → List ℕ → WorkValue → Entry → Type 0
AreTestedFromDuals supports bounds work from = (e : Entry) → AreTestedByDuals supports bounds work from e

-- at each entry that rests on a slot
abbrev pub AreTested : List Support → List ℕ → WorkValue → Slot → Type 0
AreTested supports bounds work s = (r : Rule) (e : Entry) → rule_side r ≡ s.0 → applies supports r e ≡ true →
    Contains ((parts_over supports r).rests_on e) s.1 → IsTestedAt supports bounds work r e
