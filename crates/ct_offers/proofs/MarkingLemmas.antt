-- Which entries were tested while slots are marked.
use Rattle.std.proofs.Common.{◌≡◌, ℕ, ◌+◌, ◌-◌, ◌<◌, ◌≤◌, List, [], ◌∷◌, length, All, Contains, Some, None, refl, sym, ap, subst, ◌∙◌, arith, inl, inr}
use Rattle.std.specs.Prelude.{slice_get}
use Rattle.std.proofs.lemmas.Bool.{cases_eq}
use Rattle.std.proofs.lemmas.List.Elements.{All-nil, All-cons, All-head, All-tail}
use Rattle.std.proofs.lemmas.Option.{same_Some, slice_get-get_or}
use Rattle.ct_words.specs.declared.claim.Side.TheVariants.{Upper}
use Rattle.ct_words.specs.declared.entry.Entry.{Entry}
use Rattle.ct_words.specs.Entry.{unrestricted}
use Rattle.ct_rule_parts.specs.declared.support.Support.{Support}
use Rattle.ct_rule_parts.specs.Slot.{Slot}
use Rattle.ct_rule_parts.proofs.PlainEntries.{two_items}
use Rattle.ct_rules.specs.declared.rule.Rule.{Rule}
use Rattle.ct_rules.specs.declared.rule.Rule.TheVariants.{L11}
use Rattle.ct_rules.specs.Inside.RestedOn.{rested_on_by}
use Rattle.ct_rules.specs.Rule.{row_of, rule_side, parts_over}
use Rattle.ct_slots.specs.Worklist.{WorkValue}
use Rattle.ct_offers.specs.Inside.Marking.{KeepsMarks, IsTestedAt, IsTestedFrom, AreTestedByWeight}

pub keeps-trans : (first middle last : WorkValue) → KeepsMarks first middle → KeepsMarks middle last → KeepsMarks first last
keeps-trans first middle last one other t entry marked = other t entry (one t entry marked)

-- what was tested still is when more is marked
pub tested_at_more : (supports : List Support) (bounds : List ℕ) (work new : WorkValue) (r : Rule) (e : Entry) → KeepsMarks work new
    → IsTestedAt supports bounds work r e → IsTestedAt supports bounds new r e
tested_at_more supports bounds work new r e keeps tested entry unmarked =
    tested entry (λ marked. unmarked (keeps (rule_side r, e) entry marked))

pub all_tested_more : (supports : List Support) (bounds : List ℕ) (work new : WorkValue) (from : Entry) (rules : List Rule)
    → KeepsMarks work new → All (IsTestedFrom supports bounds work from) rules → All (IsTestedFrom supports bounds new from) rules
all_tested_more supports bounds work new from [] keeps each = All-nil (IsTestedFrom supports bounds new from)
all_tested_more supports bounds work new from (r ∷ rules) keeps each =
    All-cons (IsTestedFrom supports bounds new from) r rules
    (λ e among. tested_at_more supports bounds work new r e keeps
    (All-head (IsTestedFrom supports bounds work from) r rules each e among))
    (all_tested_more supports bounds work new from rules keeps (All-tail (IsTestedFrom supports bounds work from) r rules each))

-- one more entry of those that may rest on another
pub tested_and_one : (supports : List Support) (bounds : List ℕ) (work new : WorkValue) (r : Rule) (es : List Entry) (n : ℕ) (f : Entry)
    → KeepsMarks work new → slice_get es n ≡ Some f → IsTestedAt supports bounds new r f
    → ((k : ℕ) (e : Entry) → k < n → slice_get es k ≡ Some e → IsTestedAt supports bounds work r e)
    → (k : ℕ) (e : Entry) → k < n + 1 → slice_get es k ≡ Some e → IsTestedAt supports bounds new r e
tested_and_one supports bounds work new r es n f keeps there here before k e below at = elim (cases_eq k n) [
  | inl same ↦ subst (IsTestedAt supports bounds new r) (same_Some f e (sym there ∙ ap (slice_get es) (sym same) ∙ at)) here
  | inr other ↦ tested_at_more supports bounds work new r e keeps (before k e (omega arith) at)
]

-- all of them
pub tested_from : (supports : List Support) (bounds : List ℕ) (work : WorkValue) (r : Rule) (from : Entry) (n : ℕ)
    (es : List Entry) → es ≡ rested_on_by r from → length es ≤ n
    → ((k : ℕ) (e : Entry) → k < n → slice_get es k ≡ Some e → IsTestedAt supports bounds work r e)
    → IsTestedFrom supports bounds work from r
tested_from supports bounds work r from n es are enough each e among =
    let there = subst (λ (fs : List Entry). Contains fs e) (sym are) among in
    each there.0 e (omega (arith, there.1)) (slice_get-get_or es there.0 e there.1 ∙ ap Some there.2)

-- and by those that lead from entries with weight to those without
pub by_weight_more : (supports : List Support) (bounds : List ℕ) (work new : WorkValue) (s : Slot) → KeepsMarks work new
    → AreTestedByWeight supports bounds work s → AreTestedByWeight supports bounds new s
by_weight_more supports bounds work new s keeps each r e by side defined rests =
    tested_at_more supports bounds work new r e keeps (each r e by side defined rests)

-- words side by side rest on entries without weight, from below
pub sum_rests : (supports : List Support) (m c : ℕ) (f e : Entry) → Contains ((parts_over supports (L11 m c)).rests_on f) e → e.w ≡ None
unfolding row_of
sum_rests supports m c f e rests =
    two_items (λ g. g.w ≡ None) (unrestricted m c) (unrestricted (f.n - m) (f.d - c)) e refl refl rests

pub sum_not_upper : (m c : ℕ) → rule_side (L11 m c) ≡ Upper → ⊥
unfolding row_of
sum_not_upper m c h = cc
