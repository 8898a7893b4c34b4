-- A turn of the closing: what is pending before it and after, and how much is left.
use Rattle.std.proofs.Common.{◌≡◌, ℕ, suc, ◌+◌, ◌*◌, ◌<◌, ◌≤◌, List, Option, Some, None, refl, sym, ap, subst, ◌∙◌, arith, inl, inr, ◌⊎◌, ◌++◌, append_assoc, mul-le-mul_right}
use Rattle.std.specs.Prelude.{◌≢◌}
use Rattle.std.proofs.lemmas.Bool.{cases_eq}
use Rattle.std.proofs.lemmas.Option.{none-some, same_Some}
use Rattle.ct_words.specs.declared.claim.Side.{Side}
use Rattle.ct_words.specs.declared.entry.Entry.{Entry}
use Rattle.ct_words.specs.Entry.{IsEntry}
use Rattle.ct_rule_parts.specs.declared.support.Support.{Support}
use Rattle.ct_rule_parts.specs.Slot.{Slot, IsBetter, IsNoBetter}
use Rattle.ct_rule_parts.specs.Support.{AllStand}
use Rattle.ct_rules.specs.declared.rule.Rule.{Rule}
use Rattle.ct_rules.specs.Closed.{AreTrue, IsSatisfied, IsClosed}
use Rattle.ct_rules.specs.Derivation.{IsDerived}
use Rattle.ct_rules.specs.Rule.{rule_side}
use Rattle.ct_rules.proofs.ClosedBounds.{AreTrue-from_derived}
use Rattle.ct_rules.proofs.Derivations.{derived_from_line}
use Rattle.ct_rules.proofs.RuleLaws.{rule_entry}
use Rattle.ct_table.specs.Closing.{IsSatisfiedAt, IsPending, HasMoreLines}
use Rattle.ct_kept.specs.Kept.{KeptValue, IsKept, Grew, reason_of, with_line_put}
use Rattle.ct_slots.specs.Number.{slot_number, bound_of, side_size}
use Rattle.ct_slots.specs.Worklist.{WorkValue, IsMarked, IsMarkedOrSettled, IsIdle, waiting}
use Rattle.ct_offers.specs.Inside.Marking.{KeepsMarks, AreTested}
use Rattle.ct_table.specs.Inside.Turn.{IsPendingBut}
use Rattle.ct_offers.specs.Offers.{value_over, IsGiven, IsWithin}
use Rattle.ct_table.specs.Inside.Turn.{line_by, slack, potential}
use Rattle.ct_kept.proofs.KeptLemmas.{reason_line, IsKept-with_line, Grew-with_line}
use Rattle.ct_table.proofs.LineByLemmas.{Follows-line_by}
use Rattle.ct_slots.proofs.NumberLemmas.{slot_number-injective}
use Rattle.ct_offers.proofs.LimitLemmas.{settled_satisfied}
use Rattle.ct_offers.proofs.PullingLemmas.{over-limit}
use Rattle.ct_kept.proofs.PutLemmas.{bound-put, bound-put_other}
use Rattle.ct_offers.proofs.SatisfiedLemmas.{IsBetterAt, better-at, satisfied_after, satisfied_within, within_from_satisfied}
use Rattle.ct_rules.proofs.ClosedBounds.{no_better-trans}
use Rattle.ct_table.proofs.SlackLemmas.{slack-set}

-- each bound that is kept over supports that stand is true
pub bounds_are_true : (supports : List Support) (kept : KeptValue) → AllStand supports → IsKept supports kept
    → AreTrue (bound_of kept.bounds)
bounds_are_true supports kept stand good =
    AreTrue-from_derived supports (bound_of kept.bounds) stand
    (λ s entry.
    let found = reason_line supports kept s good entry in
    subst (IsDerived supports) found.1.claim
    (derived_from_line supports kept.lines (reason_of kept s) found.0 found.1.there good.derivation))

-- where each slot is marked or its entry is settled, each is marked or satisfied
pub pending_started : (supports : List Support) (kept : KeptValue) (work : WorkValue) → AllStand supports → IsKept supports kept
    → ((s : Slot) → IsEntry s.1 → IsMarkedOrSettled kept.bounds work s) → IsPending supports kept.bounds work
pending_started supports kept work stand good each s entry unmarked r side = elim (each s entry) [
  | inl marked ↦ absurd (unmarked marked)
  | inr settled ↦
      settled_satisfied supports (bound_of kept.bounds) r s.1 stand (bounds_are_true supports kept stand good) entry settled
]

-- once a slot is taken each other one is marked or satisfied
pub pending_taken : (supports : List Support) (bounds : List ℕ) (work new : WorkValue) (s : Slot) → IsEntry s.1
    → ((t : Slot) → IsEntry t.1 → t ≢ s → IsMarked work t → IsMarked new t) → IsPending supports bounds work
    → IsPendingBut s supports bounds new
pending_taken supports bounds work new s own others pending t entry unmarked =
    elim (cases_eq (slot_number t) (slot_number s)) [
      | inl same ↦ inl (slot_number-injective t s entry own same)
      | inr apart ↦ inr (pending t entry (λ marked. unmarked (others t entry (λ same. apart (ap slot_number same)) marked)))
    ]

-- a slot where no rule gives anything better
pub pending_satisfied : (supports : List Support) (bounds : List ℕ) (work : WorkValue) (s : Slot) (v : ℕ)
    → v ≡ bound_of bounds s → ((r : Rule) → rule_side r ≡ s.0 → IsWithin supports (bound_of bounds) s v r)
    → IsPendingBut s supports bounds work → IsPending supports bounds work
pending_satisfied supports bounds work s v stands within pending t entry unmarked = elim (pending t entry unmarked) [
  | inl same ↦ subst (IsSatisfiedAt supports (bound_of bounds)) (sym same) here
  | inr satisfied ↦ satisfied
]
  where
    here : IsSatisfiedAt supports (bound_of bounds) s
    here r side =
        subst (λ (o : Side). IsWithin supports (bound_of bounds) (o, s.1) (bound_of bounds (o, s.1)) r → IsSatisfied supports (bound_of bounds) r s.1)
        side (satisfied_within supports (bound_of bounds) r s.1)
        (subst (λ u. IsWithin supports (bound_of bounds) s u r) stands (within r side))

-- a rule gives a better bound of a slot, and no rule gives one that is better yet
pub record IsImprovement (supports : List Support) (kept : KeptValue) (r : Rule) (e : Entry) (v : ℕ) : Type 0 where
  pub entry : IsEntry e
  pub value : value_over supports (bound_of kept.bounds) r e ≡ Some v
  pub better : IsBetter (rule_side r) v (bound_of kept.bounds (rule_side r, e))
  pub within : (q : Rule) → rule_side q ≡ rule_side r → IsWithin supports (bound_of kept.bounds) (rule_side r, e) v q

-- what is kept with its line
abbrev pub improved : List Support → KeptValue → Rule → Entry → ℕ → KeptValue
improved supports kept r e v = with_line_put kept (line_by supports kept r e v)

pub kept-improved : (supports : List Support) (kept : KeptValue) (r : Rule) (e : Entry) (v : ℕ) → IsKept supports kept
    → IsImprovement supports kept r e v → IsKept supports (improved supports kept r e v)
kept-improved supports kept r e v good is =
    let line = line_by supports kept r e v in
    IsKept-with_line supports kept line good is.entry (Follows-line_by supports kept r e v good is.value) is.better

pub grew-improved : (supports : List Support) (kept : KeptValue) (r : Rule) (e : Entry) (v : ℕ) → IsKept supports kept
    → IsImprovement supports kept r e v → Grew kept (improved supports kept r e v)
grew-improved supports kept r e v good is =
    let line = line_by supports kept r e v in
    Grew-with_line supports kept line good is.entry (Follows-line_by supports kept r e v good is.value) is.better

-- its bounds are better at the slot alone
better-improved : (supports : List Support) (kept : KeptValue) (r : Rule) (e : Entry) (v : ℕ) → IsKept supports kept
    → IsImprovement supports kept r e v
    → IsBetterAt (bound_of kept.bounds) (bound_of (improved supports kept r e v).bounds) (rule_side r, e)
better-improved supports kept r e v good is =
    let line = line_by supports kept r e v in
    let s : Slot = (rule_side r, e) in
    record {
      better =
          subst (λ u. IsBetter (rule_side r) u (bound_of kept.bounds s)) (sym (bound-put kept line good.bound_count is.entry)) is.better;
      others = λ t entry. elim (cases_eq (slot_number t) (slot_number s)) [
        | inl same ↦ inl (slot_number-injective t s entry is.entry same)
        | inr apart ↦ inr (bound-put_other kept line t apart)
      ];
    }

-- each slot is marked or satisfied after it, where those that rest on the slot were tested
pub pending-improved : (supports : List Support) (kept : KeptValue) (r : Rule) (e : Entry) (v : ℕ) (work new : WorkValue)
    → IsKept supports kept → IsImprovement supports kept r e v → KeepsMarks work new
    → AreTested supports (improved supports kept r e v).bounds new (rule_side r, e)
    → IsPendingBut (rule_side r, e) supports kept.bounds work → IsPending supports (improved supports kept r e v).bounds new
pending-improved supports kept r e v work new good is keeps tested pending t entry unmarked q side =
    satisfied_after supports f g s q t.1 better
    (λ defined same rests. tested q t.1 same defined rests entry
    (subst (λ (o : Side). ¬ (IsMarked new (o, t.1))) (sym side) unmarked))
    (λ there. old (pending t entry (λ marked. unmarked (keeps t entry marked))))
  where
    s : Slot
    s = (rule_side r, e)

    f : Slot → ℕ
    f = bound_of kept.bounds

    g : Slot → ℕ
    g = bound_of (improved supports kept r e v).bounds

    better : IsBetterAt f g s
    better = better-improved supports kept r e v good is

    value : g s ≡ v
    value = bound-put kept (line_by supports kept r e v) good.bound_count is.entry

    still : (u : ℕ) → IsNoBetter (rule_side q) u (f (rule_side q, t.1)) → IsNoBetter (rule_side q) u (g (rule_side q, t.1))
    still u worse =
        no_better-trans (rule_side q) u (f (rule_side q, t.1)) (g (rule_side q, t.1)) worse
        (better-at f g s (rule_side q, t.1) better entry)

    old : (t ≡ s) ⊎ IsSatisfiedAt supports f t → IsWithin supports f (rule_side q, t.1) (g (rule_side q, t.1)) q
    old (inl same) =
        let own : rule_side q ≡ rule_side r = side ∙ ap (λ (u : Slot). u.0) same in
        subst (λ (u : Slot). IsWithin supports f u (g u) q) (sym (λ i. (own i, (ap (λ (u : Slot). u.1) same) i)))
        (subst (λ x. IsWithin supports f s x q) (sym value) (is.within q own))
    old (inr satisfied) = λ u given. still u (within_from_satisfied supports f q t.1 (satisfied q side) u given)

-- less of the first is more than all of the second
products : (a b t u w : ℕ) → a < b → u ≤ t → a * (t + 1) + u ≤ b * (t + 1) + w
products a b t u w less few =
    let h : suc a ≤ b = omega arith in
    let product = mul-le-mul_right {m = suc a} {n = b} (t + 1) h in
    omega arith

-- each turn uses something up: a better bound more than all marks
pub turn_left : (bounds new : List ℕ) (work after : WorkValue) → slack new < slack bounds → waiting after ≤ 2 * side_size
    → potential new after ≤ potential bounds work
turn_left bounds new work after less few =
    products (slack new) (slack bounds) (2 * side_size) (waiting after) (waiting work) less few

pub left-improved : (supports : List Support) (kept : KeptValue) (r : Rule) (e : Entry) (v : ℕ) (work after : WorkValue)
    → IsKept supports kept → IsImprovement supports kept r e v → waiting after ≤ 2 * side_size
    → potential (improved supports kept r e v).bounds after ≤ potential kept.bounds work
left-improved supports kept r e v work after good is few =
    turn_left kept.bounds (improved supports kept r e v).bounds work after
    (slack-set kept.bounds (rule_side r, e) v good.bound_count is.entry
    (over-limit supports (bound_of kept.bounds) r e v is.value) is.better) few

-- the rule that a pull found
pub improvement : (supports : List Support) (kept : KeptValue) (side : Side) (e : Entry) (v : ℕ) (best : Option Rule) (r : Rule)
    → IsEntry e → best ≡ Some r → IsGiven supports (bound_of kept.bounds) (side, e) v best
    → ((q : Rule) → rule_side q ≡ side → IsWithin supports (bound_of kept.bounds) (side, e) v q)
    → (rule_side r ≡ side) × IsImprovement supports kept r e v
improvement supports kept side e v None r entry is given within = absurd (none-some r is)
improvement supports kept side e v (Some q) r entry is given within =
    subst (λ (p : Rule). (rule_side p ≡ side) × IsImprovement supports kept p e v) (same_Some q r is) (
      given.0,
      record {
        entry = entry;
        value = given.1;
        better = subst (λ (o : Side). IsBetter o v (bound_of kept.bounds (o, e))) (sym given.0) given.2;
        within =
            subst (λ (o : Side). (p : Rule) → rule_side p ≡ o → IsWithin supports (bound_of kept.bounds) (o, e) v p) (sym given.0) within;
      },
    )

-- a pull that found none
pub none_found : (supports : List Support) (kept : KeptValue) (s : Slot) (v : ℕ) (best : Option Rule) → best ≡ None
    → IsGiven supports (bound_of kept.bounds) s v best → v ≡ bound_of kept.bounds s
none_found supports kept s v best is given = subst (IsGiven supports (bound_of kept.bounds) s v) is given

-- no mark is left, so no rule gives anything better
pub closed_when_idle : (supports : List Support) (bounds : List ℕ) (work : WorkValue) → IsPending supports bounds work → IsIdle work
    → IsClosed supports (bound_of bounds)
closed_when_idle supports bounds work pending idle r e slots v premises value =
    let entry = rule_entry supports r e slots premises in
    pending (rule_side r, e) entry (idle (rule_side r, e) entry) r refl slots v premises value

-- after a turn that improved the slot
pub turn_pending : (supports : List Support) (kept after : KeptValue) (side : Side) (r : Rule) (e : Entry) (v : ℕ) (work new : WorkValue)
    → rule_side r ≡ side → after ≡ improved supports kept r e v → IsKept supports kept → IsImprovement supports kept r e v
    → KeepsMarks work new → AreTested supports after.bounds new (side, e) → IsPendingBut (side, e) supports kept.bounds work
    → IsPending supports after.bounds new
turn_pending supports kept after side r e v work new same is good improves keeps tested pending =
    subst (λ (k : KeptValue). IsPending supports k.bounds new) (sym is)
    (pending-improved supports kept r e v work new good improves keeps
    (subst (λ (k : KeptValue). AreTested supports k.bounds new (rule_side r, e)) is
    (subst (λ (s : Side). AreTested supports after.bounds new (s, e)) (sym same) tested))
    (subst (λ (s : Side). IsPendingBut (s, e) supports kept.bounds work) (sym same) pending))

pub turn_kept : (supports : List Support) (kept after : KeptValue) (r : Rule) (e : Entry) (v : ℕ)
    → after ≡ improved supports kept r e v → IsKept supports kept → IsImprovement supports kept r e v → IsKept supports after
turn_kept supports kept after r e v is good improves =
    subst (IsKept supports) (sym is) (kept-improved supports kept r e v good improves)

pub turn_grew : (supports : List Support) (kept after : KeptValue) (r : Rule) (e : Entry) (v : ℕ)
    → after ≡ improved supports kept r e v → IsKept supports kept → IsImprovement supports kept r e v → Grew kept after
turn_grew supports kept after r e v is good improves =
    subst (Grew kept) (sym is) (grew-improved supports kept r e v good improves)

pub turn_uses : (supports : List Support) (kept after : KeptValue) (r : Rule) (e : Entry) (v : ℕ) (work new : WorkValue)
    → after ≡ improved supports kept r e v → IsKept supports kept → IsImprovement supports kept r e v → waiting new ≤ 2 * side_size
    → potential after.bounds new ≤ potential kept.bounds work
turn_uses supports kept after r e v work new is good improves few =
    subst (λ (k : KeptValue). potential k.bounds new ≤ potential kept.bounds work) (sym is)
    (left-improved supports kept r e v work new good improves few)

-- more lines after more lines
pub more_lines-trans : (first middle last : KeptValue) → HasMoreLines first middle → HasMoreLines middle last → HasMoreLines first last
more_lines-trans first middle last one other = (
  other.0 ∙ one.0,
  (
    one.1.0 ++ other.1.0,
    other.1.1 ∙ ap (λ lines. lines ++ other.1.0) one.1.1 ∙ append_assoc first.lines one.1.0 other.1.0,
  ),
)
