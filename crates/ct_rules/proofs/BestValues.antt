-- Over supports that stand each slot of the table has a best value: bounds are improved until they are closed.
use Rattle.std.proofs.Common.{◌≡◌, ℕ, zero, suc, ◌^◌, ◌<◌, ◌≤◌, min, Bool, true, if◌then◌else◌, List, [], Option, Some, None, refl, inl, inr, ◌⊎◌, arith}
use Rattle.std.specs.Prelude.{false, ◌&&◌}
use Rattle.std.proofs.lemmas.Bool.{false≢true}
use Rattle.std.proofs.lemmas.List.Elements.{All-nil}
use Rattle.ct_words.specs.declared.limits.TheConstants.{MAX_BOUND}
use Rattle.ct_words.specs.Counting.Binomials.{choose}
use Rattle.ct_words.specs.declared.entry.Entry.{Entry}
use Rattle.ct_words.specs.declared.claim.Side.{Side}
use Rattle.ct_words.specs.declared.claim.Side.TheVariants.{Lower, Upper}
use Rattle.ct_words.specs.Claim.{IsTrueClaim}
use Rattle.ct_words.specs.Entry.{IsEntry}
use Rattle.ct_rules.specs.declared.rule.Rule.{Rule}
use Rattle.ct_rules.specs.declared.rule.Rule.TheVariants.{L1, M1, U0, V0}
use Rattle.ct_rule_parts.specs.declared.support.Support.{Support}
use Rattle.ct_rule_parts.specs.Support.{AllStand}
use Rattle.ct_rules.specs.Rule.{row_of, rule_side, premises_of, value_of}
use Rattle.ct_rule_parts.specs.Slot.{Slot, claim_at}
use Rattle.ct_rules.specs.Derivation.{IsDerived, IsBest}
use Rattle.ct_rules.specs.Closed.{AreTrue, IsClosed}
use Rattle.ct_rules.proofs.RuleLaws.{rule_entry}
use Rattle.ct_rules.proofs.Derivations.{derived_claims_are_true}
use Rattle.ct_rules.proofs.JoinedDerivations.{derived_by_rule}
use Rattle.ct_rules.proofs.ClosedBounds.{AreDerived, AreTrue-from_derived, closed_bound_is_best}
use Rattle.ct_rules.proofs.TableLists.{table_slots, table_slots-complete}
use Rattle.ct_rules.proofs.Slack.{replaced, slack, slack-replaced}
use Rattle.ct_rules.proofs.Improvements.{Improvement, closed_or_better, improvement_is_derived, AreDerived-replaced}

-- how many words there are of the length, or of the length and the weight
word_count : ℕ → Option ℕ → ℕ
word_count n None = 2 ^ n
word_count n (Some w) = choose n w

-- bounds that need no premise and no support: one word, and all words
first_bounds : Slot → ℕ
first_bounds (Lower, e) = 1
first_bounds (Upper, e) = min (word_count e.n e.w) MAX_BOUND

-- what a rule without premises gives is derived
derived_at_once : (supports : List Support) (r : Rule) (e : Entry) (v : ℕ) → premises_of supports r e ≡ Some []
    → value_of supports r e [] ≡ Some v → IsDerived supports (claim_at (rule_side r, e) v)
derived_at_once supports r e v premises value =
    derived_by_rule supports r e [] v premises (All-nil (IsDerived supports)) value

-- a test that holds lets through what is there
lets_through : {X : Type 0} (b : Bool) (o : Option X) → b ≡ true → (if b && true && true then o else None) ≡ o
lets_through true o h = refl
lets_through false o h = absurd (false≢true h)

-- the first bounds of slots of the table are derived
first_bound_is_derived : (supports : List Support) (side : Side) (n d : ℕ) (w : Option ℕ)
    → IsEntry (record { n = n; d = d; w = w })
    → IsDerived supports
    (claim_at (side, record { n = n; d = d; w = w }) (first_bounds (side, record { n = n; d = d; w = w })))
unfolding first_bounds word_count row_of
first_bound_is_derived supports Lower n d None entry =
    derived_at_once supports L1 (record { n = n; d = d; w = None }) 1 (lets_through _ _ entry) (lets_through _ _ entry)
first_bound_is_derived supports Lower n d (Some w) entry =
    derived_at_once supports M1 (record { n = n; d = d; w = Some w }) 1 (lets_through _ _ entry) (lets_through _ _ entry)
first_bound_is_derived supports Upper n d None entry =
    derived_at_once supports U0 (record { n = n; d = d; w = None }) (min (2 ^ n) MAX_BOUND)
    (lets_through _ _ entry) (lets_through _ _ entry)
first_bound_is_derived supports Upper n d (Some w) entry =
    derived_at_once supports V0 (record { n = n; d = d; w = Some w }) (min (choose n w) MAX_BOUND)
    (lets_through _ _ entry) (lets_through _ _ entry)

first_bounds_are_derived : (supports : List Support) → AreDerived supports first_bounds
first_bounds_are_derived supports s entry = first_bound_is_derived supports s.0 s.1.n s.1.d s.1.w entry

-- bounds with an improvement in its place are derived, and have less slack
improved : (supports : List Support) (bounds : Slot → ℕ) → AllStand supports → AreDerived supports bounds
    → Improvement supports bounds
    → (better : Slot → ℕ) × AreDerived supports better × (slack better table_slots < slack bounds table_slots)
improved supports bounds stand derived better = (
  replaced bounds at better.value,
  AreDerived-replaced supports bounds at better.value derived new,
  slack-replaced bounds at better.value table_slots
      (derived_claims_are_true supports stand (claim_at at better.value) new).range.1 better.better
      (table_slots-complete at (rule_entry supports better.rule better.entry better.slots better.premises)),
)
  where
    at : Slot
    at = (rule_side better.rule, better.entry)

    new : IsDerived supports (claim_at at better.value)
    new = improvement_is_derived supports bounds derived better

-- bounds each of whose slots is derived, and to which no rule gives anything better
pub record ClosedBounds (supports : List Support) : Type 0 where
  pub bounds : Slot → ℕ
  pub derived : AreDerived supports bounds
  pub closed : IsClosed supports bounds

-- derived bounds can be improved until they are closed
closed_from : (n : ℕ) (supports : List Support) (bounds : Slot → ℕ) → AllStand supports → AreDerived supports bounds
    → slack bounds table_slots < n
    → ClosedBounds supports
closed_from zero supports bounds stand derived h = absurd (omega arith)
closed_from (suc n) supports bounds stand derived h =
    go (closed_or_better supports bounds) (λ next more less. closed_from n supports next stand more (omega arith))
  where
    go : IsClosed supports bounds ⊎ Improvement supports bounds
        → ((next : Slot → ℕ) → AreDerived supports next → slack next table_slots < slack bounds table_slots
        → ClosedBounds supports)
        → ClosedBounds supports
    go (inl closed) on = record { bounds = bounds; derived = derived; closed = closed }
    go (inr better) on = let next = improved supports bounds stand derived better in on next.0 next.1 next.2

-- over supports that stand some derived bounds are closed
pub closed_bounds_exist : (supports : List Support) → AllStand supports → ClosedBounds supports
closed_bounds_exist supports stand =
    closed_from (suc (slack first_bounds table_slots)) supports first_bounds stand (first_bounds_are_derived supports)
    (omega arith)

-- so there are closed true bounds
pub closed_true_bounds_exist : (supports : List Support) → AllStand supports
    → (bounds : Slot → ℕ) × AreTrue bounds × IsClosed supports bounds
closed_true_bounds_exist supports stand =
    let all = closed_bounds_exist supports stand in
    (all.bounds, AreTrue-from_derived supports all.bounds stand all.derived, all.closed)

-- each slot of the table has a best value
pub best_exists : (supports : List Support) (s : Slot) → AllStand supports → IsEntry s.1 → (v : ℕ) × IsBest supports s v
best_exists supports s stand entry =
    let all = closed_bounds_exist supports stand in
    let true_bounds = AreTrue-from_derived supports all.bounds stand all.derived in
    (all.bounds s, closed_bound_is_best supports all.bounds s stand true_bounds all.closed (all.derived s entry))

-- a best value is true
pub best_is_true : (supports : List Support) (s : Slot) (v : ℕ) → AllStand supports → IsBest supports s v
    → IsTrueClaim (claim_at s v)
best_is_true supports s v stand best = derived_claims_are_true supports stand (claim_at s v) best.derived

-- so a lower and an upper bound of one value are the best of an entry, where both are derived
pub equal_is_best : (supports : List Support) (e : Entry) (v : ℕ) → AllStand supports → IsDerived supports (claim_at (Lower, e) v)
    → IsDerived supports (claim_at (Upper, e) v) → IsBest supports (Lower, e) v × IsBest supports (Upper, e) v
equal_is_best supports e v stand lower upper =
    let below = (derived_claims_are_true supports stand (claim_at (Lower, e) v) lower).truth in
    let above = (derived_claims_are_true supports stand (claim_at (Upper, e) v) upper).truth in (
      record {
        derived = lower;
        none_better = λ u derived.
            let code = (derived_claims_are_true supports stand (claim_at (Lower, e) u) derived).truth in
            let most = above code.0 code.1 in
            let size = code.2 in
            omega arith;
      },
      record {
        derived = upper;
        none_better = λ u derived.
            let most = (derived_claims_are_true supports stand (claim_at (Upper, e) u) derived).truth below.0 below.1 in
            let size = below.2 in
            omega arith;
      },
    )

-- and the best lower value of an entry is at most the best upper one
pub best_in_order : (supports : List Support) (e : Entry) (u v : ℕ) → AllStand supports
    → IsBest supports (Lower, e) u → IsBest supports (Upper, e) v → u ≤ v
best_in_order supports e u v stand lower upper =
    let code = (best_is_true supports (Lower, e) u stand lower).truth in
    let bound = (best_is_true supports (Upper, e) v stand upper).truth code.0 code.1 in
    let size = code.2 in
    omega arith
