-- What is left of a table after the walk: no bound is better than before, a bound that is not lost is as before, and so is its reason where it
-- does not rest on what is taken out.
use Rattle.std.proofs.Common.{◌≡◌, ℕ, zero, suc, ◌+◌, ◌-◌, ◌≤◌, List, [], ◌∷◌, length, map, drop, All, Option, Some, None, option_map, refl, sym, ap, subst, ◌∙◌, inl, inr, arith}
use Rattle.std.specs.Prelude.{slice_get, ◌≢◌}
use Rattle.std.proofs.lemmas.Bool.{cases_lt, cases_eq}
use Rattle.std.proofs.lemmas.List.Elements.{All-head, All-tail}
use Rattle.std.proofs.lemmas.Option.{none-some, same_Some}
use Rattle.ct_words.specs.declared.claim.Claim.{Claim}
use Rattle.ct_words.specs.declared.claim.Side.{Side}
use Rattle.ct_words.specs.declared.claim.Side.TheVariants.{Lower, Upper}
use Rattle.ct_words.specs.declared.entry.Entry.{Entry}
use Rattle.ct_words.specs.Claim.{IsTrueClaim}
use Rattle.ct_words.specs.Entry.{IsEntry}
use Rattle.ct_rule_parts.specs.declared.support.Support.{Support}
use Rattle.ct_rule_parts.specs.Slot.{Slot, slot_of, IsBetter, IsNoBetter, AreNoBetter}
use Rattle.ct_rule_parts.specs.Support.{AllStand}
use Rattle.ct_rules.specs.declared.rule.Rule.{Rule}
use Rattle.ct_rules.specs.Closed.{AreTrue, IsSatisfied, IsClosed}
use Rattle.ct_rules.specs.Derivation.{LineValue}
use Rattle.ct_rules.specs.Rule.{rule_side, value_of}
use Rattle.ct_rules.proofs.Applied.{cited-stands}
use Rattle.ct_rules.proofs.ClosedBounds.{no_better-trans, no_better-antisymmetric, claims_of, slots_of_claims, values_of_claims, All-claims_of}
use Rattle.ct_rules.proofs.RuleLaws.{premises_in_table, premises_on_side, value_is_monotone}
use Rattle.ct_rules.specs.Removal.{Places, RestsOnPlaces, voided}
use Rattle.ct_rules.proofs.VoidedSupports.{IsClosed-voided, AllStand-voided}
use Rattle.ct_table.specs.Closing.{IsPending}
use Rattle.ct_kept.specs.Kept.{KeptValue, IsKept, Grew, reason_of}
use Rattle.ct_slots.specs.Number.{bound_of}
use Rattle.ct_slots.specs.Worklist.{WorkValue, IsMarked}
use Rattle.ct_rule_parts.proofs.GetLemmas.{slice_get-append_some}
use Rattle.ct_kept.proofs.KeptLemmas.{IsReasonLine, reason_line, reason-within, line-no_better, Grew-no_worse}
use Rattle.ct_table.specs.Inside.Walk.{moved_place}
use Rattle.ct_table.specs.Inside.Removing.{IsMarkedIfLost}
use Rattle.ct_table.specs.Removal.{claim_and_rule}
use Rattle.ct_table.proofs.MovedPlaces.{moved-base}
use Rattle.ct_table.proofs.TableLemmas.{bounds_are_true, kept-no_better}
use Rattle.ct_table.proofs.WalkLemmas.{IsWalked}

-- a bound that is no better than another and is not that one, is worse
worse_other : (side : Side) (u v : ℕ) → IsNoBetter side u v → u ≢ v → IsBetter side v u
worse_other Lower u v worse other = omega (arith, worse, other)
worse_other Upper u v worse other = omega (arith, worse, other)

better_not : (side : Side) (u v : ℕ) → IsBetter side u v → IsNoBetter side u v → ⊥
better_not Lower u v better worse = omega arith
better_not Upper u v better worse = omega arith

-- an item past the first ones
slice_get-drop : {X : Type 0} (n : ℕ) (xs : List X) (i : ℕ) (x : X) → slice_get xs (n + i) ≡ Some x
    → slice_get (drop n xs) i ≡ Some x
slice_get-drop zero xs i x h = let same : 0 + i ≡ i = omega arith in ap (slice_get xs) (sym same) ∙ h
slice_get-drop (suc n) [] i x h = absurd (none-some x h)
slice_get-drop (suc n) (y ∷ ys) i x h =
    let next : suc n + i ≡ suc (n + i) = omega arith in
    slice_get-drop n ys i x (sym (ap (slice_get (y ∷ ys)) next) ∙ h)

-- what holds of each item holds of the one at a place
all_at : {X : Type 0} (P : X → Type 0) (xs : List X) (i : ℕ) (x : X) → All P xs → slice_get xs i ≡ Some x → P x
all_at P [] i x all h = absurd (none-some x h)
all_at P (y ∷ ys) zero x all h = subst P (same_Some y x h) (All-head P y ys all)
all_at P (y ∷ ys) (suc i) x all h = all_at P ys i x (All-tail P y ys all) h

-- bounds none of which is better, for slots of one side
AreNoBetter-map : (side : Side) (f g : Slot → ℕ) (slots : List Slot) → All (λ s. s.0 ≡ side) slots
    → All (λ s. IsEntry s.1) slots → ((s : Slot) → IsEntry s.1 → IsNoBetter s.0 (f s) (g s))
    → AreNoBetter side (map f slots) (map g slots)
AreNoBetter-map side f g [] sides entries each = tt
AreNoBetter-map side f g (s ∷ slots) sides entries each =
    let here : s.0 ≡ side = All-head (λ t. t.0 ≡ side) s slots sides in (
      subst (λ (t : Side). IsNoBetter t (f s) (g s)) here (each s (All-head (λ t. IsEntry t.1) s slots entries)),
      AreNoBetter-map side f g slots (All-tail (λ t. t.0 ≡ side) s slots sides)
          (All-tail (λ t. IsEntry t.1) s slots entries) each,
    )

-- where no bound got better and one stays, a rule gives nothing better than it
satisfied_where_same : (supports : List Support) (before now : Slot → ℕ) → AllStand supports → AreTrue before
    → IsClosed supports before → ((s : Slot) → IsEntry s.1 → IsNoBetter s.0 (now s) (before s)) → (r : Rule) (e : Entry)
    → now (rule_side r, e) ≡ before (rule_side r, e) → IsSatisfied supports now r e
satisfied_where_same supports before now stand true_bounds closed worse r e stays slots v premises value =
    let entries = premises_in_table supports r e slots premises in
    let sides = premises_on_side supports r e slots premises in
    let values : AreNoBetter (rule_side r) (map now slots) (map (λ c. c.value) (claims_of before slots)) =
    subst (AreNoBetter (rule_side r) (map now slots)) (sym (values_of_claims before slots))
    (AreNoBetter-map (rule_side r) now before slots sides entries worse) in
    let better =
    value_is_monotone supports r e (claims_of before slots) (map now slots) v (cited-stands supports r stand)
    (premises ∙ ap Some (sym (slots_of_claims before slots)))
    (All-claims_of IsTrueClaim before slots entries true_bounds) values value in
    let closing =
    closed r e slots better.0 premises
    (ap (value_of supports r e) (sym (values_of_claims before slots)) ∙ better.1) in
    subst (IsNoBetter (rule_side r) v) (sym stays)
    (no_better-trans (rule_side r) v better.0 (before (rule_side r, e)) better.2 closing)

module _ (gone : Places) (supports : List Support) (old : KeptValue) (marks : List (Option ℕ)) (rest : KeptValue)
    (good : IsKept supports old) (walked : IsWalked gone supports old marks rest)
    (all : length old.lines ≡ old.base + length marks) where
  -- no bound got better
  pub left-no_better : (s : Slot) → IsEntry s.1 → IsNoBetter s.0 (bound_of rest.bounds s) (bound_of old.bounds s)
  left-no_better s entry = go (reason_line (voided gone supports) rest s walked.kept entry)
    where
      go : ((b : LineValue) × IsReasonLine rest s b) → IsNoBetter s.0 (bound_of rest.bounds s) (bound_of old.bounds s)
      go (b, is) =
          let from = walked.came (reason_of rest s) b is.there in
          subst (λ (c : Claim). IsNoBetter c.side c.value (bound_of old.bounds (slot_of c))) (sym from.claim ∙ is.claim)
          (line-no_better supports old from.place from.line good from.there)

  -- a reason that moved gives its bound still
  kept_where_moved : (s : Slot) (m : ℕ) → IsEntry s.1 → moved_place old.base marks (reason_of old s) ≡ Some m
      → bound_of rest.bounds s ≡ bound_of old.bounds s
  kept_where_moved s m entry at = go (reason_line supports old s good entry)
    where
      go : ((l : LineValue) × IsReasonLine old s l) → bound_of rest.bounds s ≡ bound_of old.bounds s
      go (l, is) =
          let stands = walked.went (reason_of old s) m l is.there at in
          no_better-antisymmetric s.0 (bound_of rest.bounds s) (bound_of old.bounds s) (left-no_better s entry)
          (subst (λ (c : Claim). IsNoBetter c.side c.value (bound_of rest.bounds (slot_of c))) (stands.claim ∙ is.claim)
          (line-no_better (voided gone supports) rest m stands.line walked.kept stands.there))

  -- a slot whose bound is lost is marked
  kept_where_unmarked : (work : WorkValue) (s : Slot) → All (IsMarkedIfLost rest.bounds work) (drop old.base old.lines)
      → IsEntry s.1 → ¬ (IsMarked work s) → bound_of rest.bounds s ≡ bound_of old.bounds s
  kept_where_unmarked work s lost entry unmarked = elim (cases_lt (reason_of old s) old.base) [
    | inl below ↦ kept_where_moved s (reason_of old s) entry (moved-base old.base marks (reason_of old s) below)
    | inr past ↦ elim (cases_eq (bound_of rest.bounds s) (bound_of old.bounds s)) [
      | inl same ↦ same
      | inr other ↦ absurd (unmarked (go past other (reason_line supports old s good entry)))
    ]
  ]
    where
      go : old.base ≤ reason_of old s → bound_of rest.bounds s ≢ bound_of old.bounds s
          → ((l : LineValue) × IsReasonLine old s l) → IsMarked work s
      go past other (l, is) =
          let at : old.base + (reason_of old s - old.base) ≡ reason_of old s = omega arith in
          let there =
          slice_get-drop old.base old.lines (reason_of old s - old.base) l (ap (slice_get old.lines) at ∙ is.there) in
          let marked : IsMarkedIfLost rest.bounds work l =
          all_at (IsMarkedIfLost rest.bounds work) (drop old.base old.lines) (reason_of old s - old.base) l lost there in
          let here =
          subst
          (λ (c : Claim). IsBetter c.side c.value (bound_of rest.bounds (slot_of c)) → IsMarked work (slot_of c)) is.claim
          marked in
          here (worse_other s.0 (bound_of rest.bounds s) (bound_of old.bounds s) (left-no_better s entry) other)

  -- so each slot is marked or satisfied
  pub pending-left : (work : WorkValue) → AllStand supports → IsClosed supports (bound_of old.bounds)
      → All (IsMarkedIfLost rest.bounds work) (drop old.base old.lines)
      → IsPending (voided gone supports) rest.bounds work
  pending-left work stand closed lost s entry unmarked r side =
      satisfied_where_same (voided gone supports) (bound_of old.bounds) (bound_of rest.bounds)
      (AllStand-voided gone supports stand) (bounds_are_true supports old stand good)
      (IsClosed-voided gone supports (bound_of old.bounds) closed) left-no_better r s.1
      (subst (λ (d : Side). bound_of rest.bounds (d, s.1) ≡ bound_of old.bounds (d, s.1)) (sym side)
      (kept_where_unmarked work s lost entry unmarked))

  -- where the reason of a slot moved to is the reason of the slot: no later line of the slot moved
  reason_moved : (s : Slot) (m : ℕ) → IsEntry s.1 → moved_place old.base marks (reason_of old s) ≡ Some m
      → reason_of rest s ≡ m
  reason_moved s m entry at =
      go (reason_line supports old s good entry) (reason_line (voided gone supports) rest s walked.kept entry)
    where
      go : ((l : LineValue) × IsReasonLine old s l) → ((b : LineValue) × IsReasonLine rest s b) → reason_of rest s ≡ m
      go (l, was) (b, is) =
          let stands = walked.went (reason_of old s) m l was.there at in
          let slot : slot_of stands.line.claim ≡ s = ap slot_of (stands.claim ∙ was.claim) in
          let after : m ≤ reason_of rest s =
          subst (λ (t : Slot). m ≤ reason_of rest t) slot (walked.kept.last m stands.line stands.there) in
          let from = walked.came (reason_of rest s) b is.there in
          let same : slot_of from.line.claim ≡ s = ap slot_of (sym from.claim ∙ is.claim) in
          let last : from.place ≤ reason_of old s =
          subst (λ (t : Slot). from.place ≤ reason_of old t) same (good.last from.place from.line from.there) in
          elim (cases_eq from.place (reason_of old s)) [
            | inl one ↦
                same_Some (reason_of rest s) m (sym from.mark ∙ ap (moved_place old.base marks) one ∙ at)
            | inr other ↦
                let before =
                walked.rising from.place (reason_of old s) (reason_of rest s) m (omega (arith, last, other)) from.mark at in
                absurd (omega (arith, before, after))
          ]

  -- each reason that does not rest on the set moved
  moved_where_free : (s : Slot) → IsEntry s.1 → ¬ (RestsOnPlaces old.lines gone (reason_of old s))
      → (m : ℕ) × (moved_place old.base marks (reason_of old s) ≡ Some m)
  moved_where_free s entry free = go (moved_place old.base marks (reason_of old s)) refl
    where
      go : (o : Option ℕ) → moved_place old.base marks (reason_of old s) ≡ o
          → (m : ℕ) × (moved_place old.base marks (reason_of old s) ≡ Some m)
      go (Some m) at = (m, at)
      go None stays =
          let within = reason-within supports old s good entry in
          absurd (free (walked.rests (reason_of old s) (omega (arith, within, all)) stays))

  -- and is the reason still once what is left is closed again
  pub reasons-left : (new : KeptValue) → AllStand supports → IsClosed supports (bound_of old.bounds)
      → IsKept (voided gone supports) new → Grew rest new → (s : Slot) → IsEntry s.1
      → ¬ (RestsOnPlaces old.lines gone (reason_of old s))
      → option_map claim_and_rule (slice_get new.lines (reason_of new s))
      ≡ option_map claim_and_rule (slice_get old.lines (reason_of old s))
  reasons-left new stand closed kept grew s entry free =
      go (moved_where_free s entry free) (reason_line supports old s good entry)
    where
      go : ((m : ℕ) × (moved_place old.base marks (reason_of old s) ≡ Some m)) → ((l : LineValue) × IsReasonLine old s l)
          → option_map claim_and_rule (slice_get new.lines (reason_of new s))
          ≡ option_map claim_and_rule (slice_get old.lines (reason_of old s))
      go (m, at) (l, was) =
          let bound = kept_where_moved s m entry at in
          let worse : IsNoBetter s.0 (bound_of new.bounds s) (bound_of rest.bounds s) =
          subst (IsNoBetter s.0 (bound_of new.bounds s)) (sym bound)
          (kept-no_better (voided gone supports) (bound_of old.bounds) new s (AllStand-voided gone supports stand)
          (bounds_are_true supports old stand good) (IsClosed-voided gone supports (bound_of old.bounds) closed) kept
          entry) in
          let stays =
          no_better-antisymmetric s.0 (bound_of new.bounds s) (bound_of rest.bounds s) worse
          (Grew-no_worse (voided gone supports) rest new s walked.kept kept grew entry) in
          let reason : reason_of new s ≡ m = grew.same s entry stays ∙ reason_moved s m entry at in
          let stands = walked.went (reason_of old s) m l was.there at in
          let line : slice_get new.lines m ≡ Some stands.line =
          ap (λ (ls : List LineValue). slice_get ls m) grew.more.1
          ∙ slice_get-append_some rest.lines grew.more.0 m stands.line stands.there in
          ap (λ (n : ℕ). option_map claim_and_rule (slice_get new.lines n)) reason
          ∙ ap (option_map claim_and_rule) line
          ∙ (λ i. Some (stands.claim i, stands.rule i))
          ∙ sym (ap (option_map claim_and_rule) was.there)
