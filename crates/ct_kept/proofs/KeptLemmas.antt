-- A table that is kept well: its lines, one more line that gives a better bound, and how tables grow.
use Rattle.std.proofs.Common.{◌≡◌, ℕ, ◌+◌, ◌<◌, ◌≤◌, List, [], ◌∷◌, ◌++◌, length, map, take, All, slice_get, slice_index, slice_index_or, Option, Some, None, option_map, refl, sym, ap, subst, ◌∙◌, inl, inr, arith, length-set, length-append, append-nil, append_assoc}
use Rattle.std.specs.Prelude.{◌≢◌}
use Rattle.std.specs.List.{cons_option}
use Rattle.std.proofs.lemmas.Bool.{cases_eq}
use Rattle.std.proofs.lemmas.List.Elements.{All-nil, All-cons, All-head, All-tail, All-append}
use Rattle.std.proofs.lemmas.Option.{none-some, same_Some, slice_get_within, slice_get-get_or}
use Rattle.ct_words.specs.declared.claim.Claim.{Claim}
use Rattle.ct_words.specs.declared.claim.Side.{Side}
use Rattle.ct_words.specs.Entry.{IsEntry}
use Rattle.ct_rule_parts.specs.declared.support.Support.{Support}
use Rattle.ct_rules.specs.Derivation.{LineValue, claims_at, Follows}
use Rattle.ct_rule_parts.specs.Slot.{Slot, slot_of, claim_at, IsBetter, IsNoBetter}
use Rattle.ct_rules.proofs.ClosedBounds.{no_better-antisymmetric, claims_of}
use Rattle.ct_rules.proofs.Derivations.{derivation-push}
use Rattle.ct_rule_parts.proofs.Places.{slice_get-append_left, slice_get-append_right, slice_get_last}
use Rattle.ct_rules.proofs.RuleLaws.{rule_entry}
use Rattle.ct_kept.specs.Kept.{KeptValue, IsKept, Grew, reason_of, with_line_put}
use Rattle.ct_slots.specs.Number.{bound_of, slot_number}
use Rattle.ct_rule_parts.proofs.GetLemmas.{IsOldOrNew, slice_get-append_some, slice_get_push_cases}
use Rattle.ct_slots.proofs.NumberLemmas.{slot_number-injective}
use Rattle.ct_kept.proofs.PutLemmas.{bound-put, reason-put, bound-put_other, reason-put_other}
use Rattle.ct_slots.proofs.BetterLemmas.{better-no_worse, no_better-self, better-trans_no_better, no_better_than_itself}

-- what stands where an option that is mapped stands
mapped : {X Y : Type 0} (f : X → Y) (o : Option X) (y : Y) → option_map f o ≡ Some y
    → (x : X) × (o ≡ Some x) × (f x ≡ y)
mapped f None y h = absurd (none-some y h)
mapped f (Some x) y h = (x, refl, same_Some (f x) y h)

-- the claim of the line at a place
abbrev claim_in : List LineValue → ℕ → Option Claim
claim_in lines place = option_map (λ l. l.claim) (slice_get lines place)

-- a line gives a better bound of its slot
abbrev IsImproved : List ℕ → LineValue → Type 0
IsImproved bounds l = IsBetter l.claim.side l.claim.value (bound_of bounds (slot_of l.claim))

-- the line that gives the bound of a slot
pub record IsReasonLine (kept : KeptValue) (s : Slot) (l : LineValue) : Type 0 where
  pub there : slice_get kept.lines (reason_of kept s) ≡ Some l
  pub claim : l.claim ≡ claim_at s (bound_of kept.bounds s)

pub reason_line : (supports : List Support) (kept : KeptValue) (s : Slot) → IsKept supports kept → IsEntry s.1
    → (l : LineValue) × IsReasonLine kept s l
reason_line supports kept s good entry =
    let found =
    mapped (λ (l : LineValue). l.claim) (slice_get kept.lines (reason_of kept s)) (claim_at s (bound_of kept.bounds s))
    (good.reasoned s entry) in
    (found.0, record { there = found.1; claim = found.2 })

-- it is there
pub reason-within : (supports : List Support) (kept : KeptValue) (s : Slot) → IsKept supports kept → IsEntry s.1
    → reason_of kept s < length kept.lines
reason-within supports kept s good entry =
    let found = reason_line supports kept s good entry in
    slice_get_within kept.lines (reason_of kept s) found.0 found.1.there

-- each line bounds a slot of the table
pub line_entry : (supports : List Support) (kept : KeptValue) (i : ℕ) (l : LineValue) → IsKept supports kept
    → slice_get kept.lines i ≡ Some l → IsEntry l.claim.entry
line_entry supports kept i l good found =
    let follows = good.derivation i l found in
    rule_entry supports l.rule l.claim.entry (map slot_of (claims_at (take i kept.lines) l.from)) follows.premises

-- and gives nothing better than the bound of its slot
pub line-no_better : (supports : List Support) (kept : KeptValue) (i : ℕ) (l : LineValue) → IsKept supports kept
    → slice_get kept.lines i ≡ Some l
    → IsNoBetter l.claim.side l.claim.value (bound_of kept.bounds (slot_of l.claim))
line-no_better supports kept i l good found =
    go (reason_line supports kept s good (line_entry supports kept i l good found))
  where
    s : Slot
    s = slot_of l.claim

    go : ((b : LineValue) × IsReasonLine kept s b) → IsNoBetter l.claim.side l.claim.value (bound_of kept.bounds s)
    go (b, is) =
        let value : b.claim.value ≡ bound_of kept.bounds s = ap (λ (c : Claim). c.value) is.claim in
        let slot : slot_of l.claim ≡ slot_of b.claim = sym (ap slot_of is.claim) in
        let last = good.last i l found in
        subst (IsNoBetter l.claim.side l.claim.value) value
        (elim (cases_eq i (reason_of kept s)) [
          | inl same ↦
              let one : l ≡ b = same_Some l b (sym found ∙ ap (slice_get kept.lines) same ∙ is.there) in
              subst (λ (m : LineValue). IsNoBetter l.claim.side l.claim.value m.claim.value) one
              (no_better-self l.claim.side l.claim.value)
          | inr other ↦
              better-no_worse l.claim.side b.claim.value l.claim.value
              (good.rise i (reason_of kept s) l b (omega arith) found is.there slot)
        ])

-- a table with one more line, which follows from the others and gives a better bound of its slot, is kept well
pub IsKept-with_line : (supports : List Support) (kept : KeptValue) (line : LineValue) → IsKept supports kept
    → IsEntry line.claim.entry → Follows supports kept.lines line
    → IsBetter line.claim.side line.claim.value (bound_of kept.bounds (slot_of line.claim))
    → IsKept supports (with_line_put kept line)
IsKept-with_line supports kept line good entry follows better = record {
  bound_count = length-set kept.bounds (slot_number at) line.claim.value ∙ good.bound_count;
  reason_count = length-set kept.reasons (slot_number at) (length kept.lines) ∙ good.reason_count;
  base_lines = (let before = good.base_lines in let more = length-append kept.lines (line ∷ []) in omega arith);
  derivation = derivation-push supports kept.lines line good.derivation follows;
  reasoned = λ s s_entry. elim (cases_eq (slot_number s) (slot_number at)) [
    | inl same ↦ subst IsReasoned (sym (slot_number-injective s at s_entry entry same)) reasoned_here
    | inr other ↦ reasoned_there s s_entry other
  ];
  last = λ i l found. last_line i l (slice_get_push_cases kept.lines line i l found);
  rise = λ i j l m before first second same.
      rises i j l m before (slice_get_push_cases kept.lines line i l first)
      (slice_get_push_cases kept.lines line j m second) same;
  grounded = λ s s_entry. let ground = good.grounded s s_entry in
      (ground.0, ground.1, slice_get-append_some kept.lines (line ∷ []) ground.0 ground.1 ground.2, ground.3, ground.4);
}
  where
    at : Slot
    at = slot_of line.claim

    new : KeptValue
    new = with_line_put kept line

    IsReasoned : Slot → Type 0
    IsReasoned s = claim_in new.lines (reason_of new s) ≡ Some (claim_at s (bound_of new.bounds s))

    bound : bound_of new.bounds at ≡ line.claim.value
    bound = bound-put kept line good.bound_count entry

    reason : reason_of new at ≡ length kept.lines
    reason = reason-put kept line good.reason_count entry

    reasoned_here : IsReasoned at
    reasoned_here =
        ap (claim_in new.lines) reason ∙ ap (option_map (λ l. l.claim)) (slice_get_last kept.lines line)
        ∙ ap (λ v. Some (claim_at at v)) (sym bound)

    reasoned_there : (s : Slot) → IsEntry s.1 → slot_number s ≢ slot_number at → IsReasoned s
    reasoned_there s s_entry other =
        let inside = reason-within supports kept s good s_entry in
        ap (claim_in new.lines) (reason-put_other kept line s other)
        ∙ ap (option_map (λ l. l.claim)) (slice_get-append_left kept.lines (line ∷ []) (reason_of kept s) inside)
        ∙ good.reasoned s s_entry ∙ ap (λ v. Some (claim_at s v)) (sym (bound-put_other kept line s other))

    last_line : (i : ℕ) (l : LineValue) → IsOldOrNew kept.lines line i l → i ≤ reason_of new (slot_of l.claim)
    last_line i l (inl old) = elim (cases_eq (slot_number (slot_of l.claim)) (slot_number at)) [
      | inl same ↦
          let place = ap (slice_index new.reasons) same ∙ reason in
          omega (arith, old.0)
      | inr other ↦
          let place = reason-put_other kept line (slot_of l.claim) other in
          let before = good.last i l old.1 in
          omega arith
    ]
    last_line i l (inr (place, same)) =
        subst (λ (m : LineValue). i ≤ reason_of new (slot_of m.claim)) same (omega (arith, place, reason))

    above : (i : ℕ) (l : LineValue) → slice_get kept.lines i ≡ Some l → slot_of l.claim ≡ at
        → IsBetter l.claim.side line.claim.value l.claim.value
    above i l found same =
        let side : l.claim.side ≡ line.claim.side = ap (λ (s : Slot). s.0) same in
        let worse : IsNoBetter l.claim.side l.claim.value (bound_of kept.bounds at) =
        subst (λ (s : Slot). IsNoBetter l.claim.side l.claim.value (bound_of kept.bounds s)) same
        (line-no_better supports kept i l good found) in
        better-trans_no_better l.claim.side line.claim.value (bound_of kept.bounds at) l.claim.value
        (subst (λ (s : Side). IsBetter s line.claim.value (bound_of kept.bounds at)) (sym side) better) worse

    rises : (i j : ℕ) (l m : LineValue) → i < j → IsOldOrNew kept.lines line i l → IsOldOrNew kept.lines line j m
        → slot_of l.claim ≡ slot_of m.claim → IsBetter l.claim.side m.claim.value l.claim.value
    rises i j l m before (inl first) (inl second) same = good.rise i j l m before first.1 second.1 same
    rises i j l m before (inl first) (inr (place, new_one)) same =
        subst (λ (k : LineValue). IsBetter l.claim.side k.claim.value l.claim.value) new_one
        (above i l first.1 (same ∙ ap (λ (k : LineValue). slot_of k.claim) (sym new_one)))
    rises i j l m before (inr (place, new_one)) (inl second) same = absurd (omega (arith, second.0, place))
    rises i j l m before (inr (place, new_one)) (inr (other, again)) same = absurd (omega (arith, place, other))

-- and grew by it
pub Grew-with_line : (supports : List Support) (kept : KeptValue) (line : LineValue) → IsKept supports kept
    → IsEntry line.claim.entry → Follows supports kept.lines line
    → IsBetter line.claim.side line.claim.value (bound_of kept.bounds (slot_of line.claim))
    → Grew kept (with_line_put kept line)
Grew-with_line supports kept line good entry follows better = record {
  more = (line ∷ [], refl, All-cons (IsImproved kept.bounds) line [] better (All-nil (IsImproved kept.bounds)));
  same = λ s s_entry stays. elim (cases_eq (slot_number s) (slot_number at)) [
    | inl same ↦
        let one : s ≡ at = slot_number-injective s at s_entry entry same in
        let here = subst (λ (t : Slot). bound_of new.bounds t ≡ bound_of kept.bounds t) one stays in
        let value = sym here ∙ bound-put kept line good.bound_count entry in
        absurd (no_better_than_itself line.claim.side line.claim.value
        (subst (IsBetter line.claim.side line.claim.value) value better))
    | inr other ↦ reason-put_other kept line s other
  ];
}
  where
    at : Slot
    at = slot_of line.claim

    new : KeptValue
    new = with_line_put kept line

-- a table grew from itself
pub Grew-refl : (kept : KeptValue) → Grew kept kept
Grew-refl kept = record {
  more = ([], sym (append-nil kept.lines), All-nil (IsImproved kept.bounds));
  same = λ s entry stays. refl;
}

-- along a growth no bound gets worse
pub Grew-no_worse : (supports : List Support) (old new : KeptValue) (s : Slot) → IsKept supports old
    → IsKept supports new → Grew old new → IsEntry s.1 → IsNoBetter s.0 (bound_of old.bounds s) (bound_of new.bounds s)
Grew-no_worse supports old new s before after grew entry = go (reason_line supports old s before entry)
  where
    go : ((l : LineValue) × IsReasonLine old s l) → IsNoBetter s.0 (bound_of old.bounds s) (bound_of new.bounds s)
    go (l, is) =
        let place = reason_of old s in
        let there : slice_get new.lines place ≡ Some l =
        ap (λ lines. slice_get lines place) grew.more.1
        ∙ slice_get-append_some old.lines grew.more.0 place l is.there in
        subst (λ (c : Claim). IsNoBetter c.side c.value (bound_of new.bounds (slot_of c))) is.claim
        (line-no_better supports new place l after there)

-- one growth after another is a growth
pub Grew-trans : (supports : List Support) (old middle new : KeptValue) → IsKept supports old → IsKept supports middle
    → IsKept supports new → Grew old middle → Grew middle new → Grew old new
Grew-trans supports old middle new good_old good_middle good_new first second = record {
  more = (
    first.more.0 ++ second.more.0,
    second.more.1 ∙ ap (λ lines. lines ++ added) first.more.1 ∙ append_assoc old.lines first.more.0 added,
    All-append (IsImproved old.bounds) first.more.0 second.more.0 first.more.2 improved,
  );
  same = λ s entry stays.
      let worse = Grew-no_worse supports old middle s good_old good_middle first entry in
      let later = Grew-no_worse supports middle new s good_middle good_new second entry in
      let back : IsNoBetter s.0 (bound_of middle.bounds s) (bound_of old.bounds s) =
      subst (IsNoBetter s.0 (bound_of middle.bounds s)) stays later in
      let one = no_better-antisymmetric s.0 (bound_of old.bounds s) (bound_of middle.bounds s) worse back in
      second.same s entry (stays ∙ one) ∙ first.same s entry (sym one);
}
  where
    added : List LineValue
    added = second.more.0

    improved : All (IsImproved old.bounds) added
    improved k d within =
        let l = slice_index_or added k d in
        let there : slice_get new.lines (length middle.lines + k) ≡ Some l =
        ap (λ lines. slice_get lines (length middle.lines + k)) second.more.1
        ∙ slice_get-append_right middle.lines added k ∙ slice_get-get_or added k d within in
        let entry = line_entry supports new (length middle.lines + k) l good_new there in
        let s = slot_of l.claim in
        better-trans_no_better s.0 l.claim.value (bound_of middle.bounds s) (bound_of old.bounds s)
        (second.more.2 k d within) (Grew-no_worse supports old middle s good_old good_middle first entry)

-- the claims of the lines that give the bounds of slots of the table are those of the bounds
pub claims_at-reasons : (supports : List Support) (kept : KeptValue) (slots : List Slot) → IsKept supports kept
    → All (λ s. IsEntry s.1) slots
    → claims_at kept.lines (map (reason_of kept) slots) ≡ claims_of (bound_of kept.bounds) slots
claims_at-reasons supports kept [] good entries = refl
claims_at-reasons supports kept (s ∷ slots) good entries =
    let rest = claims_at-reasons supports kept slots good (All-tail (λ t. IsEntry t.1) s slots entries) in
    ap (λ o. cons_option o (claims_at kept.lines (map (reason_of kept) slots)))
    (good.reasoned s (All-head (λ t. IsEntry t.1) s slots entries))
    ∙ ap (λ claims. claim_at s (bound_of kept.bounds s) ∷ claims) rest
