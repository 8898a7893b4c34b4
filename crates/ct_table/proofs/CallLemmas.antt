-- What the calls of a table say, and that it is a table after each.
use Rattle.std.proofs.Common.{◌≡◌, ℕ, ◌+◌, ◌<◌, ◌^◌, List, [], ◌∷◌, ◌++◌, length, take, drop, Some, option_map, slice_get, refl, sym, ap, subst, ◌∙◌, arith, length-append, append_assoc, take_all}
use Rattle.std.proofs.lemmas.List.{take-append-drop}
use Rattle.std.proofs.lemmas.List.Elements.{All-nil, All-cons, All-append}
use Rattle.ct_words.specs.Claim.{IsTrueClaim}
use Rattle.ct_words.specs.Entry.{IsEntry}
use Rattle.ct_rule_parts.specs.declared.support.Support.{Support}
use Rattle.ct_rule_parts.specs.Slot.{Slot, claim_at}
use Rattle.ct_rule_parts.specs.Support.{Stands, AllStand}
use Rattle.ct_rules.specs.Derivation.{LineValue, IsBest}
use Rattle.ct_rules.proofs.MoreSupports.{derivation_over_more}
use Rattle.ct_table.specs.Closing.{ClosingValue, IsClosing}
use Rattle.ct_kept.specs.Kept.{KeptValue, BaseValue, IsKept, IsBase, Grew, reason_of}
use Rattle.ct_slots.specs.Number.{bound_of}
use Rattle.ct_slots.specs.Worklist.{WorkValue, IsIdle}
use Rattle.ct_kept.proofs.LineLemmas.{kept_in}
use Rattle.ct_table.specs.Inside.Starting.{CanFollow}
use Rattle.ct_table.specs.Table.{IsTable, IsShownTable, table_of, Grew as HasGrown}
use Rattle.ct_table.proofs.BaseLemmas.{base_count, IsBase-again}
use Rattle.ct_table.proofs.TableLemmas.{bounds_are_true, bounds_are_best}

-- what callers see
pub shown : (supports : List Support) (kept : KeptValue) (base : BaseValue) (work : WorkValue) → IsTable supports kept base work
    → IsShownTable (table_of supports kept)
shown supports kept base work table = record {
  stand = table.stand;
  few = table.few;
  bound_count = table.kept.bound_count;
  reason_count = table.kept.reason_count;
  derivation = table.kept.derivation;
  reasoned = table.kept.reasoned;
  last = table.kept.last;
  rise = table.kept.rise;
  grounded = table.kept.grounded;
  closed = table.closed;
}

-- a bound that is read
pub read_best : (supports : List Support) (kept : KeptValue) (base : BaseValue) (work : WorkValue) (s : Slot) (v : ℕ)
    → IsTable supports kept base work → IsEntry s.1 → v ≡ bound_of kept.bounds s → IsBest supports s v
read_best supports kept base work s v table entry is =
    subst (IsBest supports s) (sym is) (bounds_are_best supports kept s table.stand table.kept table.closed entry)

pub read_true : (supports : List Support) (kept : KeptValue) (base : BaseValue) (work : WorkValue) (s : Slot) (v : ℕ)
    → IsTable supports kept base work → IsEntry s.1 → v ≡ bound_of kept.bounds s → IsTrueClaim (claim_at s v)
read_true supports kept base work s v table entry is =
    subst (λ (m : ℕ). IsTrueClaim (claim_at s m)) (sym is) (bounds_are_true supports kept table.stand table.kept s entry)

-- a reason that is read
pub read_reason : (supports : List Support) (kept : KeptValue) (base : BaseValue) (work : WorkValue) (s : Slot) (r : ℕ)
    → IsTable supports kept base work → IsEntry s.1 → r ≡ reason_of kept s
    → (v : ℕ) × IsBest supports s v × (option_map (λ l. l.claim) (slice_get kept.lines r) ≡ Some (claim_at s v))
read_reason supports kept base work s r table entry is = (
  bound_of kept.bounds s,
  bounds_are_best supports kept s table.stand table.kept table.closed entry,
  ap (λ (n : ℕ). option_map (λ (l : LineValue). l.claim) (slice_get kept.lines n)) is ∙ table.kept.reasoned s entry,
)

-- what is kept well is kept well over more supports
IsKept-more : (supports more : List Support) (kept : KeptValue) → IsKept supports kept → IsKept (supports ++ more) kept
IsKept-more supports more kept good = record {
  bound_count = good.bound_count;
  reason_count = good.reason_count;
  base_lines = good.base_lines;
  derivation = derivation_over_more supports more kept.lines good.derivation;
  reasoned = good.reasoned;
  last = good.last;
  rise = good.rise;
  grounded = good.grounded;
}

-- a table can follow one more support
pub CanFollow-more : (supports now : List Support) (x : Support) (place : ℕ) (closing : ClosingValue) (base : BaseValue)
    → IsTable supports closing.kept base closing.work → Stands x → length supports + 1 < 2 ^ 32 → now ≡ supports ++ x ∷ []
    → place ≡ length supports → CanFollow now place closing
CanFollow-more supports now x place closing base table stands few are end = record {
  olds = supports;
  new_one = x;
  are = are;
  end = end;
  stand =
      subst AllStand (sym are)
      (All-append Stands supports (x ∷ []) table.stand (All-cons Stands x [] stands (All-nil Stands)));
  few =
      subst (λ (s : List Support). length s < 2 ^ 32) (sym are)
      (let one = length-append supports (x ∷ []) in omega (arith, one, few));
  kept = subst (λ (s : List Support). IsKept s closing.kept) (sym are) (IsKept-more supports (x ∷ []) closing.kept table.kept);
  closed = table.closed;
  idle = table.idle;
}

-- a table that was closed again over other supports
pub IsTable-closed : (supports now : List Support) (old : KeptValue) (base : BaseValue) (before new : ClosingValue)
    → AllStand now → length now < 2 ^ 32 → IsKept supports old → IsBase base old → before.kept ≡ old → IsClosing now before new
    → IsTable now new.kept base new.work
IsTable-closed supports now old base before new stand few kept is same closing = record {
  stand = stand;
  few = few;
  kept = closing.kept;
  closed = closing.closed;
  base =
      IsBase-again base old new.kept (drop old.base old.lines ++ closing.grew.more.0) (base_count supports old kept) is
      (closing.base ∙ ap (λ (k : KeptValue). k.base) same)
      (closing.grew.more.1 ∙ ap (λ (k : KeptValue). k.lines ++ closing.grew.more.0) same
      ∙ ap (λ (ls : List LineValue). ls ++ closing.grew.more.0) (sym (take-append-drop old.base old.lines))
      ∙ append_assoc (take old.base old.lines) (drop old.base old.lines) closing.grew.more.0);
  idle = closing.idle;
}

-- a table after want of memory
pub IsTable-again : (supports now : List Support) (old kept : KeptValue) (base : BaseValue) (before work : WorkValue)
    → IsTable supports old base before → now ≡ supports → kept ≡ old → IsIdle work → IsTable now kept base work
IsTable-again supports now old kept base before work table same kept_same idle =
    subst (λ (s : List Support). IsTable s kept base work) (sym same)
    (subst (λ (k : KeptValue). IsTable supports k base work) (sym kept_same) (record {
      stand = table.stand;
      few = table.few;
      kept = table.kept;
      closed = table.closed;
      base = table.base;
      idle = idle;
    }))

-- what is kept once all lines are those of the base
pub IsKept-begun : (kept begun : KeptValue) → IsKept [] kept
    → begun ≡ kept_in kept.bounds kept.reasons kept.lines (length kept.lines) → IsKept [] begun
IsKept-begun kept begun good is = subst (IsKept []) (sym is) (record {
  bound_count = good.bound_count;
  reason_count = good.reason_count;
  base_lines = omega arith;
  derivation = good.derivation;
  reasoned = good.reasoned;
  last = good.last;
  rise = good.rise;
  grounded = good.grounded;
})

pub IsBase-begun : (kept begun : KeptValue) (base : BaseValue) → IsKept [] kept
    → begun ≡ kept_in kept.bounds kept.reasons kept.lines (length kept.lines)
    → base ≡ record { bounds = kept.bounds; reasons = kept.reasons } → IsBase base begun
IsBase-begun kept begun base good is base_is =
    let whole : take (length kept.lines) kept.lines ≡ kept.lines = take_all (length kept.lines) kept.lines (omega arith) in
    subst (λ (k : KeptValue). IsBase base k) (sym is)
    (subst (λ (b : BaseValue). IsBase b (kept_in kept.bounds kept.reasons kept.lines (length kept.lines))) (sym base_is)
    (subst (λ (ls : List LineValue). IsKept [] (kept_in kept.bounds kept.reasons ls (length kept.lines))) (sym whole)
    (IsKept-begun kept (kept_in kept.bounds kept.reasons kept.lines (length kept.lines)) good refl)))

-- what callers see grows with what is kept
pub Grew-table : (supports now : List Support) (old new : KeptValue) → Grew old new → HasGrown (table_of supports old) (table_of now new)
Grew-table supports now old new grew = record { more = grew.more; same = grew.same }
