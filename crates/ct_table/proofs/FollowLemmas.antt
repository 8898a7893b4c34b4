-- A table to which a support is added.
use Rattle.std.proofs.Common.{◌≡◌, ℕ, ◌+◌, ◌≤◌, List, [], ◌∷◌, length, take, Option, Some, slice_get, refl, sym, ap, subst, ◌∙◌, arith, length-append}
use Rattle.std.proofs.lemmas.List.{take_at}
use Rattle.ct_words.specs.declared.entry.Entry.{Entry}
use Rattle.ct_rule_parts.specs.declared.support.Support.{Support}
use Rattle.ct_rules.specs.Closed.{IsClosed}
use Rattle.ct_table.specs.Closing.{ClosingValue, CanClose, IsClosing, HasMoreLines}
use Rattle.ct_kept.specs.Kept.{KeptValue, SavedValue, IsKept, Grew}
use Rattle.ct_slots.specs.Number.{bound_of}
use Rattle.ct_slots.specs.Places.{entry_of_support, side_of_support}
use Rattle.ct_slots.specs.Worklist.{IsIdle}
use Rattle.ct_offers.specs.Offers.{IsWithin}
use Rattle.ct_offers.specs.Inside.Pulled.{given_rule}
use Rattle.ct_kept.proofs.KeptLemmas.{Grew-refl}
use Rattle.ct_kept.proofs.LineLemmas.{kept_in}
use Rattle.ct_table.specs.Closing.{IsPending}
use Rattle.ct_table.specs.Inside.Starting.{CanFollow, IsMarkedIfGiven}
use Rattle.ct_table.proofs.MoreLemmas.{pending_over_more, closed_over_one}
use Rattle.ct_table.proofs.PlacedSupports.{given_marked, last_there}
use Rattle.std.proofs.lemmas.List.Elements.{All-nil, All-cons}

-- where the slot of the new support is marked it can be closed
pub CanClose-marked : (supports : List Support) (place : ℕ) (closing marked : ClosingValue) → (can : CanFollow supports place closing)
    → marked.kept ≡ closing.kept → IsMarkedIfGiven marked.work can.new_one → CanClose supports marked
CanClose-marked supports place closing marked can same given = record {
  stand = can.stand;
  few = can.few;
  kept = subst (IsKept supports) (sym same) can.kept;
  pending =
      subst (λ (k : KeptValue). IsPending supports k.bounds marked.work) (sym same)
      (subst (λ (these : List Support). IsPending these closing.kept.bounds marked.work) (sym can.are)
      (pending_over_more can.olds (can.new_one ∷ []) closing.kept.bounds marked.work can.closed
      (given_marked (can.new_one ∷ []) marked.work
      (All-cons (IsMarkedIfGiven marked.work) can.new_one [] given (All-nil (IsMarkedIfGiven marked.work))))));
}

-- what is kept and marked is all that it takes to follow the new support
pub CanFollow-same : (supports : List Support) (place : ℕ) (closing new : ClosingValue) → CanFollow supports place closing → new.kept ≡ closing.kept
    → new.work ≡ closing.work → CanFollow supports place new
CanFollow-same supports place closing new can kept work = record {
  olds = can.olds;
  new_one = can.new_one;
  are = can.are;
  end = can.end;
  stand = can.stand;
  few = can.few;
  kept = subst (IsKept supports) (sym kept) can.kept;
  closed = subst (λ (k : KeptValue). IsClosed can.olds (bound_of k.bounds)) (sym kept) can.closed;
  idle = subst IsIdle (sym work) can.idle;
}

-- where it betters nothing, all is as it was
pub IsClosing-same : (supports : List Support) (place : ℕ) (closing new : ClosingValue) → (can : CanFollow supports place closing)
    → new.kept ≡ closing.kept → new.work ≡ closing.work
    → ((e : Entry) → entry_of_support can.new_one ≡ Some e
    → IsWithin supports (bound_of closing.kept.bounds) (side_of_support can.new_one, e) (bound_of closing.kept.bounds (side_of_support can.new_one, e)) (given_rule (slice_get supports place) (side_of_support can.new_one, e) place))
    → IsClosing supports closing new
IsClosing-same supports place closing new can kept work within =
    let closed : IsClosed supports (bound_of closing.kept.bounds) =
    subst (λ (these : List Support). IsClosed these (bound_of closing.kept.bounds)) (sym can.are)
    (closed_over_one can.olds can.new_one (bound_of closing.kept.bounds) can.closed
    (λ e is.
    subst (λ (these : List Support). IsWithin these (bound_of closing.kept.bounds) (side_of_support can.new_one, e)
    (bound_of closing.kept.bounds (side_of_support can.new_one, e)) (given_rule (Some can.new_one) (side_of_support can.new_one, e) (length can.olds))) can.are
    (subst (λ (p : ℕ). IsWithin supports (bound_of closing.kept.bounds) (side_of_support can.new_one, e)
    (bound_of closing.kept.bounds (side_of_support can.new_one, e)) (given_rule (Some can.new_one) (side_of_support can.new_one, e) p)) can.end
    (subst (λ (o : Option Support). IsWithin supports (bound_of closing.kept.bounds) (side_of_support can.new_one, e)
    (bound_of closing.kept.bounds (side_of_support can.new_one, e)) (given_rule o (side_of_support can.new_one, e) place))
    (last_there supports can.olds can.new_one place can.are can.end) (within e is))))) in
    record {
      kept = subst (IsKept supports) (sym kept) can.kept;
      base = ap (λ (k : KeptValue). k.base) kept;
      grew = subst (Grew closing.kept) (sym kept) (Grew-refl closing.kept);
      idle = subst IsIdle (sym work) can.idle;
      closed = subst (λ (k : KeptValue). IsClosed supports (bound_of k.bounds)) (sym kept) closed;
    }

-- after want of memory what was kept is restored
pub restored-same : (old now : KeptValue) → HasMoreLines old now
    → kept_in old.bounds old.reasons (take (length old.lines) now.lines) now.base ≡ old
restored-same old now more =
    let lines : take (length old.lines) now.lines ≡ old.lines =
    ap (take (length old.lines)) more.1.1 ∙ take_at old.lines more.1.0 (length old.lines) refl in
    λ i. record { bounds = old.bounds; reasons = old.reasons; lines = lines i; base = more.0 i }

-- it can be set back to what was saved, where lines were put at its end
pub restorable : (old now : KeptValue) (saved : SavedValue)
    → saved ≡ record { bounds = old.bounds; reasons = old.reasons; count = length old.lines } → HasMoreLines old now → old.base ≤ length old.lines
    → (saved.count ≤ length now.lines) × (now.base ≤ saved.count)
restorable old now saved is more base =
    let count = ap (λ (s : SavedValue). s.count) is in
    let same = more.0 in
    let longer : length now.lines ≡ length old.lines + length more.1.0 = ap length more.1.1 ∙ length-append old.lines more.1.0 in
    (omega arith, omega arith)

-- a table that was closed from what another kept
pub IsClosing-from : (supports : List Support) (first old new last : ClosingValue) → first.kept ≡ old.kept → last ≡ new
    → IsClosing supports first new → IsClosing supports old last
IsClosing-from supports first old new last same is closing =
    subst (λ (k : ClosingValue). IsClosing supports old k) (sym is) (record {
      kept = closing.kept;
      base = closing.base ∙ ap (λ (k : KeptValue). k.base) same;
      grew = subst (λ (k : KeptValue). Grew k new.kept) same closing.grew;
      idle = closing.idle;
      closed = closing.closed;
    })
