use Rattle.std.proofs.Common.{◌≡◌, ◌≤◌, length, take, Some, None, slice_get, sym, subst, ap, ◌∙◌, refl}
use Rattle.std.proofs.lemmas.Result.{IfOk-from_err, on_ok_weaker}
use Rattle.std.proofs.lemmas.Option.{none-some, same_Some, slice_get_within}
use Rattle.ct_words.specs.declared.claim.Side.{Side}
use Rattle.ct_words.specs.declared.entry.Entry.{Entry}
use Rattle.ct_kept.specs.Kept.{SavedValue}
use Rattle.ct_slots.specs.Worklist.{IsIdle}
use Rattle.ct_table.specs.Closing.{ClosingValue, IsClosing, HasMoreLines}
use Rattle.ct_kept.proofs.LineLemmas.{kept_in}
use Rattle.ct_slots.specs.Number.{bound_of}
use Rattle.ct_slots.specs.Places.{entry_of_support, side_of_support}
use Rattle.ct_offers.specs.Offers.{IsWithin}
use Rattle.ct_offers.specs.Inside.Pulled.{given_rule}
use Rattle.ct_table.proofs.Failures.{on_err, not_err}
use Rattle.ct_table.proofs.FollowLemmas.{IsClosing-same, CanFollow-same, IsClosing-from, restored-same, restorable}
use Rattle.ct_table.proofs.PlacedSupports.{last_is, last_there}
use Rattle.ct_table.proofs.follow.follow.Goals as goal
use Rattle.ct_table.proofs.follow.follow.Goals.{then-is_err, else-is_err}

pub returns-in_default-clause-closed : goal.returns-in_default-clause-closed
returns-in_default-clause-closed c =
    let new = c.requires.new in
    let none : entry_of_support new.new_one ≡ None =
    ap entry_of_support (sym (c.index-supports-place.is ∙ last_is c.args.supports.now new.olds new.new_one c.index-supports-place.result c.args.place new.are new.end))
    ∙ sym c.entry_of_support.ensures.entry ∙ c.in_default.is in
    IsClosing-same c.args.supports.now c.args.place c.args.closing.now c.args.closing.now c.requires.new refl refl
    (λ e is. absurd (none-some e (sym none ∙ is)))

pub returns-then-not-betters-clause-closed : goal.returns-then-not-betters-clause-closed
returns-then-not-betters-clause-closed c =
    let new = c.requires.new in
    let found : entry_of_support new.new_one ≡ Some c.in-Some.entry =
    ap entry_of_support (sym (c.index-supports-place.is ∙ last_is c.args.supports.now new.olds new.new_one c.index-supports-place.result c.args.place new.are new.end))
    ∙ sym c.entry_of_support.ensures.entry ∙ c.in-Some.is in
    IsClosing-same c.args.supports.now c.args.place c.args.closing.now
    (record { kept = c.closing.inside.kept; work = c.closing.inside.work; evaluations = c.saturating_add-closing-inside.result })
    c.requires.new (ap (λ (k : ClosingValue). k.kept) c.closing.view_is) (ap (λ (k : ClosingValue). k.work) c.closing.view_is)
    (λ e is.
    let same : c.in-Some.entry ≡ e = same_Some c.in-Some.entry e (sym found ∙ is) in
    let new_is = c.index-supports-place.is ∙ last_is c.args.supports.now new.olds new.new_one c.index-supports-place.result c.args.place new.are new.end in
    let side : c.side_of_support-side.result ≡ side_of_support new.new_one = c.side_of_support-side.ensures ∙ ap side_of_support new_is in
    subst (λ (k : ClosingValue). IsWithin c.args.supports.now (bound_of k.kept.bounds) (side_of_support new.new_one, e)
    (bound_of k.kept.bounds (side_of_support new.new_one, e)) (given_rule (slice_get c.args.supports.now c.args.place) (side_of_support new.new_one, e) c.args.place)) c.closing.view_is
    (subst (λ (s : Side). IsWithin c.args.supports.now (bound_of c.closing.inside.kept.bounds) (s, e)
    (bound_of c.closing.inside.kept.bounds (s, e)) (given_rule (slice_get c.args.supports.now c.args.place) (s, e) c.args.place)) side
    (subst (λ (f : Entry). IsWithin c.args.supports.now (bound_of c.closing.inside.kept.bounds) (c.side_of_support-side.result, f)
    (bound_of c.closing.inside.kept.bounds (c.side_of_support-side.result, f)) (given_rule (slice_get c.args.supports.now c.args.place) (c.side_of_support-side.result, f) c.args.place)) same
    (c.if-not-betters.ensures refl))))

pub close_again-done-requires : goal.close_again-done-requires
close_again-done-requires c = record {
  new =
      CanFollow-same c.args.supports.now c.args.place c.args.closing.now
      (record { kept = c.closing.inside.kept; work = c.closing.inside.work; evaluations = c.saturating_add-closing-inside.result }) c.requires.new
      (ap (λ (k : ClosingValue). k.kept) c.closing.view_is) (ap (λ (k : ClosingValue). k.work) c.closing.view_is);
  places = c.requires.places;
}

pub returns-in_err-saved : goal.returns-in_err-saved
returns-in_err-saved c = record {
  closed =
      IfOk-from_err c.from_residual.result
      (λ _. IsClosing c.args.supports.now c.args.closing.now
      (record { kept = c.closing.inside.kept; work = c.closing.inside.work; evaluations = c.saturating_add-closing-inside.result }))
      c.from_residual.ensures.0;
  unchanged = on_err c.from_residual.result (ap (λ (k : ClosingValue). k.kept) c.closing.view_is);
  idle =
      on_err c.from_residual.result
      (subst (λ (k : ClosingValue). IsIdle k.work) (sym c.closing.view_is) c.requires.new.idle);
}

-- the lines that stood are still there, so that all can be restored
pub restore-requires : goal.restore-requires
restore-requires c =
    let old = c.closing.inside.kept in
    let now = c.closing-then-is_err.inside.kept in
    let more = subst (λ (k : ClosingValue). HasMoreLines old k.kept) (sym c.closing-then-is_err.view_is) c.close_again-done.ensures.lines in
    let base = subst (λ (k : ClosingValue). k.kept.base ≤ length k.kept.lines) (sym c.closing.view_is) c.requires.new.kept.base_lines in
    let fits = restorable old now c.in_ok-saved.saved c.in_ok-saved.ensures more base in
    record { lines = fits.0; base = fits.1 }

pub returns-clause-closed : goal.returns-clause-closed
returns-clause-closed c = elim c.if-is_err.branch [
  | then-is_err w ↦
      IfOk-from_err c.close_again-done.result (λ _. IsClosing c.args.supports.now c.args.closing.now c.if-is_err.closing)
      (sym c.is_err.ensures.value ∙ w.if-is_err.true)
  | else-is_err w ↦
      on_ok_weaker c.close_again-done.result
      (IsClosing-from c.args.supports.now
      (record { kept = c.closing.inside.kept; work = c.closing.inside.work; evaluations = c.saturating_add-closing-inside.result }) c.args.closing.now
      c.close_again-done.new.closing c.if-is_err.closing (ap (λ (k : ClosingValue). k.kept) c.closing.view_is) w.closing-is)
      c.close_again-done.ensures.closed
]

pub returns-clause-unchanged : goal.returns-clause-unchanged
returns-clause-unchanged c = elim c.if-is_err.branch [
  | then-is_err w ↦
      on_err c.close_again-done.result
      (let old = c.closing.inside.kept in
      let now = w.closing-then-is_err.inside.kept in
      let more = subst (λ (k : ClosingValue). HasMoreLines old k.kept) (sym w.closing-then-is_err.view_is) c.close_again-done.ensures.lines in
      ap (λ (k : ClosingValue). k.kept) w.closing-is ∙ w.restore.ensures
      ∙ ap (λ (s : SavedValue). kept_in s.bounds s.reasons (take s.count now.lines) now.base) c.in_ok-saved.ensures
      ∙ restored-same old now more ∙ ap (λ (k : ClosingValue). k.kept) c.closing.view_is)
  | else-is_err w ↦ not_err c.close_again-done.result (c.if-is_err.closing.kept ≡ c.args.closing.now.kept) (sym c.is_err.ensures.value ∙ w.if-is_err.false)
]

pub returns-clause-idle : goal.returns-clause-idle
returns-clause-idle c = elim c.if-is_err.branch [
  | then-is_err w ↦
      on_err c.close_again-done.result (subst (λ (k : ClosingValue). IsIdle k.work) (sym w.closing-is) w.clear.ensures)
  | else-is_err w ↦ not_err c.close_again-done.result (IsIdle c.if-is_err.closing.work) (sym c.is_err.ensures.value ∙ w.if-is_err.false)
]

pub bounds-supports-place : goal.bounds-supports-place
bounds-supports-place c =
    let new = c.requires.new in
    slice_get_within c.args.supports.now c.args.place new.new_one (last_there c.args.supports.now new.olds new.new_one c.args.place new.are new.end)
