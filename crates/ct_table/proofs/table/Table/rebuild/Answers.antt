use Rattle.std.proofs.Common.{[], List, sym, subst, refl}
use Rattle.ct_rule_parts.specs.declared.support.Support.{Support}
use Rattle.ct_rule_parts.specs.Support.{AllStand}
use Rattle.ct_rules.specs.Closed.{IsClosed}
use Rattle.ct_kept.specs.Kept.{KeptValue}
use Rattle.ct_table.specs.Closing.{ClosingValue, IsClosing}
use Rattle.ct_slots.specs.Number.{bound_of}
use Rattle.ct_slots.specs.Places.{AreSupportPlaces}
use Rattle.ct_table.specs.Inside.Starting.{IsBegun}
use Rattle.ct_table.proofs.CallLemmas.{IsTable-closed, IsKept-begun, IsBase-begun}
use Rattle.ct_table.proofs.table.Table.rebuild.Goals as goal

pub close_over-requires-clause-kept : goal.close_over-requires-clause-kept
close_over-requires-clause-kept c =
    let begun = subst IsBegun (sym c.closing.view_is) c.in_ok-closing.ensures in
    IsKept-begun c.closing.inside.kept c.begin-2.new.self begun.kept c.in_ok-base.ensures.begun

pub invariant_of-result : goal.invariant_of-result
invariant_of-result c =
    let begun = subst IsBegun (sym c.closing.view_is) c.in_ok-closing.ensures in
    let same = c.deref.ensures.value in
    let before : ClosingValue =
    record { kept = c.begin-2.new.self; work = c.closing.inside.work; evaluations = c.closing.inside.evaluations } in (
      IsTable-closed [] c.args.supports.items c.begin-2.new.self c.in_ok-base.base before c.close_over.new.closing c.requires.stand
          c.requires.few (IsKept-begun c.closing.inside.kept c.begin-2.new.self begun.kept c.in_ok-base.ensures.begun)
          (IsBase-begun c.closing.inside.kept c.begin-2.new.self c.in_ok-base.base begun.kept c.in_ok-base.ensures.begun
          c.in_ok-base.ensures.base) refl
          (subst (λ (s : List Support). IsClosing s before c.close_over.new.closing) same c.in_ok-close_over.ensures.closed),
      subst (λ (s : List Support). AreSupportPlaces s c.close_over.new.places) same c.in_ok-close_over.ensures.places,
    )

pub close_over-requires-clause-closed : goal.close_over-requires-clause-closed
close_over-requires-clause-closed c =
    let begun = subst IsBegun (sym c.closing.view_is) c.in_ok-closing.ensures in
    subst (λ (k : KeptValue). IsClosed [] (bound_of k.bounds)) (sym c.in_ok-base.ensures.begun) begun.closed

pub close_over-requires-clause-stand : goal.close_over-requires-clause-stand
close_over-requires-clause-stand c = subst AllStand (sym c.deref.ensures.value) c.requires.stand

pub returns : goal.returns
returns c = record { supports = refl }
