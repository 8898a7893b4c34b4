use Rattle.std.proofs.Common.{◌≡◌, ◌+◌, ◌<◌, ◌^◌, ◌++◌, ◌∷◌, [], List, length, take, map, refl, sym, ap, subst, ◌∙◌}
use Rattle.std.proofs.lemmas.List.{take_at}
use Rattle.ct_rule_parts.specs.declared.support.Support.{Support}
use Rattle.ct_table.specs.Closing.{IsClosing}
use Rattle.ct_slots.specs.Places.{AreSupportPlaces, entry_of_support}
use Rattle.ct_table.specs.Inside.Starting.{CanFollow}
use Rattle.ct_table.specs.Table.{TableValue, IsTable, Grew, table_of}
use Rattle.ct_table.proofs.CallLemmas.{CanFollow-more, IsTable-closed, IsTable-again, Grew-table}
use Rattle.ct_table.proofs.PlacedSupports.{AreSupportPlaces-push, AreSupportPlaces-is, fewer_supports}
use Rattle.ct_table.proofs.table.Table.add.Goals as goal

pub follow-done-requires-clause-new : goal.follow-done-requires-clause-new
follow-done-requires-clause-new c =
    let t = c.self.inside in
    let at = c.len-place.ensures ∙ c.self.inside.supports.ok.0 in
    CanFollow-more t.supports.items c.deref.result.now c.args.support c.len-place.result t.closing t.base c.self.invariant.0
    c.requires.stands (subst (λ (v : TableValue). length v.supports + 1 < 2 ^ 32) (sym c.self.view_is) c.requires.few)
    (c.deref.ensures.value ∙ c.push_reserved.ensures.items
    ∙ ap (λ (s : List Support). s ++ c.args.support ∷ []) c.in_ok-reserve.ensures.items) at

pub follow-done-requires-clause-places : goal.follow-done-requires-clause-places
follow-done-requires-clause-places c =
    let t = c.self.inside in
    subst (λ (s : List Support). AreSupportPlaces s c.add.new.self)
    (sym (c.deref.ensures.value ∙ c.push_reserved.ensures.items
    ∙ ap (λ (s : List Support). s ++ c.args.support ∷ []) c.in_ok-reserve.ensures.items))
    (subst (AreSupportPlaces (t.supports.items ++ c.args.support ∷ [])) (sym c.in_ok-add.ensures.added)
    (AreSupportPlaces-push t.supports.items t.places c.args.support c.self.invariant.1))

pub invariant_of-self-in_default : goal.invariant_of-self-in_default
invariant_of-self-in_default c =
    let t = c.self.inside in
    let longer : c.push_reserved.new.self.items ≡ c.self.inside.supports.items ++ c.args.support ∷ [] =
    c.push_reserved.ensures.items ∙ ap (λ (s : List Support). s ++ c.args.support ∷ []) c.in_ok-reserve.ensures.items in
    let at = c.len-place.ensures ∙ c.self.inside.supports.ok.0 in
    let can : CanFollow c.push_reserved.new.self.items c.len-place.result c.self.inside.closing =
    CanFollow-more c.self.inside.supports.items c.push_reserved.new.self.items c.args.support c.len-place.result
    c.self.inside.closing c.self.inside.base c.self.invariant.0 c.requires.stands
    (subst (λ (v : TableValue). length v.supports + 1 < 2 ^ 32) (sym c.self.view_is) c.requires.few) longer at in (
      IsTable-closed t.supports.items c.push_reserved.new.self.items t.closing.kept t.base t.closing c.follow-done.new.closing can.stand
          can.few c.self.invariant.0.kept c.self.invariant.0.base refl
          (subst (λ (s : List Support). IsClosing s c.self.inside.closing c.follow-done.new.closing) c.deref.ensures.value c.in_default.ensures.closed),
      subst (λ (s : List Support). AreSupportPlaces s c.add.new.self) (sym longer)
          (subst (AreSupportPlaces (t.supports.items ++ c.args.support ∷ [])) (sym c.in_ok-add.ensures.added)
          (AreSupportPlaces-push t.supports.items t.places c.args.support c.self.invariant.1)),
    )

pub invariant_of-self-in-Err : goal.invariant_of-self-in-Err
invariant_of-self-in-Err c =
    let t = c.self.inside in
    let at = c.len-place.ensures ∙ c.self.inside.supports.ok.0 in
    let longer : c.push_reserved.new.self.items ≡ c.self.inside.supports.items ++ c.args.support ∷ [] =
    c.push_reserved.ensures.items ∙ ap (λ (s : List Support). s ++ c.args.support ∷ []) c.in_ok-reserve.ensures.items in
    let back : c.truncate.new.self.items ≡ c.self.inside.supports.items =
    c.truncate.ensures.items ∙ ap (take c.len-place.result) longer
    ∙ take_at c.self.inside.supports.items (c.args.support ∷ []) c.len-place.result (sym at) in (
      IsTable-again t.supports.items c.truncate.new.self.items t.closing.kept c.follow-done.new.closing.kept t.base t.closing.work
          c.follow-done.new.closing.work c.self.invariant.0 back c.in-Err.ensures.unchanged c.in-Err.ensures.idle,
      AreSupportPlaces-is c.truncate.new.self.items c.rebuild.new.self
          (c.rebuild.ensures ∙ ap (map entry_of_support) c.deref-in-Err.ensures.value),
    )

pub returns-clause-grew : goal.returns-clause-grew
returns-clause-grew c =
    let t = c.self.inside in
    let closed = c.in_default.ensures.closed in
    subst (λ (v : TableValue). Grew v (table_of c.push_reserved.new.self.items c.follow-done.new.closing.kept)) c.self.view_is
    (Grew-table t.supports.items c.push_reserved.new.self.items t.closing.kept c.follow-done.new.closing.kept closed.grew)

pub rebuild-requires : goal.rebuild-requires
rebuild-requires c =
    let longer : c.push_reserved.new.self.items ≡ c.self.inside.supports.items ++ c.args.support ∷ [] =
    c.push_reserved.ensures.items ∙ ap (λ (s : List Support). s ++ c.args.support ∷ []) c.in_ok-reserve.ensures.items in
    fewer_supports c.self.inside.supports.items c.deref-in-Err.result.now c.self.inside.places c.add.new.self (entry_of_support c.args.support)
    c.self.invariant.1.count
    (c.deref-in-Err.ensures.value ∙ c.truncate.ensures.items ∙ ap (take c.len-place.result) longer
    ∙ take_at c.self.inside.supports.items (c.args.support ∷ []) c.len-place.result (sym (c.len-place.ensures ∙ c.self.inside.supports.ok.0)))
    c.in_ok-add.ensures.added

pub invariant_of-self-in_err-add : goal.invariant_of-self-in_err-add
invariant_of-self-in_err-add c =
    let t = c.self.inside in
    let same = c.in_ok-reserve.ensures.items in (
      subst (λ (s : List Support). IsTable s c.self.inside.closing.kept c.self.inside.base c.self.inside.closing.work) (sym same) c.self.invariant.0,
      subst (AreSupportPlaces c.reserve.new.self.items) (sym c.in_err-add.ensures.unchanged)
          (subst (λ (s : List Support). AreSupportPlaces s c.self.inside.places) (sym same) c.self.invariant.1),
    )

pub returns-in-Err-clause-unchanged : goal.returns-in-Err-clause-unchanged
returns-in-Err-clause-unchanged c =
    let longer : c.push_reserved.new.self.items ≡ c.self.inside.supports.items ++ c.args.support ∷ [] =
    c.push_reserved.ensures.items ∙ ap (λ (s : List Support). s ++ c.args.support ∷ []) c.in_ok-reserve.ensures.items in
    let back : c.truncate.new.self.items ≡ c.self.inside.supports.items =
    c.truncate.ensures.items ∙ ap (take c.len-place.result) longer
    ∙ take_at c.self.inside.supports.items (c.args.support ∷ []) c.len-place.result (sym (c.len-place.ensures ∙ c.self.inside.supports.ok.0)) in
    let kept = c.in-Err.ensures.unchanged in
    (λ i. table_of (back i) (kept i)) ∙ c.self.view_is

pub returns-clause-supports : goal.returns-clause-supports
returns-clause-supports c =
    c.push_reserved.ensures.items ∙ ap (λ (s : List Support). s ++ c.args.support ∷ []) c.in_ok-reserve.ensures.items
    ∙ ap (λ (v : TableValue). v.supports ++ c.args.support ∷ []) c.self.view_is

pub invariant_of-self : goal.invariant_of-self
invariant_of-self c =
    let same = c.in_err-reserve.ensures.items in (
      subst (λ (s : List Support). IsTable s c.self.inside.closing.kept c.self.inside.base c.self.inside.closing.work) (sym same) c.self.invariant.0,
      subst (λ (s : List Support). AreSupportPlaces s c.self.inside.places) (sym same) c.self.invariant.1,
    )
