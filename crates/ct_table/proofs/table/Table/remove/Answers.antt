use Rattle.std.proofs.Common.{◌≡◌, ap, subst, ◌∙◌}
use Rattle.std.specs.Prelude.{Result, Ok, Err, OnOk, remove}
use Rattle.ct_rules.specs.Removal.{Places, marked, only, without}
use Rattle.ct_rules.proofs.WithoutLemmas.{without-only}
use Rattle.ct_table.specs.Removal.{KeepsReasons}
use Rattle.ct_table.proofs.table.Table.remove.Goals as goal

on_ok : {T E : Type 0} (r : Result T E) (P Q : Type 0) → (P → Q) → OnOk r P → OnOk r Q
on_ok (Ok x) P Q f h = f h
on_ok (Err e) P Q f h = h

pub returns-clause-supports : goal.returns-clause-supports
returns-clause-supports c =
    let one : marked c.deref.result.now ≡ only c.args.place = ap marked c.deref.ensures.value ∙ c.in_ok-gone.ensures in
    on_ok c.remove_all.result (c.remove_all.new.self.supports ≡ without (marked c.deref.result.now) c.args.self.now.supports)
    (c.remove_all.new.self.supports ≡ remove c.args.self.now.supports c.args.place)
    (λ h. h ∙ ap (λ (gone : Places). without gone c.args.self.now.supports) one ∙ without-only c.args.place c.args.self.now.supports)
    c.remove_all.ensures.supports

pub returns-clause-reasons : goal.returns-clause-reasons
returns-clause-reasons c =
    let one : marked c.deref.result.now ≡ only c.args.place = ap marked c.deref.ensures.value ∙ c.in_ok-gone.ensures in
    subst (λ (gone : Places). OnOk c.remove_all.result (KeepsReasons gone c.args.self.now c.remove_all.new.self)) one c.remove_all.ensures.reasons
