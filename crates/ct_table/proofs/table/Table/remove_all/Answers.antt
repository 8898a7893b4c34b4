use Rattle.std.proofs.Common.{◌≡◌, ℕ, List, length, map, take, drop, ◌++◌, replicate, sym, ap, subst, ◌∙◌, arith}
use Rattle.ct_rule_parts.specs.declared.support.Support.{Support}
use Rattle.ct_rule_parts.specs.declared.support.Support.TheVariants.{Nothing}
use Rattle.ct_rules.specs.Removal.{Places, marked, without, voided}
use Rattle.ct_rules.proofs.VoidedSupports.{length-voided}
use Rattle.ct_rules.proofs.WithoutLemmas.{length-without}
use Rattle.ct_slots.specs.Places.{AreSupportPlaces, entry_of_support}
use Rattle.ct_table.specs.Closing.{HasMoreLines}
use Rattle.ct_kept.specs.Kept.{KeptValue, set_back}
use Rattle.ct_slots.specs.Worklist.{WorkValue}
use Rattle.ct_table.specs.declared.table.Table.TheInside.{Inside}
use Rattle.ct_table.specs.Inside.Exchanged.{exchanged}
use Rattle.ct_table.specs.Inside.Removing.{IsTakenOut}
use Rattle.ct_table.specs.Removal.{KeepsReasons}
use Rattle.ct_table.specs.Table.{TableValue, IsTable, table_of}
use Rattle.ct_table.proofs.CallLemmas.{IsTable-again}
use Rattle.ct_table.proofs.ExchangeLemmas.{voids, put_back, length-replicate, without-voided, AreSupportPlaces-voided}
use Rattle.ct_table.proofs.PlacedSupports.{AreSupportPlaces-is}
use Rattle.ct_table.proofs.RemovalLemmas.{IsTable-without, KeepsReasons-without}
use Rattle.ct_table.proofs.table.Table.remove_all.Goals as goal

pub exchange-requires : goal.exchange-requires
exchange-requires c =
    let given = ap (λ (s : List Support). length s) c.in_ok-taken.ensures ∙ length-replicate c.len.result Nothing in
    c.deref_mut.ensures.len ∙ sym c.len.ensures ∙ sym given ∙ sym c.in_ok-taken.taken.ok.0 ∙ sym c.deref_mut-2.ensures.len

pub take_out-done-requires-clause-table : goal.take_out-done-requires-clause-table
take_out-done-requires-clause-table c =
    let size = sym c.self.inside.supports.ok.0 in
    let count = c.len.ensures in
    let given : c.in_ok-taken.taken.items ≡ replicate c.len.result Nothing = c.in_ok-taken.ensures in (
      c.self.inside.supports.items,
      c.self.invariant.0,
      c.deref.ensures.value
          ∙ voids (marked c.args.gone.now) c.self.inside.supports.items c.in_ok-taken.taken.items c.exchange.new.supports
          c.self.inside.supports.len size (given ∙ ap (λ (n : ℕ). replicate n Nothing) count)
          (c.exchange.ensures.supports ∙ (λ i. exchanged (marked c.args.gone.now) (c.deref_mut.ensures.value i) (c.deref_mut-2.ensures.value i))),
    )

pub take_out-done-requires-clause-places : goal.take_out-done-requires-clause-places
take_out-done-requires-clause-places c =
    let size = sym c.self.inside.supports.ok.0 in
    let count = c.len.ensures in
    let given : c.in_ok-taken.taken.items ≡ replicate c.len.result Nothing = c.in_ok-taken.ensures in
    let void = c.deref.ensures.value
    ∙ voids (marked c.args.gone.now) c.self.inside.supports.items c.in_ok-taken.taken.items c.exchange.new.supports
    c.self.inside.supports.len size (given ∙ ap (λ (n : ℕ). replicate n Nothing) count)
    (c.exchange.ensures.supports ∙ (λ i. exchanged (marked c.args.gone.now) (c.deref_mut.ensures.value i) (c.deref_mut-2.ensures.value i))) in
    subst (λ (s : List Support). AreSupportPlaces s c.self.inside.places) (sym void)
    (AreSupportPlaces-voided (marked c.args.gone.now) c.self.inside.supports.items c.self.inside.places c.self.invariant.1)

pub invariant_of-self : goal.invariant_of-self
invariant_of-self c =
    let t = c.self.inside in
    let size = sym c.self.inside.supports.ok.0 in
    let count = c.len.ensures in
    let long = sym c.in_ok-taken.taken.ok.0 in
    let given : c.in_ok-taken.taken.items ≡ replicate c.len.result Nothing = c.in_ok-taken.ensures in
    let here : c.deref_mut-in-Err-2.result.now ≡ take c.self.inside.supports.len (c.exchange.new.supports ++ drop (length c.exchange.new.supports) c.self.inside.supports.items) = c.deref_mut-in-Err-2.ensures.value in
    let there : c.deref_mut-in-Err.result.now ≡ take c.in_ok-taken.taken.len (c.exchange.new.others ++ drop (length c.exchange.new.others) c.in_ok-taken.taken.items) = c.deref_mut-in-Err.ensures.value in
    let other : c.exchange-in-Err.new.others ≡ exchanged (marked c.args.gone.now) c.deref_mut-in-Err-2.result.now c.deref_mut-in-Err.result.now = c.exchange-in-Err.ensures.others in
    let back = put_back (marked c.args.gone.now) c.self.inside.supports.items c.in_ok-taken.taken.items c.exchange.new.supports c.exchange.new.others
    c.exchange-in-Err.new.others c.self.inside.supports.len c.in_ok-taken.taken.len size (given ∙ ap (λ (n : ℕ). replicate n Nothing) count) long
    (c.exchange.ensures.supports ∙ (λ i. exchanged (marked c.args.gone.now) (c.deref_mut.ensures.value i) (c.deref_mut-2.ensures.value i)))
    (c.exchange.ensures.others ∙ (λ i. exchanged (marked c.args.gone.now) (c.deref_mut-2.ensures.value i) (c.deref_mut.ensures.value i)))
    (other ∙ (λ i. exchanged (marked c.args.gone.now) (here i) (there i))) in (
      IsTable-again t.supports.items _ t.closing.kept c.take_out-done.new.closing.kept t.base t.closing.work c.take_out-done.new.closing.work
          c.self.invariant.0 back c.in-Err.ensures.unchanged c.in-Err.ensures.idle,
      subst (λ (s : List Support). AreSupportPlaces s c.self.inside.places) (sym back) c.self.invariant.1,
    )

pub returns-in-Err-clause-unchanged : goal.returns-in-Err-clause-unchanged
returns-in-Err-clause-unchanged c =
    let size = sym c.self.inside.supports.ok.0 in
    let count = c.len.ensures in
    let long = sym c.in_ok-taken.taken.ok.0 in
    let given : c.in_ok-taken.taken.items ≡ replicate c.len.result Nothing = c.in_ok-taken.ensures in
    let here : c.deref_mut-in-Err-2.result.now ≡ take c.self.inside.supports.len (c.exchange.new.supports ++ drop (length c.exchange.new.supports) c.self.inside.supports.items) = c.deref_mut-in-Err-2.ensures.value in
    let there : c.deref_mut-in-Err.result.now ≡ take c.in_ok-taken.taken.len (c.exchange.new.others ++ drop (length c.exchange.new.others) c.in_ok-taken.taken.items) = c.deref_mut-in-Err.ensures.value in
    let other : c.exchange-in-Err.new.others ≡ exchanged (marked c.args.gone.now) c.deref_mut-in-Err-2.result.now c.deref_mut-in-Err.result.now = c.exchange-in-Err.ensures.others in
    let back = put_back (marked c.args.gone.now) c.self.inside.supports.items c.in_ok-taken.taken.items c.exchange.new.supports c.exchange.new.others
    c.exchange-in-Err.new.others c.self.inside.supports.len c.in_ok-taken.taken.len size (given ∙ ap (λ (n : ℕ). replicate n Nothing) count) long
    (c.exchange.ensures.supports ∙ (λ i. exchanged (marked c.args.gone.now) (c.deref_mut.ensures.value i) (c.deref_mut-2.ensures.value i)))
    (c.exchange.ensures.others ∙ (λ i. exchanged (marked c.args.gone.now) (c.deref_mut-2.ensures.value i) (c.deref_mut.ensures.value i)))
    (other ∙ (λ i. exchanged (marked c.args.gone.now) (here i) (there i))) in
    let kept = c.in-Err.ensures.unchanged in
    (λ i. table_of (back i) (kept i)) ∙ c.self.view_is

-- the table as it is once the supports are taken out, before its rules are lowered
record IsRemoval (gone : Places) (supports : List Support) (old : KeptValue) (work : WorkValue) (k : Inside) : Type 0 where
  table : IsTable supports old k.base work
  taken : IsTakenOut gone supports old k.closing
  more : HasMoreLines (set_back k.base old) k.closing.kept
  items : k.supports.items ≡ voided gone supports

removal : (c : goal.After-rebuild) → IsRemoval (marked c.args.gone.now) c.self.inside.supports.items c.self.inside.closing.kept c.self.inside.closing.work
    (record {
      supports = c.self-inside.inside.0.0;
      places = c.self-inside.inside.0.1.0;
      base = c.self-inside.inside.0.1.1.0;
      closing = record {
        kept = c.self-inside.inside.0.1.1.1.0.kept;
        work = c.self-inside.inside.0.1.1.1.0.work;
        evaluations = c.self-inside.inside.0.1.1.1.0.evaluations;
      };
    })
removal c =
    let size = sym c.self.inside.supports.ok.0 in
    let count = c.len.ensures in
    let given : c.in_ok-taken.taken.items ≡ replicate c.len.result Nothing = c.in_ok-taken.ensures in
    let items = voids (marked c.args.gone.now) c.self.inside.supports.items c.in_ok-taken.taken.items c.exchange.new.supports
    c.self.inside.supports.len size (given ∙ ap (λ (n : ℕ). replicate n Nothing) count)
    (c.exchange.ensures.supports ∙ (λ i. exchanged (marked c.args.gone.now) (c.deref_mut.ensures.value i) (c.deref_mut-2.ensures.value i))) in
    let void = c.deref.ensures.value ∙ items in
    subst (IsRemoval (marked c.args.gone.now) c.self.inside.supports.items c.self.inside.closing.kept c.self.inside.closing.work)
    (sym c.self-inside.view_is) (record {
      table = c.self.invariant.0;
      taken = c.in_default.ensures.taken c.self.inside.supports.items c.self.invariant.0 void;
      more = c.in_default.ensures.lines;
      items = items;
    })

left_items : (c : goal.After-rebuild) → c.leave_out.new.supports.items ≡ without (marked c.args.gone.now) c.self.inside.supports.items
left_items c =
    c.leave_out.ensures ∙ ap (without (marked c.args.gone.now)) (removal c).items
    ∙ without-voided (marked c.args.gone.now) c.self.inside.supports.items

pub rebuild-requires : goal.rebuild-requires
rebuild-requires c =
    let size = sym c.self.inside.supports.ok.0 in
    let count = c.len.ensures in
    let given : c.in_ok-taken.taken.items ≡ replicate c.len.result Nothing = c.in_ok-taken.ensures in
    let items = voids (marked c.args.gone.now) c.self.inside.supports.items c.in_ok-taken.taken.items c.exchange.new.supports
    c.self.inside.supports.len size (given ∙ ap (λ (n : ℕ). replicate n Nothing) count)
    (c.exchange.ensures.supports ∙ (λ i. exchanged (marked c.args.gone.now) (c.deref_mut.ensures.value i) (c.deref_mut-2.ensures.value i))) in
    let all = c.self.invariant.1.count
    ∙ sym (ap (λ (s : List Support). length s) items ∙ length-voided (marked c.args.gone.now) c.self.inside.supports.items) in
    let fits = subst (λ (k : Inside). length k.places ≡ length k.supports.items) (sym c.self-inside.view_is) all in
    let few = ap (λ (s : List Support). length s) (c.deref-2.ensures.value ∙ c.leave_out.ensures) in
    let less = length-without (marked c.args.gone.now) c.self-inside.inside.0.0.items in
    omega (arith, few, less, fits)

pub invariant_of-self-2 : goal.invariant_of-self-2
invariant_of-self-2 c =
    let r = removal c in (
      IsTable-without (marked c.args.gone.now) c.self.inside.supports.items c.leave_out.new.supports.items c.self.inside.closing.kept _
          c.self.inside.closing.work _ c.lower.new.self r.table r.taken r.more c.lower.ensures (left_items c),
      AreSupportPlaces-is c.leave_out.new.supports.items c.rebuild.new.self (c.rebuild.ensures ∙ ap (map entry_of_support) c.deref-2.ensures.value),
    )

pub returns-clause-supports : goal.returns-clause-supports
returns-clause-supports c =
    left_items c ∙ ap (λ (v : TableValue). without (marked c.args.gone.now) v.supports) c.self.view_is

pub returns-clause-reasons : goal.returns-clause-reasons
returns-clause-reasons c =
    let r = removal c in
    subst (λ (v : TableValue). KeepsReasons (marked c.args.gone.now) v (table_of c.leave_out.new.supports.items c.lower.new.self)) c.self.view_is
    (KeepsReasons-without (marked c.args.gone.now) c.self.inside.supports.items c.leave_out.new.supports.items c.self.inside.closing.kept _
    c.self.inside.closing.work _ c.lower.new.self r.table r.taken r.more c.lower.ensures)

pub exchange-requires-in-Err : goal.exchange-requires-in-Err
exchange-requires-in-Err c =
    let given = ap (λ (s : List Support). length s) c.in_ok-taken.ensures ∙ length-replicate c.len.result Nothing in
    c.deref_mut-in-Err.ensures.len ∙ c.in_ok-taken.taken.ok.0 ∙ given ∙ c.len.ensures ∙ sym c.deref_mut-in-Err-2.ensures.len
