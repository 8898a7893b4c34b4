use Rattle.std.proofs.Common.{ℕ, ap, pos, List, ◌∙◌}
use Rattle.std.proofs.lemmas.List.{get_or_default}
use Rattle.toml.specs.Data.{Data, integer, array}
use Rattle.toml.specs.View.{view, items_of}
use Rattle.toml.proofs.Views.{view-Array}
use Rattle.ct_fields.proofs.PushedValues.{none_pushed, pushed, all_pushed}
use Rattle.ct_build_files.proofs.written_build.number_list.Goals as goal

pub loop-number-init : goal.loop-number-init
loop-number-init c = none_pushed view (λ (k : ℕ). integer (pos k)) c.in_ok-values.values.items c.args.numbers.now c.in_ok-values.ensures.items

pub loop-number-preserved : goal.loop-number-preserved
loop-number-preserved c =
    let i = c.loop-number.number-index in
    let numbers = c.args.numbers.now in
    pushed view (λ (k : ℕ). integer (pos k)) c.loop-number.values.items c.push.new.self.items c.number_value.result numbers i _ c.loop-number-test.true
    (get_or_default numbers i _ _ c.loop-number-test.true) c.number_value.ensures c.in_ok-push.ensures.items c.loop-number.invariant

pub returns : goal.returns
returns c =
    view-Array c.loop-number.values
    ∙ ap (λ (ds : List Data). array (items_of ds))
    (all_pushed view (λ (k : ℕ). integer (pos k)) c.loop-number.values.items c.args.numbers.now c.loop-number.number-index c.loop-number-test.false
    c.loop-number.invariant)
