use Rattle.std.proofs.Common.{◌≡◌, get_or, pos, ap, List, ◌∙◌, rules}
use Rattle.std.specs.Prelude.{ℤ}
use Rattle.std.proofs.lemmas.List.{get_or_default}
use Rattle.toml.specs.Data.{Data, integer, array}
use Rattle.toml.specs.View.{view, items_of}
use Rattle.toml.proofs.Views.{view-Integer, view-Array}
use mir.Val.{to_z, of_z}
use mir.Syntax.{w64}
use Rattle.ct_fields.proofs.PushedValues.{none_pushed, pushed, all_pushed}
use Rattle.ct_dual_files.proofs.written.integer_list.Goals as goal

pub loop-integer-init : goal.loop-integer-init
loop-integer-init c = none_pushed view (λ (z : ℤ). integer z) c.in_ok-values.values.items c.args.integers.now c.in_ok-values.ensures.items

pub loop-integer-preserved : goal.loop-integer-preserved
loop-integer-preserved c =
    let i = c.loop-integer.integer-index in
    let integers = c.args.integers.now in
    let z : ℤ = get_or integers i (pos 0) in
    let as_read : to_z w64 (of_z w64 z) ≡ z = search rules in
    pushed view (λ (k : ℤ). integer k) c.loop-integer.values.items c.push.new.self.items _ integers i z c.loop-integer-test.true
    (get_or_default integers i (pos 0) z c.loop-integer-test.true)
    (view-Integer _ ∙ ap (λ (k : ℤ). integer k) as_read) c.in_ok-push.ensures.items c.loop-integer.invariant

pub returns : goal.returns
returns c =
    view-Array c.loop-integer.values
    ∙ ap (λ (ds : List Data). array (items_of ds))
    (all_pushed view (λ (z : ℤ). integer z) c.loop-integer.values.items c.args.integers.now c.loop-integer.integer-index c.loop-integer-test.false
    c.loop-integer.invariant)
