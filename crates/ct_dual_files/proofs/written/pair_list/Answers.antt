use Rattle.std.proofs.Common.{◌≡◌, ℕ, get_or, pos, ap, List, ◌∙◌, rules}
use Rattle.std.specs.Prelude.{ℤ}
use Rattle.std.proofs.lemmas.List.{get_or_default}
use Rattle.toml.specs.Data.{Data, array}
use Rattle.toml.specs.View.{view, items_of}
use Rattle.toml.proofs.Views.{view-Array}
use mir.Val.{to_z, of_z}
use mir.Syntax.{w64}
use Rattle.ct_fields.proofs.PushedValues.{none_pushed, pushed, all_pushed}
use Rattle.ct_dual_files.specs.Fields.{index_pair}
use Rattle.ct_dual_files.proofs.written.pair_list.Goals as goal

pub loop-i-init : goal.loop-i-init
loop-i-init c = none_pushed view index_pair c.in_ok-values.values.items c.args.pairs.now c.in_ok-values.ensures.items

pub loop-i-preserved : goal.loop-i-preserved
loop-i-preserved c =
    let i = c.loop-i.i-index in
    let pairs = c.args.pairs.now in
    let pair : ℕ × ℤ = get_or pairs i (0, pos 0) in
    let as_read : to_z w64 (of_z w64 pair.1) ≡ pair.1 = search rules in
    pushed view index_pair c.loop-i.values.items c.push.new.self.items c.in_ok-pair_value.field-0 pairs i pair c.loop-i-test.true
    (get_or_default pairs i (0, pos 0) pair c.loop-i-test.true) (c.in_ok-pair_value.ensures ∙ ap (λ (z : ℤ). index_pair (pair.0, z)) as_read)
    c.in_ok-push.ensures.items c.loop-i.invariant

pub returns : goal.returns
returns c =
    view-Array c.loop-i.values
    ∙ ap (λ (ds : List Data). array (items_of ds))
    (all_pushed view index_pair c.loop-i.values.items c.args.pairs.now c.loop-i.i-index c.loop-i-test.false c.loop-i.invariant)
