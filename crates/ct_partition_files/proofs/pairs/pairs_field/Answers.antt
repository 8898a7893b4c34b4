use Rattle.std.proofs.Common.{ℕ, List, Global, sym, ap, ◌∙◌}
use Rattle.std.specs.Prelude.{Vec}
use Rattle.toml.specs.Data.{array, get}
use Rattle.toml.specs.View.{view, items_view}
use Rattle.toml.specs.declared.value.Value.{Value}
use Rattle.toml.proofs.Views.{view-Array}
use Rattle.ct_fields.specs.declared.field.FieldName.TheVariants as name
use Rattle.ct_partition_files.specs.Pairs.{pairs_in}
use Rattle.ct_partition_files.proofs.ReadFields.{reads-field}
use Rattle.ct_partition_files.proofs.pairs.pairs_field.Goals as goal

pub returns-in_ok-pairs_of-in-Some-Array : goal.returns-in_ok-pairs_of-in-Some-Array
returns-in_ok-pairs_of-in-Some-Array c =
    let document = view c.args.document.now in
    let found = c.in-Some-Array.field-0.now in
    let pairs = c.in_ok-pairs_of-in-Some-Array.field-0 in
    let is = c.in_ok-pairs_of-in-Some-Array.ensures ∙ ap (λ (vs : List Value). pairs_in c.args.w (array (items_view vs))) c.deref.ensures.value
    ∙ ap (λ (v : Vec Value Global). pairs_in c.args.w (array (items_view v.items))) c.in-Some-Array.values-is
    ∙ ap (pairs_in c.args.w) (sym (ap view c.in-Some-Array.field-0-is ∙ view-Array c.in-Some-Array.values)) in
    reads-field (λ (v : Vec (List ℕ × List ℕ) Global). v.items) (pairs_in c.args.w) name.Pairs document (view found) pairs c.ok_or.result
    (ap (λ (key : List ℕ). get key document) (sym c.text.ensures) ∙ sym c.in-Some-Array.ensures) is c.ok_or.ensures.value
