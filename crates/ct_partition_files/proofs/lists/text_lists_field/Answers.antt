use Rattle.std.proofs.Common.{ℕ, List, Global, sym, ap, ◌∙◌}
use Rattle.std.specs.Prelude.{Vec}
use Rattle.std.specs.Borrow.{Bor}
use Rattle.toml.specs.Data.{get}
use Rattle.toml.specs.View.{view, items_view}
use Rattle.toml.specs.declared.value.Value.{Value}
use Rattle.toml.proofs.Views.{view-Array}
use Rattle.ct_partition_files.specs.Lists.{lists_behind, text_lists_of, text_lists_in}
use Rattle.ct_partition_files.proofs.ReadFields.{reads-field}
use Rattle.ct_partition_files.proofs.lists.text_lists_field.Goals as goal

pub returns-in_ok-text_lists_of-in-Some-Array : goal.returns-in_ok-text_lists_of-in-Some-Array
returns-in_ok-text_lists_of-in-Some-Array c =
    let document = view c.args.document.now in
    let found = c.in-Some-Array.field-0.now in
    let lists = c.in_ok-text_lists_of-in-Some-Array.field-0 in
    let is = c.in_ok-text_lists_of-in-Some-Array.ensures ∙ ap (λ (vs : List Value). text_lists_of (items_view vs)) c.deref.ensures.value
    ∙ ap (λ (v : Vec Value Global). text_lists_of (items_view v.items)) c.in-Some-Array.values-is
    ∙ ap text_lists_in (sym (ap view c.in-Some-Array.field-0-is ∙ view-Array c.in-Some-Array.values)) in
    reads-field (λ (v : Vec (Vec (Bor (List ℕ)) Global) Global). lists_behind v.items) text_lists_in c.args.name document (view found) lists c.ok_or.result
    (ap (λ (key : List ℕ). get key document) (sym c.text.ensures) ∙ sym c.in-Some-Array.ensures) is c.ok_or.ensures.value
