use Rattle.std.proofs.Common.{◌≡◌, ℕ, List, Option, option_map, Global, IfOk, sym, ap, subst, ◌∙◌}
use Rattle.std.specs.Prelude.{Vec}
use Rattle.std.specs.Borrow.{Bor}
use Rattle.toml.specs.View.{view, items_view}
use Rattle.toml.specs.declared.value.Value.{Value}
use Rattle.toml.proofs.Views.{view-Array}
use Rattle.ct_fields.specs.Fields.{texts_of, texts_in}
use Rattle.ct_fields.specs.Reads.{texts_behind}
use Rattle.ct_partition_files.proofs.lists.texts_in.Goals as goal

pub returns-in-Array : goal.returns-in-Array
returns-in-Array c =
    let same = ap (λ (vs : List Value). texts_of (items_view vs)) c.deref.ensures.value ∙ ap texts_in (sym (view-Array c.in-Array.values))
    ∙ ap (λ (v : Value). texts_in (view v)) (sym c.in-Array.is) in
    subst (λ (read : Option (List (List ℕ))). IfOk c.texts_of.result (λ o. option_map (λ (v : Vec (Bor (List ℕ)) Global). texts_behind v.items) o ≡ read))
    same c.texts_of.ensures
