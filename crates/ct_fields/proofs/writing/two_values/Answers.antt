use Rattle.std.proofs.Common.{List, [], ◌∷◌, ◌++◌, map, ap, ◌∙◌}
use Rattle.toml.specs.Data.{array}
use Rattle.toml.specs.View.{view, items_of}
use Rattle.toml.specs.declared.value.Value.{Value}
use Rattle.toml.proofs.Views.{view-Array}
use Rattle.ct_fields.proofs.writing.two_values.Goals as goal

pub returns : goal.returns
returns c =
    let one = c.push_reserved.ensures.items ∙ ap (λ (vs : List Value). vs ++ c.args.first ∷ []) c.in_ok-values.ensures.items in
    let two = c.push_reserved-2.ensures.items ∙ ap (λ (vs : List Value). vs ++ c.args.second ∷ []) one in
    view-Array c.push_reserved-2.new.self ∙ ap (λ (vs : List Value). array (items_of (map view vs))) two
