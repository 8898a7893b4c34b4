use Rattle.std.proofs.Common.{[], ◌∷◌, ap₂, ◌∙◌}
use Rattle.std.proofs.lemmas.Result.{IfOk-weaker}
use Rattle.toml.specs.Data.{Data, array}
use Rattle.toml.specs.View.{items_of}
use Rattle.toml.specs.declared.value.Value.{Value}
use Rattle.ct_partition_files.proofs.written.pair_value.Goals as goal

pub returns-clause-list : goal.returns-clause-list
returns-clause-list c =
    let both = ap₂ (λ (a b : Data). array (items_of (a ∷ b ∷ []))) c.in_ok-first.ensures.value c.in_ok-second.ensures.value in
    IfOk-weaker c.two_values.result _ _ (λ (value : Value) is. is ∙ both) c.two_values.ensures

pub returns-clause-ids : goal.returns-clause-ids
returns-clause-ids c =
    IfOk-weaker c.two_values.result _ _ (λ (value : Value) is. (c.in_ok-first.ensures.id, c.in_ok-second.ensures.id)) c.two_values.ensures
