use Rattle.std.proofs.Common.{ℕ, List, Vec, Global, Option, option_and_then, ok_or, sym, ap, ◌∙◌}
use Rattle.toml.specs.Data.{Data, get}
use Rattle.toml.specs.View.{view, items_view}
use Rattle.toml.specs.declared.value.Value.{Value}
use Rattle.toml.proofs.Views.{view-Array}
use Rattle.ct_fields.specs.Reads.{texts_behind}
use Rattle.ct_fields.specs.Fields.{texts_of, texts_in}
use Rattle.ct_fields.specs.declared.fault.DocumentFault.TheVariants.{Field}
use Rattle.ct_fields.proofs.ReadSteps.{reads-found}
use Rattle.ct_fields.proofs.fields.texts_field.Goals as goal

pub returns-in_ok-texts_of-in-Some-Array : goal.returns-in_ok-texts_of-in-Some-Array
returns-in_ok-texts_of-in-Some-Array c =
    let fault = Field c.args.name in
    let seen = sym (view-Array c.in-Some-Array.values) ∙ sym (ap view c.in-Some-Array.field-0-is) in
    let there = c.in-Some-Array.ensures ∙ ap (λ (key : List ℕ). get key (view c.args.document.now)) c.text.ensures in
    reads-found (λ v. texts_behind v.items) c.ok_or.result c.in_ok-texts_of-in-Some-Array.field-0 _ fault _ c.ok_or.ensures.value
    c.in_ok-texts_of-in-Some-Array.ensures
    (ap (λ (vs : List Value). ok_or (texts_of (items_view vs)) fault)
    (c.deref.ensures.value ∙ ap (λ (v : Vec Value Global). v.items) c.in-Some-Array.values-is)
    ∙ ap (λ (d : Data). ok_or (texts_in d) fault) seen
    ∙ ap (λ (o : Option Data). ok_or (option_and_then texts_in o) fault) there)
