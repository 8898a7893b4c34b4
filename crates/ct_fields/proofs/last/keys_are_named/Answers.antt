use Rattle.std.proofs.Common.{◌≡◌, ℕ, Bool, true, false, ◌&&◌, List, ◌∷◌, String, Global, string_bytes, sym, ap, ◌∙◌}
use Rattle.toml.specs.View.{members_view}
use Rattle.toml.specs.declared.value.Value.{Value}
use Rattle.ct_fields.specs.Fields.{is_named, keys_are_named}
use Rattle.ct_fields.specs.LastFields.{all_fields}
use Rattle.ct_fields.specs.declared.field.FieldName.{FieldName}
use Rattle.ct_fields.proofs.last.keys_are_named.Goals as goal

module _ (names : List FieldName) (es rest : List (String Global × Value)) (key : String Global) (value : Value) (text : List ℕ) (all : Bool)
    (before : keys_are_named names (members_view es) ≡ all) (is : es ≡ (key, value) ∷ rest) (same : text ≡ string_bytes key) where
  -- the test of the first key, and that of those after it
  first_key : (named : Bool) → named ≡ is_named names text → (named && keys_are_named names (members_view rest)) ≡ all
  first_key named test =
      ap (λ (b : Bool). b && keys_are_named names (members_view rest)) (test ∙ ap (is_named names) same)
      ∙ ap (λ (l : List (String Global × Value)). keys_are_named names (members_view l)) (sym is) ∙ before

  -- where the first key is named those after it decide, and where it isn't, no more is asked
  key-named : true ≡ is_named names text → keys_are_named names (members_view rest) ≡ all
  key-named test = first_key true test

  key-other : false ≡ is_named names text → false ≡ all
  key-other test = first_key false test

pub loop-key-preserved : goal.loop-key-preserved
loop-key-preserved c =
    key-named (all_fields c.args.cites c.args.names.now) c.loop-key.key-iterator c.next.new.self c.in-Some.key.now c.in-Some.field-0-1.now c.as_str.result.now _
    c.loop-key.invariant c.in-Some.ensures.steps c.as_str.ensures.value c.if-not-is_named.ensures

pub returns-then-not-is_named : goal.returns-then-not-is_named
returns-then-not-is_named c =
    key-other (all_fields c.args.cites c.args.names.now) c.loop-key.key-iterator c.next.new.self c.in-Some.key.now c.in-Some.field-0-1.now c.as_str.result.now _
    c.loop-key.invariant c.in-Some.ensures.steps c.as_str.ensures.value c.if-not-is_named.ensures

pub returns : goal.returns
returns c =
    let names = all_fields c.args.cites c.args.names.now in
    ap (λ (l : List (String Global × Value)). keys_are_named names (members_view l)) (sym c.in-None.ensures.steps.0) ∙ c.loop-key.invariant
