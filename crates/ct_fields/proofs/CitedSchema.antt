-- What a table states, it states with cites too; and a table that states something has right cites.
use Rattle.std.proofs.Common.{if◌then◌else◌, ◌≡◌, ℕ, Bool, true, false, List, [], ◌∷◌, ◌++◌, Option, Some, None, Ok, sym, ap, subst, ◌∙◌, ok_or}
use Rattle.std.specs.Option.{option_and_then, option_map_or, is_some}
use Rattle.toml.specs.Data.{Data, table, Members, get}
use Rattle.ct_fields.specs.Field.{field_text}
use Rattle.ct_fields.specs.Steps.{◌>>=◌, check}
use Rattle.ct_fields.specs.Cites.{IsCites}
use Rattle.ct_fields.specs.HasCites.{HasLast}
use Rattle.ct_fields.specs.LastFields.{last_fields}
use Rattle.ct_fields.specs.Schema.{Form, Schema, states, needs, may_have, asks, checks, passes, needed, optional, read_by}
use Rattle.ct_fields.specs.Written.{put_cites}
use Rattle.ct_fields.specs.declared.field.FieldName.{FieldName}
use Rattle.ct_fields.specs.declared.field.FieldName.TheVariants.{Format}
use Rattle.ct_fields.specs.declared.fault.DocumentFault.TheVariants.{Field}
use Rattle.ct_fields.proofs.StepLemmas.{bind-at, bind-ok, check-ok}
use Rattle.ct_fields.proofs.LastLemmas.{is_of_a_kind, last_fields-ok, last_fields-from}
use Rattle.ct_fields.proofs.CitedTables.{alike-cited, last-cited}
use Rattle.ct_fields.proofs.SchemaLemmas.{AreForms, needed-ok, optional-ok, right_if}

-- what stands last in a table that states something is right
pub last-stated : {R : Type 0} (names : List FieldName) (schema : Schema R) (ms : Members) (x : R) → read_by names schema (table ms) ≡ Ok x
    → (all : List FieldName) × HasLast all (table ms)
last-stated names (states made) ms x read =
    let (passed, is, rest) = bind-ok (last_fields names (table ms)) (λ _. made) x read in (names, last_fields-ok names ms passed is)
last-stated names (needs form next) ms x read =
    let (v, is, rest) = bind-ok (needed form (table ms)) _ x read in last-stated (names ++ form.name ∷ []) (next v) ms x rest
last-stated names (may_have form next) ms x read =
    let (v, is, rest) = bind-ok (optional form (table ms)) _ x read in last-stated (names ++ form.name ∷ []) (next v) ms x rest
last-stated names (asks name test next) ms x read = last-stated names (next (passes name test (table ms))) ms x read
last-stated names (checks holds fault next) ms x read =
    let (passed, is, rest) = bind-ok (check holds fault) (λ _. read_by names next (table ms)) x read in last-stated names next ms x rest

-- it states the same with cites
module _ {R : Type 0} (ms : Members) (cites : List (List ℕ)) (first : get (field_text Format) (table ms) ≡ None) (right : IsCites cites) (x : R) where
  abbrev cited : Data
  cited = table (put_cites cites ms)

  -- what is at the key of a field is the same
  same_at : (name : FieldName) → is_of_a_kind name ≡ true → get (field_text name) cited ≡ get (field_text name) (table ms)
  same_at = (alike-cited cites ms).fields

  needed_same : {A : Type 0} (form : Form A) → is_of_a_kind form.name ≡ true → needed form cited ≡ needed form (table ms)
  needed_same form own = ap (λ (o : Option Data). ok_or (option_and_then form.value o) (Field form.name)) (same_at form.name own)

  allowed_same : {A : Type 0} (form : Form A) → is_of_a_kind form.name ≡ true → optional form cited ≡ optional form (table ms)
  allowed_same form own =
      ap (λ (o : Option Data). if is_some o then (ok_or (option_and_then form.value o) (Field form.name) >>= (λ v. Ok (Some v))) else Ok None) (same_at form.name own)

  pub reads-cited : (names : List FieldName) (schema : Schema R) → AreForms schema → read_by names schema (table ms) ≡ Ok x → read_by names schema cited ≡ Ok x
  reads-cited names (states made) forms read =
      let (passed, is, rest) = bind-ok (last_fields names (table ms)) (λ _. made) x read in
      rw (last_fields-from names (put_cites cites ms) (last-cited cites names ms first (last_fields-ok names ms passed is) right)) rest
  reads-cited names (needs form next) forms read =
      let (v, is, rest) = bind-ok (needed form (table ms)) (λ v. read_by (names ++ form.name ∷ []) (next v) (table ms)) x read in
      bind-at (needed form cited) (λ v. read_by (names ++ form.name ∷ []) (next v) cited) v (needed_same form forms.0.own ∙ is)
      ∙ reads-cited (names ++ form.name ∷ []) (next v) (forms.1 v (needed-ok form (table ms) v forms.0 is).1) rest
  reads-cited names (may_have form next) forms read =
      let (v, is, rest) = bind-ok (optional form (table ms)) (λ v. read_by (names ++ form.name ∷ []) (next v) (table ms)) x read in
      bind-at (optional form cited) (λ v. read_by (names ++ form.name ∷ []) (next v) cited) v (allowed_same form forms.0.own ∙ is)
      ∙ reads-cited (names ++ form.name ∷ []) (next v) (forms.1 v (right_if form (table ms) v (optional-ok form (table ms) v forms.0 is))) rest
  reads-cited names (asks name test next) forms read =
      subst (λ (b : Bool). read_by names (next b) cited ≡ Ok x) (sym (ap (λ o. option_map_or test o false) (same_at name forms.0)))
      (reads-cited names (next (passes name test (table ms))) (forms.1 (passes name test (table ms))) read)
  reads-cited names (checks holds fault next) forms read =
      let (passed, is, rest) = bind-ok (check holds fault) (λ _. read_by names next (table ms)) x read in
      let is_true = check-ok holds fault passed is in
      bind-at (check holds fault) (λ _. read_by names next cited) passed is ∙ reads-cited names next (forms is_true) rest
