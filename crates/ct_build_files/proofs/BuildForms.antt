-- The fields of a build have forms, and which other faults a build has.
use Rattle.std.proofs.Common.{ℕ, Bool, true, false, ◌||◌, List, Option, Some, None, refl}
use Rattle.ct_words.specs.declared.limits.TheConstants.{MAX_N}
use Rattle.ct_words.specs.declared.entry.Entry.{Entry}
use Rattle.ct_build.specs.declared.building.TheConstants.{MAX_BUILT}
use Rattle.ct_build.specs.declared.step.Step.{Step}
use Rattle.ct_kind.specs.declared.evidence.Evidence.{Evidence}
use Rattle.ct_fields.specs.Schema.{Schema}
use Rattle.ct_fields.specs.declared.field.FieldName.TheVariants as name
use Rattle.ct_fields.specs.declared.fault.DocumentFault.{DocumentFault}
use Rattle.ct_fields.specs.declared.fault.DocumentFault.TheVariants.{Field, Digits}
use Rattle.ct_fields.proofs.SchemaLemmas.{AreForms, OtherFaults}
use Rattle.ct_fields.proofs.EntryForms.{number-form, distance-form}
use Rattle.ct_build_files.specs.Operation.{takes_other}
use Rattle.ct_build_files.specs.BuildSchema.{step_schema, other_schema, parts_schema, build_schema}
use Rattle.ct_build_files.specs.declared.operation.Operation.{Operation}
use Rattle.ct_build_files.specs.declared.operation.Operation.TheVariants.{Puncture, Shorten, Translate, Select, Trim}
use Rattle.ct_build_files.proofs.BuildFields.{operation-form, text-form, id-form, places-form}

step-forms : {R : Type 0} (o : Operation) (n : ℕ) (next : Option Step → Schema R) → ((found : Option Step) → AreForms (next found))
    → AreForms (step_schema o n next)
step-forms Puncture n next are = (places-form n, λ places right. are _)
step-forms Shorten n next are = (places-form n, λ places right. (text-form name.Digits refl, λ text text-right. are _))
step-forms Translate n next are = (text-form name.By refl, λ text right. are _)
step-forms Select n next are = (text-form name.By refl, λ text right. are _)
step-forms Trim n next are = (number-form name.Size 1 MAX_BUILT refl, λ size right. are _)
step-forms o n next are = are _

other-forms : {R : Type 0} (takes : Bool) (next : Option (List ℕ) → Schema R) → ((other : Option (List ℕ)) → AreForms (next other))
    → AreForms (other_schema takes next)
other-forms true next are = (id-form name.Other refl, λ id right. are (Some id))
other-forms false next are = are _

pub build-forms : AreForms build_schema
build-forms = (
  number-form name.N 1 MAX_N refl,
  λ n n-right. (
    refl,
    λ weighted. (
      refl,
      λ selects. (
        distance-form (weighted || selects),
        λ d d-right. (
          number-form name.W 0 n refl,
          λ w w-right. (
            operation-form,
            λ o o-right long takes.
                let e : Entry = record { n = n; d = d; w = w } in
                step-forms o n (parts_schema e o) (λ found.
                (id-form name.Part refl, λ part right. other-forms (takes_other o) _ (λ other. tt))),
          ),
        ),
      ),
    ),
  ),
)

-- the faults of a build beside those of its fields, its cites and its keys
other-faults : (P : DocumentFault → Type 0) (takes : Bool) (next : Option (List ℕ) → Schema Evidence) → ((other : Option (List ℕ)) → OtherFaults P (next other))
    → OtherFaults P (other_schema takes next)
other-faults P true next have = λ id. have (Some id)
other-faults P false next have = have None

step-faults : (P : DocumentFault → Type 0) (o : Operation) (n : ℕ) (next : Option Step → Schema Evidence)
    → ((found : Option Step) → OtherFaults P (next found)) → OtherFaults P (step_schema o n next)
step-faults P Puncture n next have = λ places. have _
step-faults P Shorten n next have = λ places text. have _
step-faults P Translate n next have = λ text. have _
step-faults P Select n next have = λ text. have _
step-faults P Trim n next have = λ size. have _
step-faults P o n next have = have _

parts-faults : (P : DocumentFault → Type 0) (e : Entry) (o : Operation) (found : Option Step) → P (Digits 0) → OtherFaults P (parts_schema e o found)
parts-faults P e o None digits = λ part. other-faults P (takes_other o) _ (λ other. digits)
parts-faults P e o (Some s) digits = λ part. other-faults P (takes_other o) _ (λ other. tt)

pub build-faults : (P : DocumentFault → Type 0) → P (Field name.N) → P (Field name.W) → P (Digits 0) → OtherFaults P build_schema
build-faults P length weight digits = λ n weighted selects d w o.
    let e : Entry = record { n = n; d = d; w = w } in
    (length, (weight, step-faults P o n (parts_schema e o) (λ found. parts-faults P e o found digits)))
