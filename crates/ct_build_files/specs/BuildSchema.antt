-- The documents of kind build, as a list of their fields.
use Rattle.std.specs.Prelude.{ℕ, Bool, true, false, ◌||◌, List, length, Option, Some, None, option_map, Result, Ok, ok_or}
use Rattle.ct_words.specs.declared.limits.TheConstants.{MAX_N}
use Rattle.ct_words.specs.declared.entry.Entry.{Entry}
use Rattle.ct_words.specs.Text.{word_of}
use Rattle.ct_build.specs.declared.building.TheConstants.{MAX_BUILT}
use Rattle.ct_build.specs.declared.step.Step.{Step}
use Rattle.ct_build.specs.declared.step.Step.TheVariants as step
use Rattle.ct_kind.specs.declared.evidence.Evidence.{Evidence}
use Rattle.ct_kind.specs.declared.evidence.Evidence.TheVariants.{Build}
use Rattle.ct_fields.specs.Steps.{◌>>=◌}
use Rattle.ct_fields.specs.Fields.{is_text}
use Rattle.ct_fields.specs.Schema.{Schema, states, needs, may_have, asks, checks}
use Rattle.ct_fields.specs.EntrySchema.{number_form, distance_form}
use Rattle.ct_fields.specs.declared.field.FieldName.TheVariants as name
use Rattle.ct_fields.specs.declared.fault.DocumentFault.{DocumentFault}
use Rattle.ct_fields.specs.declared.fault.DocumentFault.TheVariants.{Field, Digits}
use Rattle.ct_build_files.specs.Operation.{operation_text, makes_length, takes_weight, takes_other}
use Rattle.ct_build_files.specs.BuildFields.{digits_of, operation_form, places_form, text_form, id_form}
use Rattle.ct_build_files.specs.declared.operation.Operation.{Operation}
use Rattle.ct_build_files.specs.declared.operation.Operation.TheVariants.{Lengthen, AppendOne, Parity, Puncture, Shorten, Translate, Complement, Select, Uuv, Juxtapose, Trim}

-- the own fields of an operation that makes words of length n, and what follows with its step, which is none if a text of digits is wrong
abbrev pub step_schema : {R : Type 0} → Operation → ℕ → (Option Step → Schema R) → Schema R
step_schema Lengthen n next = next (Some step.Lengthen)
step_schema AppendOne n next = next (Some step.AppendOne)
step_schema Parity n next = next (Some step.Parity)
step_schema Puncture n next = needs (places_form n) (λ places. next (Some (step.Puncture places)))
step_schema Shorten n next =
    needs (places_form n) (λ places. needs (text_form name.Digits) (λ text. next (option_map (step.Shorten places) (digits_of (length places) text))))
step_schema Translate n next = needs (text_form name.By) (λ text. next (option_map step.Translate (word_of n text)))
step_schema Complement n next = next (Some step.Complement)
step_schema Select n next = needs (text_form name.By) (λ text. next (option_map step.Select (word_of n text)))
step_schema Uuv n next = next (Some step.Uuv)
step_schema Juxtapose n next = next (Some step.Juxtapose)
step_schema Trim n next = needs (number_form name.Size 1 MAX_BUILT) (λ size. next (Some (step.Trim size)))

-- the other piece, if there has to be one
abbrev pub other_schema : {R : Type 0} → Bool → (Option (List ℕ) → Schema R) → Schema R
other_schema true next = needs (id_form name.Other) (λ id. next (Some id))
other_schema false next = next None

-- the evidence of a build by the step that is found, or the fault of its text of digits
abbrev pub build_of : Entry → Option Step → List ℕ → Option (List ℕ) → Result Evidence DocumentFault
build_of e found part other = ok_or found (Digits 0) >>= (λ step. Ok (Build e step part other))

-- the parts of a build by the operation with the step that is found
abbrev pub parts_schema : Entry → Operation → Option Step → Schema Evidence
parts_schema e operation found =
    needs (id_form name.Part) (λ part. other_schema (takes_other operation) (λ other. states (build_of e found part other)))

-- a build of the entry by the operation
abbrev pub operation_schema : Entry → Operation → Schema Evidence
operation_schema e operation =
    checks (makes_length operation e.n) (Field name.N)
    (checks (takes_weight operation e.w) (Field name.W) (step_schema operation e.n (parts_schema e operation)))

-- kind build: the distance is even beside a weight, and for `select`
abbrev pub build_schema : Schema Evidence
build_schema =
    needs (number_form name.N 1 MAX_N) (λ n.
    asks name.W (λ d. true) (λ weighted.
    asks name.Op (is_text (operation_text Select)) (λ selects.
    needs (distance_form (weighted || selects)) (λ d.
    may_have (number_form name.W 0 n) (λ w.
    needs operation_form (λ operation. operation_schema (record { n = n; d = d; w = w }) operation))))))
