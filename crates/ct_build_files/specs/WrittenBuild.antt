-- What is written for a build.
use Rattle.std.specs.Prelude.{ℕ, pos, ◌+◌, List, [], ◌∷◌, map, fold, Option, Some, None}
use Rattle.toml.specs.Data.{Data, string, integer, Members}
use Rattle.ct_words.specs.Text.{word_text}
use Rattle.ct_words.specs.declared.entry.Entry.{Entry}
use Rattle.ct_build.specs.declared.step.Step.{Step}
use Rattle.ct_build.specs.declared.step.Step.TheVariants.{Puncture, Shorten, Translate, Select, Trim}
use Rattle.ct_fields.specs.Forms.{list_data}
use Rattle.ct_fields.specs.WrittenSchema.{put_some, with_entry}
use Rattle.ct_fields.specs.declared.field.FieldName.{FieldName}
use Rattle.ct_fields.specs.declared.field.FieldName.TheVariants as name
use Rattle.ct_build_files.specs.Operation.{operation_text, operation_of}

-- a list of numbers
abbrev pub number_list : List ℕ → Data
number_list = list_data (λ k. integer (pos k))

-- the text of digits (48 is `0`)
abbrev pub digits_text : List ℕ → List ℕ
digits_text digits = map (λ a. 48 + a) digits

-- the own fields of a step that makes words of length n
abbrev pub step_fields : Step → ℕ → List (FieldName × Option Data)
step_fields (Puncture places) n = (name.Places, Some (number_list places)) ∷ []
step_fields (Shorten places digits) n =
    (name.Places, Some (number_list places)) ∷ (name.Digits, Some (string (digits_text digits))) ∷ []
step_fields (Translate by) n = (name.By, Some (string (word_text n by))) ∷ []
step_fields (Select by) n = (name.By, Some (string (word_text n by))) ∷ []
step_fields (Trim size) n = (name.Size, Some (integer (pos size))) ∷ []
step_fields step n = []

-- the other piece, if there is one, and further fields
abbrev pub with_other : Option (List ℕ) → List (FieldName × Option Data) → List (FieldName × Option Data)
with_other None fields = fields
with_other (Some id) fields = (name.Other, Some (string id)) ∷ fields

-- the fields of a build
abbrev pub build_fields : Entry → Step → List ℕ → Option (List ℕ) → List (FieldName × Option Data)
build_fields e step part other =
    with_entry e
    ((name.Op, Some (string (operation_text (operation_of step)))) ∷ (name.Part, Some (string part)) ∷ with_other other (step_fields step e.n))

-- the members with the values at the fields
abbrev pub put_fields : List (FieldName × Option Data) → Members → Members
put_fields fields ms = fold (λ ms f. put_some f.0 f.1 ms) ms fields
