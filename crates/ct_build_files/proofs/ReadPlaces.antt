-- The places that the list in a document is.
use Rattle.std.proofs.Common.{◌≡◌, ℕ, true, false, List, Vec, Global, Option, Some, None, Ok, Err, ok_or, sym, ap, ◌∙◌}
use Rattle.std.specs.Prelude.{if◌then◌else◌}
use Rattle.std.specs.Option.{option_and_then}
use Rattle.toml.specs.Data.{Data, get}
use Rattle.toml.specs.View.{view, items_view}
use Rattle.toml.specs.declared.value.Value.{Value}
use Rattle.toml.specs.declared.value.Value.TheVariants.{Array}
use Rattle.toml.proofs.Views.{view-Array}
use Rattle.ct_words.specs.declared.limits.TheConstants.{MAX_N}
use Rattle.ct_fields.specs.Field.{field_text}
use Rattle.ct_fields.specs.Fields.{number_in}
use Rattle.ct_fields.specs.Forms.{all_of}
use Rattle.ct_fields.specs.Schema.{needed}
use Rattle.ct_fields.specs.declared.field.FieldName.TheVariants.{Places}
use Rattle.ct_fields.specs.declared.fault.DocumentFault.TheVariants.{Field}
use Rattle.ct_build_files.specs.BuildFields.{are_left_out, places_in, places_form}

-- those among the numbers that are read, if any are
abbrev chosen : ℕ → Option (List ℕ) → Option (List ℕ)
chosen n found = option_and_then (λ places. if are_left_out n places then Some places else None) found

-- a list stands there
list_there : (n : ℕ) (document : Data) (text : List ℕ) (v : Value) (values : Vec Value Global) (items : List Value) → Some (view v) ≡ get text document
    → text ≡ field_text Places → v ≡ Array values → items ≡ values.items
    → needed (places_form n) document ≡ ok_or (chosen n (all_of (number_in 0 MAX_N) (items_view items))) (Field Places)
list_there n document text v values items stands named is same =
    ap (λ (o : Option Data). ok_or (option_and_then (places_in n) o) (Field Places))
    (ap (λ (t : List ℕ). get t document) (sym named) ∙ sym stands ∙ ap (λ (w : Value). Some (view w)) is ∙ ap Some (view-Array values))
    ∙ ap (λ (vs : List Value). ok_or (chosen n (all_of (number_in 0 MAX_N) (items_view vs))) (Field Places)) (sym same)

pub places_read : (n : ℕ) (document : Data) (text : List ℕ) (v : Value) (values : Vec Value Global) (items : List Value) (places : List ℕ)
    → Some (view v) ≡ get text document → text ≡ field_text Places → v ≡ Array values → items ≡ values.items
    → Some places ≡ all_of (number_in 0 MAX_N) (items_view items) → are_left_out n places ≡ true → needed (places_form n) document ≡ Ok places
places_read n document text v values items places stands named is same found passes =
    list_there n document text v values items stands named is same
    ∙ ap (λ (o : Option (List ℕ)). ok_or (chosen n o) (Field Places)) (sym found)
    ∙ ap (λ b. ok_or (if b then Some places else None) (Field Places)) passes

pub places_wrong : (n : ℕ) (document : Data) (text : List ℕ) (v : Value) (values : Vec Value Global) (items : List Value) (places : List ℕ)
    → Some (view v) ≡ get text document → text ≡ field_text Places → v ≡ Array values → items ≡ values.items
    → Some places ≡ all_of (number_in 0 MAX_N) (items_view items) → are_left_out n places ≡ false
    → needed (places_form n) document ≡ Err (Field Places)
places_wrong n document text v values items places stands named is same found fails =
    list_there n document text v values items stands named is same
    ∙ ap (λ (o : Option (List ℕ)). ok_or (chosen n o) (Field Places)) (sym found)
    ∙ ap (λ b. ok_or (if b then Some places else None) (Field Places)) fails

pub places_unread : (n : ℕ) (document : Data) (text : List ℕ) (v : Value) (values : Vec Value Global) (items : List Value)
    → Some (view v) ≡ get text document → text ≡ field_text Places → v ≡ Array values → items ≡ values.items
    → None ≡ all_of (number_in 0 MAX_N) (items_view items) → needed (places_form n) document ≡ Err (Field Places)
places_unread n document text v values items stands named is same none =
    list_there n document text v values items stands named is same ∙ ap (λ (o : Option (List ℕ)). ok_or (chosen n o) (Field Places)) (sym none)
