-- What a document is, as a list of its fields: the form of each, given those that come before it, and what they state together.
use Rattle.std.specs.Prelude.{◌≡◌, ◌⊎◌, ℕ, Bool, true, false, IsTrue, if◌then◌else◌, List, [], ◌∷◌, ◌++◌, Option, Some, None, Result, Ok, Err}
use Rattle.std.specs.Option.{option_map_or}
use Rattle.toml.specs.Data.{Data, get}
use Rattle.ct_fields.specs.Field.{field_text}
use Rattle.ct_fields.specs.Steps.{◌>>=◌, ◌>>◌, check}
use Rattle.ct_fields.specs.Fields.{has_field, field}
use Rattle.ct_fields.specs.LastFields.{last_fields}
use Rattle.ct_fields.specs.HasCites.{HasLast, HasRightCites, HasWrongCites, HasOther}
use Rattle.ct_fields.specs.declared.field.FieldName.{FieldName}
use Rattle.ct_fields.specs.declared.field.FieldName.TheVariants.{Cites}
use Rattle.ct_fields.specs.declared.fault.DocumentFault.{DocumentFault}
use Rattle.ct_fields.specs.declared.fault.DocumentFault.TheVariants.{Field, Unknown}

-- the form of a field: its name; the value that data says, if it says one; how a value is written; and which values are right
pub record Form (A : Type 0) : Type 0 where
  pub name : FieldName
  pub value : Data → Option A
  pub written : A → Data
  pub is_right : A → Bool

-- the fields of a document in their order: one that it has to have; one that it may leave out; a test of the value at a key, whatever that is; and a
-- condition, with its fault if it does not hold. What follows depends on these. At the end comes what they state together
pub data Schema (R : Type 0) : Type 1 where
  states : Result R DocumentFault → Schema R
  needs : {A : Type 0} → Form A → (A → Schema R) → Schema R
  may_have : {A : Type 0} → Form A → (Option A → Schema R) → Schema R
  asks : FieldName → (Data → Bool) → (Bool → Schema R) → Schema R
  checks : Bool → DocumentFault → Schema R → Schema R

-- the value of a field, or its fault
abbrev pub needed : {A : Type 0} → Form A → Data → Result A DocumentFault
needed form document = field form.value form.name document

-- the value of a field that may be left out
abbrev pub optional : {A : Type 0} → Form A → Data → Result (Option A) DocumentFault
optional form document = if has_field form.name document then (needed form document >>= (λ x. Ok (Some x))) else Ok None

-- whether there is such a value at the key
abbrev pub passes : FieldName → (Data → Bool) → Data → Bool
passes name test document = option_map_or test (get (field_text name) document) false

-- what a document states by a schema that comes after fields of these names: what its fields state together; or the first fault of a field, or else
-- that of its cites, or else that of a key that is none of the fields'
abbrev pub read_by : {R : Type 0} → List FieldName → Schema R → Data → Result R DocumentFault
read_by names (states answer) document = last_fields names document >> answer
read_by names (needs form next) document = needed form document >>= (λ x. read_by (names ++ form.name ∷ []) (next x) document)
read_by names (may_have form next) document = optional form document >>= (λ x. read_by (names ++ form.name ∷ []) (next x) document)
read_by names (asks name test next) document = read_by names (next (passes name test document)) document
read_by names (checks holds fault next) document = check holds fault >> read_by names next document

-- the field has the value, which is right
abbrev pub Has : {A : Type 0} → Form A → Data → A → Type 0
Has form document x = (get (field_text form.name) document ≡ Some (form.written x)) × IsTrue (form.is_right x)

-- the same of a field that may be left out
abbrev pub MayHave : {A : Type 0} → Form A → Data → Option A → Type 0
MayHave form document None = get (field_text form.name) document ≡ None
MayHave form document (Some x) = Has form document x

-- the document's values are right by the schema, and state this
abbrev pub StatedBy : {R : Type 0} → Schema R → Data → R → Type 0
StatedBy (states answer) document stated = answer ≡ Ok stated
StatedBy (needs {A} form next) document stated = (x : A) × Has form document x × StatedBy (next x) document stated
StatedBy (may_have {A} form next) document stated = (x : Option A) × MayHave form document x × StatedBy (next x) document stated
StatedBy (asks name test next) document stated = StatedBy (next (passes name test document)) document stated
StatedBy (checks holds fault next) document stated = (holds ≡ true) × StatedBy next document stated

-- where each answer comes at the end of a document, whose fields have these names and state this
pub data IsLastAnswer {R : Type 0} (names : List FieldName) (stated : Result R DocumentFault) (document : Data) (answer : Result R DocumentFault) : Type 0 where
  ends_right : HasLast names document → answer ≡ stated → IsLastAnswer names stated document answer
  cites_wrong : HasWrongCites document → answer ≡ Err (Field Cites) → IsLastAnswer names stated document answer
  has_other : (key : List ℕ) → HasRightCites document → HasOther names document key → answer ≡ Err Unknown → IsLastAnswer names stated document answer

-- where each answer comes: the fault of a field if it is wrong, and those before it are right
abbrev pub IsAnswerBy : {R : Type 0} → List FieldName → Schema R → Data → Result R DocumentFault → Type 0
IsAnswerBy names (states stated) document answer = IsLastAnswer names stated document answer
IsAnswerBy names (needs {A} form next) document answer =
    ((x : A) × Has form document x × IsAnswerBy (names ++ form.name ∷ []) (next x) document answer)
    ⊎ (((x : A) → ¬ (Has form document x)) × (answer ≡ Err (Field form.name)))
IsAnswerBy names (may_have {A} form next) document answer =
    ((x : Option A) × MayHave form document x × IsAnswerBy (names ++ form.name ∷ []) (next x) document answer)
    ⊎ (((x : Option A) → ¬ (MayHave form document x)) × (answer ≡ Err (Field form.name)))
IsAnswerBy names (asks name test next) document answer = IsAnswerBy names (next (passes name test document)) document answer
IsAnswerBy names (checks holds fault next) document answer =
    ((holds ≡ true) × IsAnswerBy names next document answer) ⊎ ((holds ≡ false) × (answer ≡ Err fault))
