-- The fields of an evidence document: what stands at a key, where it has the form that is asked.
use Rattle.std.specs.Prelude.{ℕ, suc, pos, Bool, true, false, nat_le, ◌&&◌, ◌||◌, if◌then◌else◌, List, [], ◌∷◌, Option, Some, None, is_some, Result, Ok, ok_or, codes}
use Rattle.std.specs.Option.{option_and_then, option_map_or}
use Rattle.std.specs.List.{list_any}
use Rattle.std.specs.Str.{bytes_eq}
use Rattle.toml.specs.Data.{Data, string, integer, array, table, Items, no_items, item, Members, no_members, member, get, as_str}
use Rattle.ct_words.specs.Text.{word_of}
use Rattle.ct_fields.specs.Field.{field_text}
use Rattle.ct_fields.specs.Steps.{◌>>=◌}
use Rattle.ct_fields.specs.declared.field.FieldName.{FieldName}
use Rattle.ct_fields.specs.declared.fault.DocumentFault.{DocumentFault}
use Rattle.ct_fields.specs.declared.fault.DocumentFault.TheVariants.{Field, Digits}

-- whether the value is this text
abbrev pub is_text : List ℕ → Data → Bool
is_text text (string s) = bytes_eq s text
is_text text _ = false

-- whether the document is of the kind
abbrev pub is_of_kind : List ℕ → Data → Bool
is_of_kind kind document = option_map_or (is_text kind) (get (codes "kind") document) false

-- whether the document has the key of the field, whatever its value
abbrev pub has_field : FieldName → Data → Bool
has_field name document = is_some (get (field_text name) document)

-- what stands at the key of the field, in the form that is asked
-- (the fault of the field where it is missing or of another form)
abbrev pub field : {A : Type 0} → (Data → Option A) → FieldName → Data → Result A DocumentFault
field form name document = ok_or (option_and_then form (get (field_text name) document)) (Field name)

-- an integer from low to high
abbrev pub number_in : ℕ → ℕ → Data → Option ℕ
number_in low high (integer (pos k)) = if nat_le low k && nat_le k high then Some k else None
number_in low high _ = None

-- the number of the field, an integer from low to high
abbrev pub number_field : FieldName → ℕ → ℕ → Data → Result ℕ DocumentFault
number_field name low high document = field (number_in low high) name document

-- the texts of items that all are texts
abbrev pub texts_of : Items → Option (List (List ℕ))
texts_of no_items = Some []
texts_of (item d ds) = option_and_then (λ text. option_and_then (λ texts. Some (text ∷ texts)) (texts_of ds)) (as_str d)

-- the texts of a list of texts
abbrev pub texts_in : Data → Option (List (List ℕ))
texts_in (array ds) = texts_of ds
texts_in _ = None

-- the texts of the field, a list of texts
abbrev pub texts_field : FieldName → Data → Result (List (List ℕ)) DocumentFault
texts_field name document = field texts_in name document

-- whether the key is `kind` or that of one of the fields
abbrev pub is_named : List FieldName → List ℕ → Bool
is_named names key = bytes_eq key (codes "kind") || list_any (λ name. bytes_eq key (field_text name)) names

-- whether each key of the members is named
abbrev pub keys_are_named : List FieldName → Members → Bool
keys_are_named names no_members = true
keys_are_named names (member key d rest) = is_named names key && keys_are_named names rest

-- whether the table has no other keys than `kind` and those of the fields
abbrev pub has_only : List FieldName → Data → Bool
has_only names (table members) = keys_are_named names members
has_only names _ = false

-- the words of length n that the texts write
-- (the fault of the first text that writes none, where the texts are counted from place)
abbrev pub words_from : ℕ → ℕ → List (List ℕ) → Result (List ℕ) DocumentFault
words_from n place [] = Ok []
words_from n place (text ∷ texts) = do
  word ← ok_or (word_of n text) (Digits place)
  words ← words_from n (suc place) texts
  Ok (word ∷ words)
