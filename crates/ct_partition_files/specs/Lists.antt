-- Lists of lists of texts in documents, and the classes of words that they write.
use Rattle.std.specs.Prelude.{ℕ, ◌+◌, true, List, [], ◌∷◌, length, map, Option, Some, None, Result, Ok, Err, Vec}
use Rattle.std.specs.List.{flat_map}
use Rattle.std.specs.Borrow.{Bor}
use Rattle.std.specs.Option.{option_and_then}
use Rattle.std.specs.declared.alloc.Global.{Global}
use Rattle.toml.specs.Data.{Data, string, array, Items, no_items, item}
use Rattle.ct_words.specs.Text.{word_text}
use Rattle.ct_partitions.specs.Check.{wrong_count}
use Rattle.ct_fields.specs.Reads.{texts_behind}
use Rattle.ct_fields.specs.Steps.{◌>>=◌}
use Rattle.ct_fields.specs.Fields.{texts_in, words_from}
use Rattle.ct_fields.specs.Forms.{list_data}
use Rattle.ct_fields.specs.Schema.{Form}
use Rattle.ct_fields.specs.Written.{word_texts}
use Rattle.ct_fields.specs.declared.field.FieldName.{FieldName}
use Rattle.ct_fields.specs.declared.fault.DocumentFault.{DocumentFault}
use Rattle.ct_fields.specs.declared.fault.DocumentFault.TheVariants.{Size}

-- the texts to which the references of each list lead
abbrev pub lists_behind : List (Vec (Bor (List ℕ)) Global) → List (List (List ℕ))
lists_behind lists = map (λ l. texts_behind l.items) lists

-- the lists of texts of items that all are such
abbrev pub text_lists_of : Items → Option (List (List (List ℕ)))
text_lists_of no_items = Some []
text_lists_of (item d ds) = option_and_then (λ texts. option_and_then (λ lists. Some (texts ∷ lists)) (text_lists_of ds)) (texts_in d)

-- the lists of texts of a list of them
abbrev pub text_lists_in : Data → Option (List (List (List ℕ)))
text_lists_in (array ds) = text_lists_of ds
text_lists_in _ = None

-- a list of lists of texts
abbrev pub text_lists_form : FieldName → Form (List (List (List ℕ)))
text_lists_form field = record { name = field; value = text_lists_in; written = list_data (list_data string); is_right = λ lists. true }

-- the list of the lists of the texts of words of length n
abbrev pub class_list : ℕ → List (List ℕ) → Data
class_list n classes = list_data (word_texts n) classes

-- the texts of all lists, one list after the other
abbrev pub all_texts : List (List (List ℕ)) → List (List ℕ)
all_texts lists = flat_map (λ texts. texts) lists

-- the texts of words of length n, class by class
abbrev pub class_texts : ℕ → List (List ℕ) → List (List (List ℕ))
class_texts n classes = map (λ words. map (word_text n) words) classes

-- the classes of words of length n that the lists of texts write
-- (the fault of the first text that writes none, where the texts are counted from place through all lists)
abbrev pub classes_from : ℕ → ℕ → List (List (List ℕ)) → Result (List (List ℕ)) DocumentFault
classes_from n place [] = Ok []
classes_from n place (texts ∷ lists) = do
  words ← words_from n place texts
  classes ← classes_from n (place + length texts) lists
  Ok (words ∷ classes)

-- the fault of a count, where it is wrong
abbrev pub refused : Option ℕ → Result (Unit {0}) DocumentFault
refused None = Ok tt
refused (Some count) = Err (Size count)

-- the fault of a wrong count of classes or of their words
abbrev pub class_count : List (List ℕ) → Result (Unit {0}) DocumentFault
class_count classes = refused (wrong_count classes)
