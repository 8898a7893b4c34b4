-- The documents of kind words: their fields, what the texts of these state, and what is written for words.
use Rattle.std.specs.Prelude.{◌≡◌, ℕ, ◌^◌, ◌<◌, ◌≤◌, nat_le, ◌&&◌, ◌⊎◌, true, List, [], ◌∷◌, length, map, Option, Some, Result, Ok, Err, All}
use Rattle.toml.specs.Data.{Data, string}
use Rattle.ct_words.specs.Text.{word_text}
use Rattle.ct_words.specs.declared.entry.Entry.{Entry}
use Rattle.ct_words.specs.declared.fault.TheConstants.{MAX_WORDS}
use Rattle.ct_fields.specs.Steps.{◌>>=◌, ◌>>◌, check}
use Rattle.ct_fields.specs.Fields.{texts_in, words_from}
use Rattle.ct_fields.specs.Forms.{list_data}
use Rattle.ct_fields.specs.Tables.{IsFirstWrong}
use Rattle.ct_fields.specs.Schema.{Form, Schema, states, needs}
use Rattle.ct_fields.specs.EntrySchema.{any_entry}
use Rattle.ct_fields.specs.Written.{word_texts}
use Rattle.ct_fields.specs.WrittenSchema.{with_entry}
use Rattle.ct_kind.specs.declared.evidence.Evidence.{Evidence}
use Rattle.ct_kind.specs.declared.evidence.Evidence.TheVariants.{Words}
use Rattle.ct_fields.specs.declared.field.FieldName.{FieldName}
use Rattle.ct_fields.specs.declared.field.FieldName.TheVariants as name
use Rattle.ct_fields.specs.declared.fault.DocumentFault.{DocumentFault}
use Rattle.ct_fields.specs.declared.fault.DocumentFault.TheVariants.{Digits, Size}

-- a list of texts
abbrev pub texts_form : FieldName → Form (List (List ℕ))
texts_form field = record { name = field; value = texts_in; written = list_data string; is_right = λ texts. true }

-- the fault of a number of words that is 0 or above MAX_WORDS
abbrev pub word_count : List ℕ → Result (Unit {0}) DocumentFault
word_count words = check (nat_le 1 (length words) && nat_le (length words) MAX_WORDS) (Size (length words))

-- the evidence of the texts of words, for the entry
abbrev pub words_of_texts : Entry → List (List ℕ) → Result Evidence DocumentFault
words_of_texts e texts = do
  words ← words_from e.n 0 texts
  word_count words
  Ok (Words e words)

-- a document of kind words: an entry, and the texts of words
abbrev pub words_schema : Schema Evidence
words_schema = any_entry (λ e. needs (texts_form name.Words) (λ texts. states (words_of_texts e texts)))

-- what is written for words
abbrev pub words_fields : Entry → List ℕ → List (FieldName × Option Data)
words_fields e words = with_entry e ((name.Words, Some (word_texts e.n words)) ∷ [])

-- the texts are those of the words, each of length n
pub record AreTextsOf (n : ℕ) (words : List ℕ) (texts : List (List ℕ)) : Type 0 where
  pub same : texts ≡ map (word_text n) words
  pub lengths : All (λ x. x < 2 ^ n) words

-- where each answer comes for the texts of words, for the entry
abbrev pub IsWordsOf : Entry → List (List ℕ) → Result Evidence DocumentFault → Type 0
-- a text is that of no word
IsWordsOf e texts (Err (Digits i)) = IsFirstWrong e.n texts i
-- there is no word, or there are too many
IsWordsOf e texts (Err (Size c)) = (words : List ℕ) × AreTextsOf e.n words texts × (c ≡ length words) × ((c ≡ 0) ⊎ (MAX_WORDS < c))
-- all is right
IsWordsOf e texts (Ok (Words own words)) = (own ≡ e) × AreTextsOf e.n words texts × (1 ≤ length words) × (length words ≤ MAX_WORDS)
-- no other answer comes
IsWordsOf e texts (Ok other) = ⊥
IsWordsOf e texts (Err fault) = ⊥
