-- The fields of a document of kind words: they have forms, what they state is sound, and what is written states the words again.
use Rattle.std.proofs.Common.{◌≡◌, ℕ, ◌+◌, ◌*◌, ◌^◌, ◌<◌, ◌≤◌, true, List, [], ◌∷◌, length, map, codes, Option, Some, None, Ok, refl, sym, ap, arith, lit≤}
use Rattle.std.specs.Prelude.{All}
use Rattle.std.proofs.lemmas.Simd.{map-map}
use Rattle.toml.specs.Data.{Data, string, array, members_depth}
use Rattle.toml.specs.View.{items_of}
use Rattle.ct_words.specs.Text.{word_text}
use Rattle.ct_words.specs.declared.entry.Entry.{Entry}
use Rattle.ct_words.specs.declared.fault.TheConstants.{MAX_WORDS}
use Rattle.ct_words.specs.Entry.{IsEntry}
use Rattle.ct_fields.specs.Forms.{list_data}
use Rattle.ct_fields.specs.Schema.{Schema, states, needs, StatedBy}
use Rattle.ct_fields.specs.Written.{word_texts}
use Rattle.ct_fields.specs.WrittenSchema.{written_table}
use Rattle.ct_fields.specs.declared.field.FieldName.{FieldName}
use Rattle.ct_fields.specs.declared.field.FieldName.TheVariants as name
use Rattle.ct_fields.proofs.FieldLemmas.{texts_in-some, texts_of-items_of}
use Rattle.ct_fields.proofs.LastLemmas.{is_of_a_kind}
use Rattle.ct_fields.proofs.SchemaLemmas.{IsForm, AreForms}
use Rattle.ct_fields.proofs.EntryForms.{any-forms, any-stated, any-writes}
use Rattle.ct_fields.proofs.WrittenSchema.{Writes}
use Rattle.ct_fields.proofs.RoomLemmas.{Holds, words-simple, words-room}
use Rattle.ct_fields.proofs.WordTexts.{texts_depth}
use Rattle.ct_kind.specs.declared.evidence.Evidence.{Evidence}
use Rattle.ct_kind.specs.declared.evidence.Evidence.TheVariants.{Words}
use Rattle.ct_word_files.specs.Words.{texts_form, words_of_texts, words_schema, words_fields, IsWordsOf}
use Rattle.ct_word_files.proofs.WordsAnswers.{words_answers}

-- a list of texts is a form
pub texts-form : (field : FieldName) → is_of_a_kind field ≡ true → IsForm (texts_form field)
texts-form field own = record {
  own = own;
  reads = record { some = λ d texts e. (texts_in-some d texts e, refl); from = λ texts right. texts_of-items_of texts };
}

-- what is written for words is the list of their texts
pub texts-written : (n : ℕ) (words : List ℕ) → word_texts n words ≡ list_data string (map (word_text n) words)
texts-written n words = ap (λ ds. array (items_of ds)) (sym (map-map string (word_text n) words))

-- what follows the entry
abbrev after : Entry → Schema Evidence
after e = needs (texts_form name.Words) (λ texts. states (words_of_texts e texts))

pub words-forms : AreForms words_schema
words-forms = any-forms after (λ n d w short light. (texts-form name.Words refl, λ texts right. tt))

-- the evidence that is stated is 1 to MAX_WORDS words of the length of an entry of the table
pub words-sound : (document : Data) (x : Evidence) → StatedBy words_schema document x
    → (e : Entry) × (words : List ℕ) × (x ≡ Words e words) × IsEntry e × All (λ y. y < 2 ^ e.n) words × (1 ≤ length words) × (length words ≤ MAX_WORDS)
words-sound document x stated =
    let (e, entry, (texts, has, made)) = any-stated after document x stated in
    at e entry texts x ((words_answers e texts (Ok x)).0 made)
  where
    at : (e : Entry) → IsEntry e → (texts : List (List ℕ)) (x : Evidence) → IsWordsOf e texts (Ok x)
        → (f : Entry) × (words : List ℕ) × (x ≡ Words f words) × IsEntry f × All (λ y. y < 2 ^ f.n) words × (1 ≤ length words) × (length words ≤ MAX_WORDS)
    at e entry texts (Words own words) (is, are, some, few) = (e, words, ap (λ f. Words f words) is, entry, are.lengths, some, few)
    at e entry texts other never = absurd never

-- what is written for such words states them
pub words-writes : (e : Entry) (words : List ℕ) → IsEntry e → All (λ x. x < 2 ^ e.n) words → 1 ≤ length words → length words ≤ MAX_WORDS
    → Writes [] words_schema (words_fields e words) (Ok (Words e words))
words-writes e words entry short some few =
    let texts = map (word_text e.n) words in
    any-writes after e ((name.Words, Some (word_texts e.n words)) ∷ []) (Ok (Words e words)) entry (
      texts,
      ap Some (texts-written e.n words),
      refl,
      (refl, (words_answers e texts (Ok (Words e words))).1 (refl, record { same = refl; lengths = short }, some, few)),
    )

-- its table is no longer than this
pub words-holds : (e : Entry) (words : List ℕ) → Holds (written_table (codes "words") (words_fields e words)) (128 + (e.n + 4) * length words)
words-holds e words = at e.w
  where
    at : (w : Option ℕ) → Holds (written_table (codes "words") (words_fields (record { n = e.n; d = e.d; w = w }) words)) (128 + (e.n + 4) * length words)
    at None = record {
      simple = (omega arith, refl, tt, (omega arith, refl, refl, (omega arith, refl, tt, (omega arith, refl, words-simple e.n words, tt))));
      small = let texts = words-room e.n words in omega (arith, texts);
    }
    at (Some w) = record {
      simple = (
        omega arith,
        refl,
        tt,
        (omega arith, refl, refl, (omega arith, refl, tt, (omega arith, refl, tt, (omega arith, refl, words-simple e.n words, tt)))),
      );
      small = let texts = words-room e.n words in omega (arith, texts);
    }

-- and no deeper than a document may be
pub words-depth : (e : Entry) (words : List ℕ) → members_depth (written_table (codes "words") (words_fields e words)) ≤ 80
words-depth e words = at e.w
  where
    at : (w : Option ℕ) → members_depth (written_table (codes "words") (words_fields (record { n = e.n; d = e.d; w = w }) words)) ≤ 80
    at None = rw (texts_depth e.n words) (lit≤ tt)
    at (Some w) = rw (texts_depth e.n words) (lit≤ tt)
