-- The fields of a document of kind cosets: they have forms, what they state is sound, and what is written states the cosets again.
use Rattle.std.proofs.Common.{◌≡◌, ℕ, ◌+◌, ◌*◌, ◌^◌, ◌<◌, ◌≤◌, List, [], ◌∷◌, length, map, codes, Some, None, Ok, refl, ap, arith, lit≤}
use Rattle.std.specs.Prelude.{All}
use Rattle.toml.specs.Data.{Data, members_depth}
use Rattle.ct_words.specs.Text.{word_text}
use Rattle.ct_words.specs.declared.entry.Entry.{Entry}
use Rattle.ct_words.specs.declared.limits.TheConstants.{MAX_N}
use Rattle.ct_words.specs.declared.fault.TheConstants.{MAX_REPRESENTATIVES}
use Rattle.ct_words.specs.Entry.{IsEntry}
use Rattle.ct_fields.specs.Schema.{Schema, states, needs, StatedBy}
use Rattle.ct_fields.specs.Written.{word_texts}
use Rattle.ct_fields.specs.WrittenSchema.{written_table}
use Rattle.ct_fields.specs.declared.field.FieldName.TheVariants as name
use Rattle.ct_fields.proofs.SchemaLemmas.{AreForms}
use Rattle.ct_fields.proofs.EntryForms.{plain-forms, plain-stated, plain-writes}
use Rattle.ct_fields.proofs.WrittenSchema.{Writes}
use Rattle.ct_fields.proofs.RoomLemmas.{Holds, words-simple, words-room}
use Rattle.ct_fields.proofs.WordTexts.{texts_depth}
use Rattle.ct_kind.specs.declared.evidence.Evidence.{Evidence}
use Rattle.ct_kind.specs.declared.evidence.Evidence.TheVariants.{Cosets}
use Rattle.ct_word_files.specs.Words.{texts_form}
use Rattle.ct_word_files.specs.Cosets.{cosets_of_texts, cosets_schema, cosets_fields, IsCosetsOf}
use Rattle.ct_word_files.proofs.CosetsAnswers.{cosets_answers}
use Rattle.ct_word_files.proofs.WordsSchema.{texts-form, texts-written}

-- what follows the entry
abbrev after : Entry → Schema Evidence
after e = needs (texts_form name.Basis) (λ basis. needs (texts_form name.Representatives) (λ texts. states (cosets_of_texts e basis texts)))

pub cosets-forms : AreForms cosets_schema
cosets-forms =
    plain-forms after (λ n d short.
    (texts-form name.Basis refl, λ basis right. (texts-form name.Representatives refl, λ texts t-right. tt)))

-- cosets that may be read: of an entry of the table without weight, words of its length, and counts in their ranges
pub record AreSoundCosets (e : Entry) (basis representatives : List ℕ) : Type 0 where
  pub entry : IsEntry e
  pub plain : e.w ≡ None
  pub basis_lengths : All (λ x. x < 2 ^ e.n) basis
  pub lengths : All (λ x. x < 2 ^ e.n) representatives
  pub few_basis : length basis ≤ MAX_N
  pub some : 1 ≤ length representatives
  pub few : length representatives ≤ MAX_REPRESENTATIVES

-- the evidence that is stated is such cosets
pub cosets-sound : (document : Data) (x : Evidence) → StatedBy cosets_schema document x
    → (e : Entry) × (basis : List ℕ) × (representatives : List ℕ) × (x ≡ Cosets e basis representatives) × AreSoundCosets e basis representatives
cosets-sound document x stated =
    let (e, entry, plain, (basis_texts, basis-has, (texts, has, made))) = plain-stated after document x stated in
    at e entry plain basis_texts texts x ((cosets_answers e basis_texts texts (Ok x)).0 made)
  where
    at : (e : Entry) → IsEntry e → e.w ≡ None → (basis_texts texts : List (List ℕ)) (x : Evidence) → IsCosetsOf e basis_texts texts (Ok x)
        → (f : Entry) × (basis : List ℕ) × (representatives : List ℕ) × (x ≡ Cosets f basis representatives) × AreSoundCosets f basis representatives
    at e entry plain basis_texts texts (Cosets own basis representatives) (is, basis-are, are, few_basis, some, few) = (
      e,
      basis,
      representatives,
      ap (λ f. Cosets f basis representatives) is,
      record {
        entry = entry;
        plain = plain;
        basis_lengths = basis-are.lengths;
        lengths = are.lengths;
        few_basis = few_basis;
        some = some;
        few = few;
      },
    )
    at e entry plain basis_texts texts other never = absurd never

-- what is written for such cosets states them
pub cosets-writes : (e : Entry) (basis representatives : List ℕ) → AreSoundCosets e basis representatives
    → Writes [] cosets_schema (cosets_fields e basis representatives) (Ok (Cosets e basis representatives))
cosets-writes e basis representatives sound =
    let basis_texts = map (word_text e.n) basis in
    let texts = map (word_text e.n) representatives in
    let stated = (cosets_answers e basis_texts texts (Ok (Cosets e basis representatives))).1 (
      refl,
      record { same = refl; lengths = sound.basis_lengths },
      record { same = refl; lengths = sound.lengths },
      sound.few_basis,
      sound.some,
      sound.few,
    ) in
    plain-writes after e ((name.Basis, Some (word_texts e.n basis)) ∷ (name.Representatives, Some (word_texts e.n representatives)) ∷ []) (Ok (Cosets e basis representatives))
    sound.entry sound.plain
    (basis_texts, ap Some (texts-written e.n basis), refl, (texts, ap Some (texts-written e.n representatives), refl, (refl, stated)))

-- its table is no longer than this
pub cosets-holds : (e : Entry) (basis representatives : List ℕ)
    → Holds (written_table (codes "cosets") (cosets_fields e basis representatives)) (128 + (e.n + 4) * (length basis + length representatives))
cosets-holds e basis representatives = record {
  simple = (
    omega arith,
    refl,
    words-simple e.n basis,
    (
      omega arith,
      refl,
      tt,
      (omega arith, refl, refl, (omega arith, refl, tt, (omega arith, refl, words-simple e.n representatives, tt))),
    ),
  );
  small =
      let texts = words-room e.n basis in
      let more = words-room e.n representatives in
      omega (arith, texts, more);
}

-- and no deeper than a document may be
pub cosets-depth : (e : Entry) (basis representatives : List ℕ) → members_depth (written_table (codes "cosets") (cosets_fields e basis representatives)) ≤ 80
cosets-depth e basis representatives = rw (texts_depth e.n basis, texts_depth e.n representatives) (lit≤ tt)
