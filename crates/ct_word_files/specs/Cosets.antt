-- The documents of kind cosets: their fields, what the texts of these state, and what is written for cosets.
use Rattle.std.specs.Prelude.{◌≡◌, ℕ, ◌<◌, ◌≤◌, nat_le, ◌&&◌, ◌⊎◌, List, [], ◌∷◌, ◌++◌, length, Option, Some, Result, Ok, Err}
use Rattle.toml.specs.Data.{Data}
use Rattle.ct_words.specs.declared.limits.TheConstants.{MAX_N}
use Rattle.ct_words.specs.declared.entry.Entry.{Entry}
use Rattle.ct_words.specs.declared.fault.TheConstants.{MAX_REPRESENTATIVES}
use Rattle.ct_fields.specs.Steps.{◌>>=◌, ◌>>◌, check}
use Rattle.ct_fields.specs.Fields.{words_from}
use Rattle.ct_fields.specs.Tables.{IsFirstWrong}
use Rattle.ct_fields.specs.Schema.{Schema, states, needs}
use Rattle.ct_fields.specs.EntrySchema.{plain_entry}
use Rattle.ct_fields.specs.Written.{word_texts}
use Rattle.ct_fields.specs.WrittenSchema.{with_plain}
use Rattle.ct_kind.specs.declared.evidence.Evidence.{Evidence}
use Rattle.ct_kind.specs.declared.evidence.Evidence.TheVariants.{Cosets}
use Rattle.ct_fields.specs.declared.field.FieldName.{FieldName}
use Rattle.ct_fields.specs.declared.field.FieldName.TheVariants as name
use Rattle.ct_fields.specs.declared.fault.DocumentFault.{DocumentFault}
use Rattle.ct_fields.specs.declared.fault.DocumentFault.TheVariants.{Digits, Size}
use Rattle.ct_word_files.specs.Words.{texts_form, AreTextsOf}

-- the fault of more than MAX_N words of a basis, or else of 0 or more than MAX_REPRESENTATIVES representatives
abbrev pub coset_count : List ℕ → List ℕ → Result (Unit {0}) DocumentFault
coset_count basis representatives = do
  check (nat_le (length basis) MAX_N) (Size (length basis))
  check (nat_le 1 (length representatives) && nat_le (length representatives) MAX_REPRESENTATIVES) (Size (length representatives))

-- the evidence of the texts of a basis and of representatives, for the entry: the texts of the representatives are counted on from those of the basis
abbrev pub cosets_of_texts : Entry → List (List ℕ) → List (List ℕ) → Result Evidence DocumentFault
cosets_of_texts e basis_texts texts = do
  basis ← words_from e.n 0 basis_texts
  representatives ← words_from e.n (length basis_texts) texts
  coset_count basis representatives
  Ok (Cosets e basis representatives)

-- a document of kind cosets: an entry without weight, the texts of a basis and those of representatives
abbrev pub cosets_schema : Schema Evidence
cosets_schema =
    plain_entry (λ e. needs (texts_form name.Basis) (λ basis. needs (texts_form name.Representatives) (λ texts. states (cosets_of_texts e basis texts))))

-- what is written for cosets
abbrev pub cosets_fields : Entry → List ℕ → List ℕ → List (FieldName × Option Data)
cosets_fields e basis representatives =
    with_plain e ((name.Basis, Some (word_texts e.n basis)) ∷ (name.Representatives, Some (word_texts e.n representatives)) ∷ [])

-- the count of basis words is too great, or else that of representatives is 0 or too great
abbrev pub IsWrongCount : List ℕ → List ℕ → ℕ → Type 0
IsWrongCount basis representatives c =
    ((c ≡ length basis) × (MAX_N < c))
    ⊎ ((length basis ≤ MAX_N) × (c ≡ length representatives) × ((c ≡ 0) ⊎ (MAX_REPRESENTATIVES < c)))

-- where each answer comes for the texts of a basis and of representatives, for the entry
abbrev pub IsCosetsOf : Entry → List (List ℕ) → List (List ℕ) → Result Evidence DocumentFault → Type 0
-- a text is that of no word: the texts of the representatives come after those of the basis
IsCosetsOf e basis_texts texts (Err (Digits i)) = IsFirstWrong e.n (basis_texts ++ texts) i
-- a count is wrong
IsCosetsOf e basis_texts texts (Err (Size c)) =
    (basis : List ℕ) × (representatives : List ℕ) × AreTextsOf e.n basis basis_texts × AreTextsOf e.n representatives texts
    × IsWrongCount basis representatives c
-- all is right
IsCosetsOf e basis_texts texts (Ok (Cosets own basis representatives)) =
    (own ≡ e) × AreTextsOf e.n basis basis_texts × AreTextsOf e.n representatives texts × (length basis ≤ MAX_N) × (1 ≤ length representatives)
    × (length representatives ≤ MAX_REPRESENTATIVES)
-- no other answer comes
IsCosetsOf e basis_texts texts (Ok other) = ⊥
IsCosetsOf e basis_texts texts (Err fault) = ⊥
