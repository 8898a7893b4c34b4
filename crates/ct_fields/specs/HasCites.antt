-- Which format and which cites a table has, and which keys may stand in it.
use Rattle.std.specs.Prelude.{◌≡◌, ◌⊎◌, ℕ, pos, List, [], ◌∷◌, None, Some, IsSome}
use Rattle.toml.specs.Data.{Data, integer, get}
use Rattle.ct_fields.specs.Field.{field_text}
use Rattle.ct_fields.specs.Tables.{HasNumber, HasTexts, IsNamed}
use Rattle.ct_fields.specs.Cites.{IsCites}
use Rattle.ct_fields.specs.declared.field.FieldName.{FieldName}
use Rattle.ct_fields.specs.declared.field.FieldName.TheVariants.{Format, Cites}

-- the table is of the format f: it says so, or it says nothing and f is 1
abbrev pub HasFormat : Data → ℕ → Type 0
HasFormat document f = ((get (field_text Format) document ≡ None) × (f ≡ 1)) ⊎ HasNumber Format 1 2 document f

-- the table is of one of the formats
abbrev pub HasRightFormat : Data → Type 0
HasRightFormat document = (f : ℕ) × HasFormat document f

-- the table is of none of the formats
abbrev pub HasWrongFormat : Data → Type 0
HasWrongFormat document = (f : ℕ) → ¬ (HasFormat document f)

-- the table says that it is of format 2
abbrev pub IsSecond : Data → Type 0
IsSecond document = get (field_text Format) document ≡ Some (integer (pos 2))

-- the table cites these: in format 2 it has their texts at the key `cites`; it cites nothing where the key is left out, and in format 1
pub data HasCites (document : Data) (cites : List (List ℕ)) : Type 0 where
  listed : IsSecond document → HasTexts Cites document cites → IsCites cites → HasCites document cites
  left_out : get (field_text Cites) document ≡ None → cites ≡ [] → HasCites document cites
  no_second : ¬ (IsSecond document) → cites ≡ [] → HasCites document cites

-- the cites of the table are right
abbrev pub HasRightCites : Data → Type 0
HasRightCites document = (cites : List (List ℕ)) × HasCites document cites

-- the cites of the table are wrong: it cites no list of texts in the way of its format
abbrev pub HasWrongCites : Data → Type 0
HasWrongCites document = (cites : List (List ℕ)) → ¬ (HasCites document cites)

-- the key may stand in the table: `kind`, `format`, that of one of the fields, or, in format 2, `cites`
abbrev pub MayStand : List FieldName → Data → List ℕ → Type 0
MayStand names document key = IsNamed (Format ∷ names) key ⊎ (IsSecond document × (key ≡ field_text Cites))

-- the table has the key, which may not stand in it
abbrev pub HasOther : List FieldName → Data → List ℕ → Type 0
HasOther names document key = IsSome (get key document) × ¬ (MayStand names document key)

-- what stands last in the table is right: its cites, and no other key than those that may stand in it
pub record HasLast (names : List FieldName) (document : Data) : Type 0 where
  pub cited : HasRightCites document
  pub only : (key : List ℕ) → IsSome (get key document) → MayStand names document key
