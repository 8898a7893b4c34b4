-- The room of a table that is written by its fields.
use Rattle.std.proofs.Common.{◌<◌, ◌≤◌, ℕ, ◌+◌, List, [], ◌∷◌, fold, length, Option, Some, None, IfSome, refl, codes, arith}
use Rattle.std.specs.Prelude.{All, pos, option_map}
use Rattle.std.proofs.lemmas.List.Elements.{All-cons, All-head, All-tail}
use Rattle.toml.specs.Data.{Data, string, integer, Members, member, no_members, depth}
use Rattle.ct_words.specs.declared.entry.Entry.{Entry}
use Rattle.ct_fields.specs.Field.{field_text}
use Rattle.ct_fields.specs.Written.{put}
use Rattle.ct_fields.specs.WrittenSchema.{put_some, written_table, with_plain, with_entry}
use Rattle.ct_fields.specs.Inside.Room.{IsBare, IsSimple, room}
use Rattle.ct_fields.specs.declared.field.FieldName.{FieldName}
use Rattle.ct_fields.specs.declared.field.FieldName.TheVariants.{Format, N, D, W}
use Rattle.ct_fields.proofs.RoomLemmas.{Holds, holds-put, holds-more}

-- the key of a field is bare, and not empty
key-bare : (name : FieldName) → IsBare (field_text name)
key-bare Format = refl
key-bare name = refl

key-some : (name : FieldName) → 0 < length (field_text name)
key-some Format = omega arith
key-some name = omega arith

-- the bytes of fields, at most: of each that is there its key, its value and four
abbrev pub fields_room : List (FieldName × Option Data) → ℕ
fields_room [] = 0
fields_room ((field, None) ∷ fs) = fields_room fs
fields_room ((field, Some d) ∷ fs) = (length (field_text field) + 4 + room d) + fields_room fs

holds-fields : (fields : List (FieldName × Option Data)) (ms : Members) (b : ℕ) → All (λ f. IfSome f.1 IsSimple) fields → Holds ms b
    → Holds (fold (λ ms f. put_some f.0 f.1 ms) ms fields) (fields_room fields + b)
holds-fields [] ms b simple h = holds-more ms b (0 + b) h (omega arith)
holds-fields ((field, None) ∷ fs) ms b simple h = holds-fields fs ms b (All-tail (λ f. IfSome f.1 IsSimple) (field, None) fs simple) h
holds-fields ((field, Some d) ∷ fs) ms b simple h =
    holds-more _ _ _
    (holds-fields fs (put field d ms) _ (All-tail (λ f. IfSome f.1 IsSimple) (field, Some d) fs simple)
    (holds-put (field_text field) d ms (length (field_text field)) (room d) b (key-some field) (omega arith) (key-bare field) (All-head (λ f. IfSome f.1 IsSimple) (field, Some d) fs simple) (omega arith) h))
    (omega arith)

-- the table of a kind with simple values at its fields is simple, and no longer than they are together
pub holds-written : (kind : List ℕ) (fields : List (FieldName × Option Data)) → IsBare kind → All (λ f. IfSome f.1 IsSimple) fields
    → Holds (written_table kind fields) (fields_room fields + (10 + length kind))
holds-written kind fields bare simple =
    let kind_alone : Holds (member (codes "kind") (string kind) no_members) (10 + length kind) = record {
      simple = (omega arith, refl, bare, tt);
      small = omega arith;
    } in
    holds-fields fields _ (10 + length kind) simple kind_alone

-- ---- the fields of an entry

abbrev pub AreSimple : List (FieldName × Option Data) → Type 0
AreSimple fields = All (λ f. IfSome f.1 IsSimple) fields

-- no value is deeper than a document may be
abbrev pub AreFlat : List (FieldName × Option Data) → Type 0
AreFlat fields = All (λ f. IfSome f.1 (λ d. depth d ≤ 80)) fields

module _ (P : Data → Type 0) (number : (k : ℕ) → P (integer (pos k))) (e : Entry) (fields : List (FieldName × Option Data)) (all : All (λ f. IfSome f.1 P) fields) where
  numbers-plain : All (λ f. IfSome f.1 P) (with_plain e fields)
  numbers-plain =
      All-cons (λ f. IfSome f.1 P) (N, Some (integer (pos e.n))) ((D, Some (integer (pos e.d))) ∷ fields) (number e.n)
      (All-cons (λ f. IfSome f.1 P) (D, Some (integer (pos e.d))) fields (number e.d) all)

  weight-numbered : (w : Option ℕ) → IfSome (option_map (λ k. integer (pos k)) w) P
  weight-numbered None = tt
  weight-numbered (Some k) = number k

numbers-entry : (P : Data → Type 0) → ((k : ℕ) → P (integer (pos k))) → (e : Entry) (fields : List (FieldName × Option Data)) → All (λ f. IfSome f.1 P) fields
    → All (λ f. IfSome f.1 P) (with_entry e fields)
numbers-entry P number e fields all =
    numbers-plain P number e ((W, option_map (λ k. integer (pos k)) e.w) ∷ fields)
    (All-cons (λ f. IfSome f.1 P) (W, option_map (λ k. integer (pos k)) e.w) fields (weight-numbered P number e fields all e.w) all)

pub plain-simple : (e : Entry) (fields : List (FieldName × Option Data)) → AreSimple fields → AreSimple (with_plain e fields)
plain-simple = numbers-plain IsSimple (λ k. tt)

pub entry-simple : (e : Entry) (fields : List (FieldName × Option Data)) → AreSimple fields → AreSimple (with_entry e fields)
entry-simple = numbers-entry IsSimple (λ k. tt)

pub plain-flat : (e : Entry) (fields : List (FieldName × Option Data)) → AreFlat fields → AreFlat (with_plain e fields)
plain-flat = numbers-plain (λ d. depth d ≤ 80) (λ k. omega arith)

pub entry-flat : (e : Entry) (fields : List (FieldName × Option Data)) → AreFlat fields → AreFlat (with_entry e fields)
entry-flat = numbers-entry (λ d. depth d ≤ 80) (λ k. omega arith)

-- they take this room at most
pub entry-room : (e : Entry) (fields : List (FieldName × Option Data)) → fields_room (with_entry e fields) ≤ 75 + fields_room fields
entry-room e fields = at e.w
  where
    at : (w : Option ℕ) → fields_room (with_entry (record { n = e.n; d = e.d; w = w }) fields) ≤ 75 + fields_room fields
    at None = omega arith
    at (Some w) = omega arith
