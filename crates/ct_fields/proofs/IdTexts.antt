-- Ids as texts.
use Rattle.std.proofs.Common.{◌≡◌, ℕ, ◌<◌, true, ◌&&◌, ◌==◌, nat_le, length, inl, inr, List, [], ◌∷◌, Some, IsTrue, ap, subst, arith}
use Rattle.std.specs.List.{list_all}
use Rattle.std.specs.Char.{is_ascii_lowercase, is_ascii_digit}
use Rattle.std.specs.Str.{IsAscii}
use Rattle.std.proofs.lemmas.Bool.{and_parts, cases_Bool, eqb-true, leb-true}
use Rattle.std.proofs.Math.Bool.{or-false}
use Rattle.std.proofs.lemmas.Option.{cond_some}
use Rattle.std.proofs.lemmas.Str.Ascii.{IsAscii-nil, IsAscii-cons}
use Rattle.toml.specs.Data.{Data, string, integer, float, boolean, datetime, array, table}
use Rattle.ct_names.specs.declared.id.TheConstants.{MAX_ID}
use Rattle.ct_names.specs.Id.{is_id, is_id_byte}
use Rattle.ct_fields.specs.Ids.{id_in}

-- what may stand in an id is ASCII, and so is an id
id_byte-lt : (b : ℕ) → is_id_byte b ≡ true → b < 128
id_byte-lt b h =
    elim (cases_Bool (b == 95)) [
      | inl line ↦ let is = eqb-true b 95 line in omega arith
      | inr no_line ↦ elim (cases_Bool (b == 45)) [
        | inl dash ↦ let is = eqb-true b 45 dash in omega arith
        | inr no_dash ↦ elim (cases_Bool (is_ascii_lowercase b)) [
          | inl letter ↦ let below = leb-true b 122 (and_parts (nat_le 97 b) (nat_le b 122) letter).1 in omega arith
          | inr no_letter ↦
              let digit : is_ascii_digit b ≡ true = rw (no_letter, no_dash, no_line, or-false, or-false) at h in
              let below = leb-true b 57 (and_parts (nat_le 48 b) (nat_le b 57) digit).1 in omega arith
        ]
      ]
    ]

IsAscii-id_bytes : (text : List ℕ) → list_all is_id_byte text ≡ true → IsAscii text
IsAscii-id_bytes [] h = IsAscii-nil
IsAscii-id_bytes (b ∷ bs) h =
    let (first, rest) = and_parts (is_id_byte b) (list_all is_id_byte bs) h in
    IsAscii-cons b bs (id_byte-lt b first) (IsAscii-id_bytes bs rest)

pub IsAscii_id : (text : List ℕ) → IsTrue (is_id text) → IsAscii text
IsAscii_id [] h = IsAscii-nil
IsAscii_id (b ∷ bs) h =
    let (front, rest) = and_parts (nat_le (length (b ∷ bs)) MAX_ID && is_ascii_lowercase b) (list_all is_id_byte bs) h in
    let letter = (and_parts (nat_le (length (b ∷ bs)) MAX_ID) (is_ascii_lowercase b) front).1 in
    let below = leb-true b 122 (and_parts (nat_le 97 b) (nat_le b 122) letter).1 in
    IsAscii-cons b bs (omega arith) (IsAscii-id_bytes bs rest)

-- a value that is read as an id is its text
pub id_in-some : (d : Data) (id : List ℕ) → id_in d ≡ Some id → (d ≡ string id) × IsTrue (is_id id)
id_in-some (string s) id e =
    let (test, same) = cond_some (is_id s) s id e in
    (ap string same, subst (λ t. IsTrue (is_id t)) same test)
id_in-some (integer z) id e = absurd cc
id_in-some (float x) id e = absurd cc
id_in-some (boolean b) id e = absurd cc
id_in-some (datetime t) id e = absurd cc
id_in-some (array ds) id e = absurd cc
id_in-some (table ms) id e = absurd cc
