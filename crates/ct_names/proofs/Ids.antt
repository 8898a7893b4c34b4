-- A text that is an id, in the bytes that hold it.
use Rattle.std.proofs.Common.{◌≡◌, ℕ, ◌≤◌, nat_le, ◌&&◌, List, [], ◌∷◌, ◌++◌, length, drop, IsTrue, refl, ◌∙◌, arith, length-drop}
use Rattle.std.specs.Prelude.{replicate}
use Rattle.std.specs.List.{list_all}
use Rattle.std.specs.Char.{is_ascii_lowercase}
use Rattle.std.proofs.lemmas.Bool.{and_parts, leb-true}
use Rattle.std.proofs.lemmas.List.{take_at, drop_at, drop-replicate, length-append}
use Rattle.ct_names.specs.declared.id.TheConstants.{MAX_ID}
use Rattle.ct_names.specs.Id.{is_id, is_id_byte}
use Rattle.ct_names.specs.Inside.IdBytes.{IsKept}

-- an id is at most 32 bytes long
pub is_id-short : (text : List ℕ) → IsTrue (is_id text) → length text ≤ MAX_ID
is_id-short [] named = omega arith
is_id-short (b ∷ bs) named =
    let short = and_parts (nat_le (length (b ∷ bs)) MAX_ID) (is_ascii_lowercase b) (and_parts (nat_le (length (b ∷ bs)) MAX_ID && is_ascii_lowercase b) (list_all is_id_byte bs) named).0 in
    leb-true _ _ short.0

-- the text and the zeros are 32 bytes
length-padded : (text : List ℕ) → length text ≤ MAX_ID → length (text ++ drop (length text) (replicate MAX_ID 0)) ≡ MAX_ID
length-padded text short =
    length-append text (drop (length text) (replicate MAX_ID 0)) ∙ omega (arith, short, length-drop {A = ℕ} (length text) (replicate MAX_ID 0))

-- the text, and zeros up to 32 bytes
pub kept : (text : List ℕ) → IsTrue (is_id text) → IsKept (record { bytes = text ++ drop (length text) (replicate MAX_ID 0); len = length text })
kept text named =
    record {
      short = is_id-short text named;
      long = length-padded text (is_id-short text named);
      padded = drop_at text _ (length text) refl ∙ drop-replicate (length text) MAX_ID 0;
      named = rw (take_at text (drop (length text) (replicate MAX_ID 0)) (length text) refl) named;
    }
