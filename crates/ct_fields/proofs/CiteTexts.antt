-- Cites as texts.
use Rattle.std.proofs.Common.{◌≡◌, ℕ, ◌≤◌, true, ◌&&◌, nat_le, length, List, [], ◌∷◌, Some, IsTrue, ap, subst, arith}
use Rattle.std.specs.List.{list_all}
use Rattle.std.specs.Str.{IsAscii}
use Rattle.std.proofs.lemmas.Bool.{and_parts, leb-true}
use Rattle.std.proofs.lemmas.Option.{cond_some}
use Rattle.std.proofs.lemmas.Str.Ascii.{IsAscii-nil, IsAscii-cons}
use Rattle.toml.specs.Data.{Data, string, integer, float, boolean, datetime, array, table}
use Rattle.ct_names.specs.declared.cite.TheConstants.{MAX_CITE}
use Rattle.ct_names.specs.Cite.{is_cite, is_cite_byte}
use Rattle.ct_fields.specs.Cites.{cite_in}

-- the bytes of a cite are printable
pub cite-printable : (text : List ℕ) → IsTrue (is_cite text) → list_all is_cite_byte text ≡ true
cite-printable text h = (and_parts (nat_le 1 (length text) && nat_le (length text) MAX_CITE) (list_all is_cite_byte text) h).1

-- and they are at most 200
pub cite-short : (text : List ℕ) → IsTrue (is_cite text) → length text ≤ MAX_CITE
cite-short text h =
    let front = (and_parts (nat_le 1 (length text) && nat_le (length text) MAX_CITE) (list_all is_cite_byte text) h).0 in
    leb-true (length text) MAX_CITE (and_parts (nat_le 1 (length text)) (nat_le (length text) MAX_CITE) front).1

-- and so ASCII
IsAscii-printable : (text : List ℕ) → list_all is_cite_byte text ≡ true → IsAscii text
IsAscii-printable [] h = IsAscii-nil
IsAscii-printable (b ∷ bs) h =
    let (first, rest) = and_parts (is_cite_byte b) (list_all is_cite_byte bs) h in
    let below = leb-true b 126 (and_parts (nat_le 32 b) (nat_le b 126) first).1 in
    IsAscii-cons b bs (omega arith) (IsAscii-printable bs rest)

pub IsAscii-cite : (text : List ℕ) → IsTrue (is_cite text) → IsAscii text
IsAscii-cite text h = IsAscii-printable text (cite-printable text h)

-- a value that is read as a cite is its text
pub cite_in-some : (d : Data) (cite : List ℕ) → cite_in d ≡ Some cite → (d ≡ string cite) × IsTrue (is_cite cite)
cite_in-some (string s) cite e =
    let (test, same) = cond_some (is_cite s) s cite e in
    (ap string same, subst (λ t. IsTrue (is_cite t)) same test)
cite_in-some (integer z) cite e = absurd cc
cite_in-some (float x) cite e = absurd cc
cite_in-some (boolean b) cite e = absurd cc
cite_in-some (datetime t) cite e = absurd cc
cite_in-some (array ds) cite e = absurd cc
cite_in-some (table ms) cite e = absurd cc
