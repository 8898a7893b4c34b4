-- The room that cites have in the text of a table.
use Rattle.std.proofs.Common.{◌≡◌, ℕ, ◌≤◌, Bool, true, false, cond, ◌==◌, List, [], ◌∷◌, ◌++◌, length, map, codes, pos, inl, inr, refl, sym, subst, arith, length-append}
use Rattle.std.specs.Prelude.{◌+◌, ◌*◌, All, IsTrue, sum_by}
use Rattle.std.specs.List.{list_all}
use Rattle.std.proofs.lemmas.Bool.{and_parts, cases_Bool, eqb-true}
use Rattle.std.proofs.lemmas.Bool.Decides.{nat_tests}
use Rattle.std.proofs.lemmas.List.Elements.{All-head, All-tail}
use Rattle.std.proofs.lemmas.List.Sums.{sum_by-cons}
use Rattle.toml_parser.specs.Lexical.{quote, apostrophe, backslash, line_feed}
use Rattle.toml_writer.specs.Text.{has, escape_text, needs_escape, quotes_after, escaped, encoding_of, Encoding, basic, literal, multi_basic, multi_literal, encoded, opening_newline, string_text}
use Rattle.toml_parser.specs.Strings.{Key}
use Rattle.toml.specs.Data.{string, integer, Members}
use Rattle.toml.specs.View.{items_of}
use Rattle.toml.specs.Text.{IsValueText, IsItemsText, is_section, section}
use Rattle.ct_names.specs.Cite.{is_cite, is_cite_byte}
use Rattle.ct_fields.specs.Forms.{list_data}
use Rattle.ct_fields.specs.Cites.{IsCites}
use Rattle.ct_fields.specs.Written.{put, put_cites, cites_bytes}
use Rattle.ct_fields.specs.declared.field.FieldName.TheVariants as name
use Rattle.ct_fields.proofs.CiteTexts.{cite-printable, cite-short}
use Rattle.ct_fields.proofs.TextLengths.{HasRoom, Fits, simple-room, fits-more, fits-put, no_breaks}

-- ---- one text

-- a printable byte that is no quote and no backslash stands for itself
plain_kept : (multi : Bool) (quotes c : ℕ) → is_cite_byte c ≡ true → (c == quote) ≡ false → (c == backslash) ≡ false → needs_escape multi quotes c ≡ false
unfolding needs_escape
plain_kept multi quotes c printable no_quote no_backslash = rw (no_quote, no_backslash) (grind (arith, nat_tests))

-- what is written for a byte
abbrev written : Bool → ℕ → List ℕ
written escapes c = cond escapes (escape_text c) (c ∷ [])

either_short : (escapes : Bool) (c : ℕ) → length (escape_text c) ≤ 2 → length (written escapes c) ≤ 2
either_short true c short = short
either_short false c short = omega arith

-- is at most two bytes
written_short : (multi : Bool) (quotes c : ℕ) → is_cite_byte c ≡ true → length (written (needs_escape multi quotes c) c) ≤ 2
written_short multi quotes c printable =
    elim (cases_Bool (c == quote)) [
      | inl is_quote ↦ either_short (needs_escape multi quotes c) c (rw (eqb-true c quote is_quote) (omega arith))
      | inr no_quote ↦ elim (cases_Bool (c == backslash)) [
        | inl is_backslash ↦ either_short (needs_escape multi quotes c) c (rw (eqb-true c backslash is_backslash) (omega arith))
        | inr no_backslash ↦ rw (plain_kept multi quotes c printable no_quote no_backslash) (omega arith)
      ]
    ]

-- so the content of a string has at most two bytes for each of its own
escaped_short : (multi : Bool) (quotes : ℕ) (s : List ℕ) → list_all is_cite_byte s ≡ true → length (escaped multi quotes s) ≤ 2 * length s
unfolding escaped
escaped_short multi quotes [] printable = omega arith
escaped_short multi quotes (c ∷ cs) printable =
    let (first, rest) = and_parts (is_cite_byte c) (list_all is_cite_byte cs) printable in
    let here = written_short multi quotes c first in
    let more = escaped_short multi (quotes_after multi quotes c) cs rest in
    omega (arith, length-append (written (needs_escape multi quotes c) c) (escaped multi (quotes_after multi quotes c) cs), here, more)

opening_short : (s : List ℕ) → length (opening_newline s) ≤ 1
opening_short s = at (has line_feed s)
  where
    at : (b : Bool) → length (cond b (line_feed ∷ []) []) ≤ 1
    at true = omega arith
    at false = omega arith

-- whichever way it is written
encoded_short : (form : Encoding) (s : List ℕ) → list_all is_cite_byte s ≡ true → length (encoded form s) ≤ 7 + 2 * length s
encoded_short basic s printable =
    let inside = escaped_short false 0 s printable in
    omega (arith, length-append (escaped false 0 s) (quote ∷ []), inside)
encoded_short literal s printable = omega (arith, length-append s (apostrophe ∷ []))
encoded_short multi_basic s printable =
    let inside = escaped_short true 0 s printable in
    let opening = opening_short s in
    omega (
      arith,
      length-append (opening_newline s) (escaped true 0 s ++ codes "\"\"\""),
      length-append (escaped true 0 s) (codes "\"\"\""),
      inside,
      opening,
    )
encoded_short multi_literal s printable =
    let opening = opening_short s in
    omega (arith, length-append (opening_newline s) (s ++ codes "'''"), length-append s (codes "'''"), opening)

text_short : (s : List ℕ) → list_all is_cite_byte s ≡ true → length (string_text s) ≤ 7 + 2 * length s
unfolding string_text
text_short s printable = encoded_short (encoding_of s) s printable

-- ---- the list of the texts

abbrev IsOne : List ℕ → Type 0
IsOne cite = IsTrue (is_cite cite)

abbrev sum_of : List (List ℕ) → ℕ
sum_of cites = sum_by (λ cite. 9 + 2 * length cite) cites

items_short : (is_first : Bool) (cites : List (List ℕ)) (text : List ℕ) → All IsOne cites
    → IsItemsText false false is_first (items_of (map string cites)) text → length text ≤ 1 + sum_of cites
items_short is_first [] text each is = rw is (omega arith)
items_short true (cite ∷ cites) text each (this, rest, is, writes, more) =
    let here = subst (λ (t : List ℕ). length t ≤ 7 + 2 * length cite) (sym writes) (text_short cite (cite-printable cite (All-head IsOne cite cites each))) in
    let later = items_short false cites rest (All-tail IsOne cite cites each) more in
    let all : sum_of (cite ∷ cites) ≡ 9 + 2 * length cite + sum_of cites = sum_by-cons (λ (c : List ℕ). 9 + 2 * length c) cite cites in
    rw is (omega (arith, length-append this rest, here, later, all))
items_short false (cite ∷ cites) text each (this, rest, is, writes, more) =
    let here = subst (λ (t : List ℕ). length t ≤ 7 + 2 * length cite) (sym writes) (text_short cite (cite-printable cite (All-head IsOne cite cites each))) in
    let later = items_short false cites rest (All-tail IsOne cite cites each) more in
    let all : sum_of (cite ∷ cites) ≡ 9 + 2 * length cite + sum_of cites = sum_by-cons (λ (c : List ℕ). 9 + 2 * length c) cite cites in
    rw is (omega (arith, length-append this rest, here, later, all))

no_table : (cites : List (List ℕ)) → is_section (list_data string cites) ≡ false
no_table [] = refl
no_table (cite ∷ cites) = refl

no_section : (key : Key) (cites : List (List ℕ)) → section key (list_data string cites) ≡ []
no_section key [] = refl
no_section key (cite ∷ cites) = refl

cites-room : (cites : List (List ℕ)) → All IsOne cites → HasRoom (list_data string cites) (2 + sum_of cites)
cites-room cites each = record {
  no_table = no_table cites;
  no_section = λ key. no_section key cites;
  short = at;
} where
  at : (text : List ℕ) → IsValueText false (list_data string cites) text → length text ≤ 2 + sum_of cites
  at text (rest, is, writes) =
      let inside = items_short true cites rest each (rw (no_breaks (items_of (map string cites))) at writes) in
      rw is (omega (arith, inside))

-- a table with cites has so much more room
pub fits-cited : (cites : List (List ℕ)) (ms : Members) (b : ℕ) → IsCites cites → Fits ms b → Fits (put_cites cites ms) (b + cites_bytes cites)
fits-cited [] ms b right fits = fits-more ms b (b + 0) fits (omega arith)
fits-cited (cite ∷ cites) ms b right fits =
    let with_format = fits-put (codes "format") (integer (pos 2)) ms 20 b (omega arith) refl (simple-room (integer (pos 2)) tt) fits in
    fits-more (put_cites (cite ∷ cites) ms) _ (b + cites_bytes (cite ∷ cites))
    (fits-put (codes "cites") (list_data string (cite ∷ cites)) (put name.Format (integer (pos 2)) ms) (2 + sum_of (cite ∷ cites)) _ (omega arith) refl
    (cites-room (cite ∷ cites) right.each) with_format)
    (omega arith)

-- what cites add is little
sum-few : (cites : List (List ℕ)) → All IsOne cites → sum_of cites ≤ 409 * length cites
sum-few [] each = omega arith
sum-few (cite ∷ cites) each =
    let here = cite-short cite (All-head IsOne cite cites each) in
    let rest = sum-few cites (All-tail IsOne cite cites each) in
    let all : sum_of (cite ∷ cites) ≡ 9 + 2 * length cite + sum_of cites = sum_by-cons (λ (c : List ℕ). 9 + 2 * length c) cite cites in
    omega (arith, here, rest, all)

pub cites_bytes-few : (cites : List (List ℕ)) → IsCites cites → cites_bytes cites ≤ 8192
cites_bytes-few [] right = omega arith
cites_bytes-few (cite ∷ cites) right =
    let sum = sum-few (cite ∷ cites) right.each in
    let few = right.few in
    omega (arith, sum, few)
