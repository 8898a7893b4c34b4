-- Tables of numbers, marks and words alone have a text.
use Rattle.std.proofs.Common.{◌≡◌, ℕ, zero, suc, ◌≤◌, Bool, true, false, List, [], ◌∷◌, ◌++◌, map, codes, All, refl, arith, append-nil, lit≤}
use Rattle.std.proofs.lemmas.Bool.{and_parts}
use Rattle.std.proofs.lemmas.List.Elements.{All-head, All-tail}
use Rattle.std.proofs.lemmas.Bool.Decides.{nat_tests}
use Rattle.std.specs.Prelude.{ℤ, FitsSigned, nat_lt}
use Rattle.std.specs.Int.{w64}
use Rattle.std.specs.List.{list_all}
use Rattle.std.specs.Str.{IsAscii}
use Rattle.std.specs.Fmt.{signed_decimal}
use Rattle.std.proofs.lemmas.Fmt.{IsAscii-signed}
use Rattle.std.proofs.lemmas.Str.{IsAscii-append, IsUtf8-from_ascii}
use Rattle.std.proofs.lemmas.Str.Ascii.{IsAscii-nil}
use Rattle.toml_parser.specs.Strings.{Key}
use Rattle.toml_writer.specs.Text.{key_text, string_text}
use Rattle.toml.specs.Data.{Data, string, integer, boolean, Items, no_items, item, Members, no_members, member, depth, items_depth, members_depth, is_before, is_sorted, items_are_sorted, members_are_sorted, has_valid_dates, items_have_valid_dates, members_have_valid_dates}
use Rattle.toml.specs.Parse.{parse_document}
use Rattle.toml.proofs.ReadBack.{parse_document-printed}
use Rattle.std.specs.Prelude.{Some, IsUtf8}
use Rattle.toml.specs.Text.{IsValueText, IsItemsText, IsLinesText, IsDocumentText, breaks_lines, before_item, after_item, array_end, is_section, section, sections, pairs}
use Rattle.toml.specs.View.{items_of}
use Rattle.ct_dual_files.specs.Fields.{integer_list}

-- a value that is a list of whole numbers, a whole number, a mark or a word, each of which has a text in ASCII
pub data Plain : Data → Type 0 where
  numbers : (c : List ℤ) → All (FitsSigned w64) c → Plain (integer_list c)
  number : (z : ℤ) → FitsSigned w64 z → Plain (integer z)
  mark : (b : Bool) → Plain (boolean b)
  word : (s : List ℕ) → IsAscii (string_text s) → Plain (string s)

-- members with such values, whose keys ascend
abbrev pub ArePlain : Members → Type 0
ArePlain no_members = Unit {0}
ArePlain (member k d ms) = IsAscii (key_text k) × (is_before k ms ≡ true) × Plain d × ArePlain ms

-- the text of a value
pub record HasText (d : Data) : Type 0 where
  pub text : List ℕ
  pub writes : IsValueText false d text
  pub ascii : IsAscii text
  pub no_section : is_section d ≡ false
  pub no_lines : (key : Key) → section key d ≡ []

-- the text of whole numbers after the bracket that opens their list
abbrev numbers_text : Bool → List ℤ → List ℕ
numbers_text is_first [] = array_end false
numbers_text is_first (z ∷ c) = before_item false is_first ++ (signed_decimal z ++ (after_item false ++ numbers_text false c))

numbers_written : (is_first : Bool) (c : List ℤ) → All (FitsSigned w64) c → IsItemsText false false is_first (items_of (map (λ z. integer z) c)) (numbers_text is_first c)
numbers_written is_first [] fits = refl
numbers_written is_first (z ∷ c) fits = (signed_decimal z, numbers_text false c, refl, (refl, All-head (FitsSigned w64) z c fits), numbers_written false c (All-tail (FitsSigned w64) z c fits))

-- few numbers are no tables
no_breaks : (ds : Items) → breaks_lines false ds ≡ false
no_breaks no_items = refl
no_breaks (item d no_items) = refl
no_breaks (item d (item e ds)) = refl

numbers_no_section : (c : List ℤ) → is_section (integer_list c) ≡ false
numbers_no_section [] = refl
numbers_no_section (z ∷ c) = refl

numbers_no_lines : (c : List ℤ) (key : Key) → section key (integer_list c) ≡ []
numbers_no_lines [] key = refl
numbers_no_lines (z ∷ c) key = refl

-- the bytes are below 128
pub small : (text : List ℕ) → list_all (λ b. nat_lt b 128) text ≡ true → IsAscii text
small [] h = IsAscii-nil
small (b ∷ bs) h = let parts = and_parts (nat_lt b 128) (list_all (λ b. nat_lt b 128) bs) h in IsAscii-append (b ∷ []) bs (one b parts.0) (small bs parts.1)
  where
    one : (b : ℕ) → nat_lt b 128 ≡ true → IsAscii (b ∷ [])
    one b h zero = grind (arith, nat_tests)
    one b h (suc i) = IsAscii-nil i

signed_ascii : (z : ℤ) → FitsSigned w64 z → IsAscii (signed_decimal z)
signed_ascii z fits = IsAscii-signed z (omega arith)

numbers_ascii : (is_first : Bool) (c : List ℤ) → All (FitsSigned w64) c → IsAscii (numbers_text is_first c)
numbers_ascii is_first [] fits = small (codes "]") refl
numbers_ascii true (z ∷ c) fits = IsAscii-append (signed_decimal z) (numbers_text false c) (signed_ascii z (All-head (FitsSigned w64) z c fits)) (numbers_ascii false c (All-tail (FitsSigned w64) z c fits))
numbers_ascii false (z ∷ c) fits =
    IsAscii-append (codes ", ") (signed_decimal z ++ numbers_text false c) (small (codes ", ") refl)
    (IsAscii-append (signed_decimal z) (numbers_text false c) (signed_ascii z (All-head (FitsSigned w64) z c fits)) (numbers_ascii false c (All-tail (FitsSigned w64) z c fits)))

has_text : (d : Data) → Plain d → HasText d
has_text d (numbers c fits) = record {
  text = codes "[" ++ numbers_text true c;
  writes = (numbers_text true c, refl, rw (no_breaks (items_of (map (λ z. integer z) c))) (numbers_written true c fits));
  ascii = IsAscii-append (codes "[") (numbers_text true c) (small (codes "[") refl) (numbers_ascii true c fits);
  no_section = numbers_no_section c;
  no_lines = numbers_no_lines c;
}
has_text d (number z fits) = record { text = signed_decimal z; writes = (refl, fits); ascii = signed_ascii z fits; no_section = refl; no_lines = λ key. refl }
has_text d (mark true) = record { text = codes "true"; writes = refl; ascii = small (codes "true") refl; no_section = refl; no_lines = λ key. refl }
has_text d (mark false) = record { text = codes "false"; writes = refl; ascii = small (codes "false") refl; no_section = refl; no_lines = λ key. refl }
has_text d (word s ascii) = record { text = string_text s; writes = refl; ascii = ascii; no_section = refl; no_lines = λ key. refl }

no_sections : (path : List (List ℕ)) (ms : Members) → ArePlain ms → sections path ms ≡ []
no_sections path no_members plain = refl
no_sections path (member k d ms) (ascii, order, value, plain) = rw ((has_text d value).no_lines (path, k), no_sections path ms plain) refl

-- the lines of the members
lines_written : (started : Bool) (ms : Members) → ArePlain ms → (text : List ℕ) × IsLinesText false started (pairs ms) text × IsAscii text
lines_written started no_members plain = ([], refl, IsAscii-nil)
lines_written started (member k d ms) (ascii, order, value, plain) =
    let (rest, written, small_rest) = lines_written true ms plain in
    let t = has_text d value in
    let line = key_text k ++ (codes " = " ++ (t.text ++ 10 ∷ [])) in
    rw t.no_section (
      line ++ rest,
      (line, rest, refl, (t.text, refl, t.writes), written),
      IsAscii-append line rest
          (IsAscii-append (key_text k) (codes " = " ++ (t.text ++ 10 ∷ [])) ascii
          (IsAscii-append (codes " = ") (t.text ++ 10 ∷ []) (small (codes " = ") refl)
          (IsAscii-append t.text (10 ∷ []) t.ascii (small (10 ∷ []) refl))))
          small_rest,
    )

pub document_written : (ms : Members) → ArePlain ms → (text : List ℕ) × IsDocumentText false ms text × IsAscii text
document_written ms plain =
    let (text, written, ascii) = lines_written false ms plain in
    (text, rw (no_sections [] ms plain, append-nil (pairs ms)) written, ascii)

-- numbers are not deep, have no dates and no keys
numbers_depth : (c : List ℤ) → items_depth (items_of (map (λ z. integer z) c)) ≡ 0
numbers_depth [] = refl
numbers_depth (z ∷ c) = rw (numbers_depth c) refl

numbers_dates : (c : List ℤ) → items_have_valid_dates (items_of (map (λ z. integer z) c)) ≡ true
numbers_dates [] = refl
numbers_dates (z ∷ c) = numbers_dates c

numbers_sorted : (c : List ℤ) → items_are_sorted (items_of (map (λ z. integer z) c)) ≡ true
numbers_sorted [] = refl
numbers_sorted (z ∷ c) = numbers_sorted c

plain_depth : (d : Data) → Plain d → depth d ≤ 1
plain_depth d (numbers c fits) = rw (numbers_depth c) (lit≤ tt)
plain_depth d (number z fits) = lit≤ tt
plain_depth d (mark b) = lit≤ tt
plain_depth d (word s ascii) = lit≤ tt

plain_dates : (d : Data) → Plain d → has_valid_dates d ≡ true
plain_dates d (numbers c fits) = numbers_dates c
plain_dates d (number z fits) = refl
plain_dates d (mark b) = refl
plain_dates d (word s ascii) = refl

plain_sorted : (d : Data) → Plain d → is_sorted d ≡ true
plain_sorted d (numbers c fits) = numbers_sorted c
plain_sorted d (number z fits) = refl
plain_sorted d (mark b) = refl
plain_sorted d (word s ascii) = refl

members_plain_depth : (ms : Members) → ArePlain ms → members_depth ms ≤ 1
members_plain_depth no_members plain = lit≤ tt
members_plain_depth (member k d ms) (ascii, order, value, plain) =
    let here = plain_depth d value in
    let rest = members_plain_depth ms plain in
    omega arith

members_dates : (ms : Members) → ArePlain ms → members_have_valid_dates ms ≡ true
members_dates no_members plain = refl
members_dates (member k d ms) (ascii, order, value, plain) = rw (plain_dates d value, members_dates ms plain) refl

members_sorted : (ms : Members) → ArePlain ms → members_are_sorted ms ≡ true
members_sorted no_members plain = refl
members_sorted (member k d ms) (ascii, order, value, plain) = rw (order, plain_sorted d value, members_sorted ms plain) refl

-- a plain table has a text
pub plain_text : (ms : Members) → ArePlain ms → (text : List ℕ) × IsUtf8 text × (parse_document text ≡ Some ms) × IsDocumentText false ms text
plain_text ms plain =
    let (text, written, ascii) = document_written ms plain in
    let shallow = members_plain_depth ms plain in (
      text,
      IsUtf8-from_ascii text ascii,
      parse_document-printed false ms text written (omega arith) (members_dates ms plain) (members_sorted ms plain),
      written,
    )
