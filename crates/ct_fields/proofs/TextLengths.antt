-- The text of a table with simple values has no more bytes than there is room for.
use Rattle.std.proofs.Common.{◌≡◌, ℕ, ◌<◌, ◌≤◌, Bool, true, false, nat_lt, ◌==◌, List, [], ◌∷◌, ◌++◌, length, codes, Ordering, Less, Equal, Greater, nat_cmp, refl, ap, arith, append-nil, length-append}
use Rattle.std.specs.Prelude.{◌+◌, FitsSigned, pos, negsuc}
use Rattle.std.specs.Int.{w64}
use Rattle.std.specs.List.{list_all, list_any}
use Rattle.std.specs.Fmt.{signed_decimal}
use Rattle.std.specs.Cmp.Lexicographic.{slice_cmp}
use Rattle.std.specs.Ordering.{match_ordering}
use Rattle.std.proofs.lemmas.Bool.{and_parts}
use Rattle.std.proofs.lemmas.Bool.Decides.{nat_tests}
use Rattle.std.proofs.lemmas.Int.{ints}
use Rattle.std.proofs.lemmas.Fmt.{length_signed_le}
use Rattle.toml_parser.specs.Lexical.{is_bare, quote, backslash, line_feed}
use Rattle.toml_parser.specs.Strings.{Key}
use Rattle.toml_writer.specs.Text.{is_control, needs_escape, quotes_after, escaped, encoding_of, basic, string_text, key_text, dotted_text}
use Rattle.toml.specs.Tables.{key_value}
use Rattle.toml.specs.Data.{Data, string, integer, float, boolean, datetime, array, table, Items, no_items, item, Members, no_members, member}
use Rattle.toml.specs.Text.{IsValueText, IsItemsText, IsLinesText, IsDocumentText, breaks_lines, is_section, section, sections, pairs}
use Rattle.ct_fields.specs.Written.{set_member}
use Rattle.ct_fields.specs.Inside.Room.{IsBare, IsSimple, AreSimple, IsSimpleTable, room, items_room, table_room}

-- ---- texts

-- a bare byte is no control character, stands for itself, and is no quote
bare_control : (c : ℕ) → is_bare c ≡ true → is_control c ≡ false
bare_control c h = grind (arith, nat_tests)

bare_backslash : (c : ℕ) → is_bare c ≡ true → (c == backslash) ≡ false
bare_backslash c h = grind (arith, nat_tests)

bare_quote : (c : ℕ) → is_bare c ≡ true → (c == quote) ≡ false
bare_quote c h = grind (arith, nat_tests)

bare_line : (c : ℕ) → is_bare c ≡ true → (c == line_feed) ≡ false
bare_line c h = grind (arith, nat_tests)

bare_kept : (c : ℕ) → is_bare c ≡ true → needs_escape false 0 c ≡ false
unfolding needs_escape
bare_kept c h = grind (arith, nat_tests)

bare_no_quotes : (c : ℕ) → is_bare c ≡ true → quotes_after false 0 c ≡ 0
unfolding quotes_after
bare_no_quotes c h = rw (bare_quote c h) refl

-- what no bare byte passes, none of a bare text does
none_passes : (test : ℕ → Bool) → ((c : ℕ) → is_bare c ≡ true → test c ≡ false) → (s : List ℕ) → list_all is_bare s ≡ true → list_any test s ≡ false
none_passes test none [] h = refl
none_passes test none (c ∷ cs) h =
    let (first, rest) = and_parts (is_bare c) (list_all is_bare cs) h in
    rw (none c first, none_passes test none cs rest) refl

-- a bare text is written between quotes as it is
escaped-bare : (s : List ℕ) → list_all is_bare s ≡ true → escaped false 0 s ≡ s
unfolding escaped
escaped-bare [] h = refl
escaped-bare (c ∷ cs) h =
    let (first, rest) = and_parts (is_bare c) (list_all is_bare cs) h in
    rw (bare_kept c first, bare_no_quotes c first) (ap (λ (t : List ℕ). c ∷ t) (escaped-bare cs rest))

encoding_of-bare : (s : List ℕ) → list_all is_bare s ≡ true → encoding_of s ≡ basic
unfolding encoding_of
encoding_of-bare s h =
    rw (
      none_passes is_control bare_control s h,
      none_passes (λ x. x == backslash) bare_backslash s h,
      none_passes (λ x. x == quote) bare_quote s h,
      none_passes (λ x. x == line_feed) bare_line s h,
    ) refl

pub string_text-bare : (s : List ℕ) → IsBare s → string_text s ≡ quote ∷ s ++ quote ∷ []
unfolding string_text
string_text-bare s h = rw (encoding_of-bare s h, escaped-bare s h) refl

key_text-bare : (k : List ℕ) → 0 < length k → IsBare k → key_text k ≡ k
unfolding key_text
key_text-bare [] some h = absurd (omega arith)
key_text-bare (c ∷ cs) some h = let test : nat_lt 0 (length (c ∷ cs)) ≡ true = grind (arith, nat_tests) in rw (test, h) refl

-- ---- values

number_length : (k : ℕ) → FitsSigned w64 (pos k) → length (signed_decimal (pos k)) ≤ 20
number_length k fits = length_signed_le 19 (pos k) (omega (arith, ints)) (omega (arith, ints))

-- few values are no lines
pub no_breaks : (ds : Items) → breaks_lines false ds ≡ false
no_breaks no_items = refl
no_breaks (item d no_items) = refl
no_breaks (item d (item e ds)) = refl

mutual
  value_length : (d : Data) (text : List ℕ) → IsSimple d → IsValueText false d text → length text ≤ room d
  value_length (string s) text simple is = rw (is, string_text-bare s simple) (omega (arith, length-append s (quote ∷ [])))
  value_length (integer (pos k)) text simple (is, fits) = rw is (number_length k fits)
  value_length (integer (negsuc k)) text simple written = absurd simple
  value_length (float x) text simple written = absurd simple
  value_length (boolean true) text simple is = rw is (omega arith)
  value_length (boolean false) text simple is = rw is (omega arith)
  value_length (datetime t) text simple written = absurd simple
  value_length (array ds) text simple (rest, is, written) =
      let short = items_length true ds rest simple (rw (no_breaks ds) at written) in
      rw is (omega (arith, short))
  value_length (table ms) text simple written = absurd simple

  items_length : (is_first : Bool) (ds : Items) (text : List ℕ) → AreSimple ds → IsItemsText false false is_first ds text → length text ≤ 1 + items_room ds
  items_length is_first no_items text simple is = rw is (omega arith)
  items_length true (item d ds) text (simple, all) (this, rest, is, written, more) =
      let here = value_length d this simple written in
      let later = items_length false ds rest all more in
      rw is (omega (arith, length-append this rest, here, later))
  items_length false (item d ds) text (simple, all) (this, rest, is, written, more) =
      let here = value_length d this simple written in
      let later = items_length false ds rest all more in
      rw is (omega (arith, length-append this rest, here, later))

-- simple values are no tables
no_section : (d : Data) → IsSimple d → is_section d ≡ false
no_section (string s) simple = refl
no_section (integer z) simple = refl
no_section (float x) simple = refl
no_section (boolean b) simple = refl
no_section (datetime t) simple = refl
no_section (array no_items) simple = refl
no_section (array (item (table ms) ds)) simple = absurd simple.0
no_section (array (item (string s) ds)) simple = refl
no_section (array (item (integer z) ds)) simple = refl
no_section (array (item (float x) ds)) simple = refl
no_section (array (item (boolean b) ds)) simple = refl
no_section (array (item (datetime t) ds)) simple = refl
no_section (array (item (array es) ds)) simple = refl
no_section (table ms) simple = absurd simple

no_lines : (key : Key) (d : Data) → IsSimple d → section key d ≡ []
no_lines key (string s) simple = refl
no_lines key (integer z) simple = refl
no_lines key (float x) simple = refl
no_lines key (boolean b) simple = refl
no_lines key (datetime t) simple = refl
no_lines key (array no_items) simple = refl
no_lines key (array (item (table ms) ds)) simple = absurd simple.0
no_lines key (array (item (string s) ds)) simple = refl
no_lines key (array (item (integer z) ds)) simple = refl
no_lines key (array (item (float x) ds)) simple = refl
no_lines key (array (item (boolean b) ds)) simple = refl
no_lines key (array (item (datetime t) ds)) simple = refl
no_lines key (array (item (array es) ds)) simple = refl
no_lines key (table ms) simple = absurd simple

-- ---- tables

-- a value is no table, and its text has so many bytes at most
pub record HasRoom (d : Data) (r : ℕ) : Type 0 where
  pub no_table : is_section d ≡ false
  pub no_section : (key : Key) → section key d ≡ []
  pub short : (text : List ℕ) → IsValueText false d text → length text ≤ r

-- so it is with a simple value
pub simple-room : (d : Data) → IsSimple d → HasRoom d (room d)
simple-room d simple = record {
  no_table = no_section d simple;
  no_section = λ key. no_lines key d simple;
  short = λ text written. value_length d text simple written;
}

-- the keys of a table are bare, its values are no tables, and its text has so many bytes at most
abbrev pub Fits : Members → ℕ → Type 0
Fits no_members b = Unit {0}
Fits (member k d ms) b =
    (r : ℕ) × (a : ℕ) × (0 < length k) × IsBare k × HasRoom d r × Fits ms a × (length k + 4 + r + a ≤ b)

-- so it is with a simple table
pub simple-fits : (ms : Members) → IsSimpleTable ms → Fits ms (table_room ms)
simple-fits no_members simple = tt
simple-fits (member k d ms) (some, bare, simple, all) =
    (room d, table_room ms, some, bare, simple-room d simple, simple-fits ms all, omega arith)

-- more room is enough too
pub fits-more : (ms : Members) (a b : ℕ) → Fits ms a → a ≤ b → Fits ms b
fits-more no_members a b fits more = tt
fits-more (member k d ms) a b (r, c, some, bare, has, rest, within) more = (r, c, some, bare, has, rest, omega (arith, within, more))

-- what is put at a key takes its own room
pub fits-put : (k : List ℕ) (d : Data) (ms : Members) (r b : ℕ) → 0 < length k → IsBare k → HasRoom d r → Fits ms b
    → Fits (set_member k d ms) (length k + 4 + r + b)
fits-put k d no_members r b some bare has fits = (r, 0, some, bare, has, tt, omega arith)
fits-put k d (member l e ms) r b some bare has (s, a, is_some, is_bare, other, rest, within) =
    at (slice_cmp nat_cmp k l) (fits-put k d ms r a some bare has rest)
  where
    at : (o : Ordering) → Fits (set_member k d ms) (length k + 4 + r + a)
        → Fits (match_ordering o (member k d (member l e ms)) (member l d ms) (member l e (set_member k d ms))) (length k + 4 + r + b)
    at Less more = (r, b, some, bare, has, (s, a, is_some, is_bare, other, rest, within), omega arith)
    at Equal more = (r, a, is_some, is_bare, has, rest, omega (arith, within))
    at Greater more = (s, length k + 4 + r + a, is_some, is_bare, other, more, omega (arith, within))

no_sections : (path : List (List ℕ)) (ms : Members) (b : ℕ) → Fits ms b → sections path ms ≡ []
no_sections path no_members b fits = refl
no_sections path (member k d ms) b (r, a, some, bare, has, rest, within) = rw (has.no_section (path, k), no_sections path ms a rest) refl

-- the bytes of a line, and of what follows it
line_length : (k value rest : List ℕ) → length ((k ++ (codes " = " ++ (value ++ 10 ∷ []))) ++ rest) ≡ (length k + (4 + length value)) + length rest
line_length k value rest =
    rw (
      length-append (k ++ (codes " = " ++ (value ++ 10 ∷ []))) rest,
      length-append k (codes " = " ++ (value ++ 10 ∷ [])),
      length-append value (10 ∷ []),
    ) (omega arith)

lines_length : (started : Bool) (ms : Members) (b : ℕ) (text : List ℕ) → Fits ms b → IsLinesText false started (pairs ms) text → length text ≤ b
lines_length started no_members b text fits is = rw is (omega arith)
lines_length started (member k d ms) b text (r, a, some, bare, has, fits, within) written =
    at (λ rest more. lines_length true ms a rest fits more) (rw has.no_table at written)
  where
    at : ((rest : List ℕ) → IsLinesText false true (pairs ms) rest → length rest ≤ a)
        → IsLinesText false started ((([], k), key_value d) ∷ pairs ms) text → length text ≤ b
    at later (this, rest, is, (value, line, writes), more) =
        let here = has.short value writes in
        let after = later rest more in
        let same : dotted_text ([], k) ≡ k = key_text-bare k some bare in
        rw (is, line, same, line_length k value rest) (omega (arith, here, after, within))

-- the text of a table that fits has no more bytes than that
pub fitting_length : (ms : Members) (b : ℕ) (text : List ℕ) → Fits ms b → IsDocumentText false ms text → length text ≤ b
fitting_length ms b text fits written = lines_length false ms b text fits (rw (no_sections [] ms b fits, append-nil (pairs ms)) at written)

-- the text of a simple table has no more bytes than there is room for
pub document_length : (ms : Members) (text : List ℕ) → IsSimpleTable ms → IsDocumentText false ms text → length text ≤ table_room ms
document_length ms text simple written = fitting_length ms (table_room ms) text (simple-fits ms simple) written
