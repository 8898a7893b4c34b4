-- Simple tables: what is put at their keys, and the room that there is for it.
use Rattle.std.proofs.Common.{◌≡◌, ℕ, ◌<◌, ◌≤◌, Bool, true, ◌&&◌, nat_le, List, [], ◌∷◌, map, length, Ordering, Less, Equal, Greater, nat_cmp, refl, arith}
use Rattle.std.specs.Prelude.{◌+◌, ◌*◌, IsTrue, All}
use Rattle.std.proofs.lemmas.List.Elements.{All-head, All-tail}
use Rattle.std.specs.Char.{is_ascii_lowercase}
use Rattle.std.specs.List.{list_all}
use Rattle.std.specs.Cmp.Lexicographic.{slice_cmp}
use Rattle.std.specs.Ordering.{match_ordering}
use Rattle.std.proofs.lemmas.Bool.{and_parts, and_from, leb-true}
use Rattle.std.proofs.lemmas.Bool.Decides.{nat_tests}
use Rattle.toml_parser.specs.Lexical.{is_bare}
use Rattle.toml.specs.Data.{Data, Members, no_members, member}
use Rattle.ct_words.specs.Text.{word_text, is_binary_digit}
use Rattle.ct_words.proofs.TextLemmas.{length-word_text, digits-word_text}
use Rattle.ct_names.specs.Id.{is_id, is_id_byte}
use Rattle.ct_names.specs.declared.id.TheConstants.{MAX_ID}
use Rattle.ct_fields.specs.Written.{word_texts, set_member}
use Rattle.ct_fields.specs.Inside.Room.{IsBare, IsSimple, IsSimpleTable, room, table_room}

-- the table is simple, and its text has so many bytes at most
pub record Holds (ms : Members) (b : ℕ) : Type 0 where
  pub simple : IsSimpleTable ms
  pub small : table_room ms ≤ b

simple-put : (k : List ℕ) (d : Data) (ms : Members) → 0 < length k → IsBare k → IsSimple d → IsSimpleTable ms → IsSimpleTable (set_member k d ms)
simple-put k d no_members some bare here all = (some, bare, here, tt)
simple-put k d (member l e ms) some bare here (other, others, there, rest) = at (slice_cmp nat_cmp k l) (simple-put k d ms some bare here rest) where
  at : (o : Ordering) → IsSimpleTable (set_member k d ms)
      → IsSimpleTable (match_ordering o (member k d (member l e ms)) (member l d ms) (member l e (set_member k d ms)))
  at Less more = (some, bare, here, (other, others, there, rest))
  at Equal more = (other, others, here, rest)
  at Greater more = (other, others, there, more)

room-put : (k : List ℕ) (d : Data) (ms : Members) → table_room (set_member k d ms) ≤ length k + 4 + room d + table_room ms
room-put k d no_members = omega arith
room-put k d (member l e ms) = at (slice_cmp nat_cmp k l) (room-put k d ms) where
  at : (o : Ordering) → table_room (set_member k d ms) ≤ length k + 4 + room d + table_room ms
      → table_room (match_ordering o (member k d (member l e ms)) (member l d ms) (member l e (set_member k d ms))) ≤ length k + 4 + room d + table_room (member l e ms)
  at Less more = omega arith
  at Equal more = omega arith
  at Greater more = omega (arith, more)

-- a simple value at a bare key
pub holds-put : (k : List ℕ) (d : Data) (ms : Members) (a r b : ℕ) → 0 < length k → length k ≤ a → IsBare k → IsSimple d → room d ≤ r → Holds ms b
    → Holds (set_member k d ms) (a + 4 + r + b)
holds-put k d ms a r b some short bare simple small h = record {
  simple = simple-put k d ms some bare simple h.simple;
  small = let more = room-put k d ms in let all = h.small in omega (arith, more, all, short, small);
}

-- more room than that
pub holds-more : (ms : Members) (a b : ℕ) → Holds ms a → a ≤ b → Holds ms b
holds-more ms a b h more = record { simple = h.simple; small = let all = h.small in omega (arith, all, more) }

-- ---- values

-- what passes a test that bare bytes alone pass is bare
bare-of : (test : ℕ → Bool) → ((c : ℕ) → test c ≡ true → is_bare c ≡ true) → (s : List ℕ) → list_all test s ≡ true → IsBare s
bare-of test bare [] h = refl
bare-of test bare (c ∷ cs) h =
    let (first, rest) = and_parts (test c) (list_all test cs) h in
    and_from (is_bare c) (list_all is_bare cs) (bare c first) (bare-of test bare cs rest)

digit-bare : (c : ℕ) → is_binary_digit c ≡ true → is_bare c ≡ true
digit-bare c h = grind (arith, nat_tests)

-- digits are bare
pub digits-bare : (s : List ℕ) → list_all is_binary_digit s ≡ true → IsBare s
digits-bare s h = bare-of is_binary_digit digit-bare s h

character-bare : (a : ℕ) → a < 2 → is_bare (48 + a) ≡ true
character-bare a small = grind (arith, nat_tests)

pub characters-bare : (digits : List ℕ) → All (λ a. a < 2) digits → IsBare (map (λ a. 48 + a) digits)
characters-bare [] small = refl
characters-bare (a ∷ digits) small =
    and_from (is_bare (48 + a)) (list_all is_bare (map (λ b. 48 + b) digits)) (character-bare a (All-head (λ b. b < 2) a digits small))
    (characters-bare digits (All-tail (λ b. b < 2) a digits small))

-- a word's text
pub word_text-simple : (n x : ℕ) → IsBare (word_text n x)
word_text-simple n x = digits-bare (word_text n x) (digits-word_text n x)

pub words-simple : (n : ℕ) (words : List ℕ) → IsSimple (word_texts n words)
words-simple n [] = tt
words-simple n (x ∷ xs) = (word_text-simple n x, words-simple n xs)

pub words-room : (n : ℕ) (words : List ℕ) → room (word_texts n words) ≡ 2 + (n + 4) * length words
words-room n [] = omega arith
words-room n (x ∷ xs) = let rest = words-room n xs in omega (arith, length-word_text n x, rest)

-- an id
id_byte-bare : (c : ℕ) → is_id_byte c ≡ true → is_bare c ≡ true
id_byte-bare c h = grind (arith, nat_tests)

letter-bare : (c : ℕ) → is_ascii_lowercase c ≡ true → is_bare c ≡ true
letter-bare c h = grind (arith, nat_tests)

-- what an id is
id-parts : (c : ℕ) (cs : List ℕ) → IsTrue (is_id (c ∷ cs)) → (length (c ∷ cs) ≤ MAX_ID) × (is_ascii_lowercase c ≡ true) × (list_all is_id_byte cs ≡ true)
id-parts c cs h =
    let (front, rest) = and_parts (nat_le (length (c ∷ cs)) MAX_ID && is_ascii_lowercase c) (list_all is_id_byte cs) h in
    let (short, letter) = and_parts (nat_le (length (c ∷ cs)) MAX_ID) (is_ascii_lowercase c) front in
    (leb-true (length (c ∷ cs)) MAX_ID short, letter, rest)

pub id-bare : (id : List ℕ) → IsTrue (is_id id) → IsBare id
id-bare [] h = refl
id-bare (c ∷ cs) h =
    let (short, letter, rest) = id-parts c cs h in
    and_from (is_bare c) (list_all is_bare cs) (letter-bare c letter) (bare-of is_id_byte id_byte-bare cs rest)

pub id-short : (id : List ℕ) → IsTrue (is_id id) → length id ≤ 32
id-short [] h = omega arith
id-short (c ∷ cs) h = (id-parts c cs h).0
