-- Words that spaces join are the words of their line again.
use Rattle.std.proofs.Common.{◌≡◌, ◌≢◌, ℕ, ◌+◌, ◌-◌, ◌%◌, ◌^◌, ◌<◌, Bool, true, false, cond, not, ◌&&◌, nat_le, nat_lt, List, [], ◌∷◌, ◌++◌, map, length, take, get_or, refl, ap, ◌∙◌, eqb, append-nil, arith}
use Rattle.std.specs.Prelude.{All, filter}
use Rattle.std.specs.List.{slice_split, list_all}
use Rattle.std.specs.Char.{is_ascii_lowercase}
use Rattle.std.specs.Fmt.{decimal}
use Rattle.std.specs.Str.Lines.{strip_carriage_return}
use Rattle.std.proofs.lemmas.Bool.{ne_eqb, and_parts}
use Rattle.std.proofs.lemmas.Bool.Decides.{nat_tests}
use Rattle.std.proofs.lemmas.Fmt.{decimal_by_steps, decimal_nonempty}
use Rattle.std.proofs.lemmas.List.Elements.{All-append, All-cons, All-head, All-tail, All-nil, All-push, All-weaker, All-get_or}
use Rattle.std.proofs.lemmas.List.Splits.{slice_split_none, slice_split_at}
use Rattle.std.proofs.lemmas.List.Sums.{AllPass-from_list_all}
use Rattle.ct_text.specs.declared.document_lines.TheConstants.{LINE_FEED}
use Rattle.ct_io.specs.Lines.{IsLine}
use Rattle.ct_names.specs.Id.{is_id, is_id_byte}
use Rattle.ct_text.specs.Line.{words_of}
use Rattle.ct_names.specs.declared.id.TheConstants.{MAX_ID}

-- the bytes come after the space (32)
abbrev AreVisible : List ℕ → Type 0
AreVisible bytes = All (λ b. 32 < b) bytes

-- the bytes come after the control characters
abbrev ArePrinted : List ℕ → Type 0
ArePrinted bytes = All (λ b. 31 < b) bytes

-- a word: some bytes, each after the space
abbrev pub IsWord : List ℕ → Type 0
IsWord word = AreVisible word × (0 < length word)

abbrev pub AreWords : List (List ℕ) → Type 0
AreWords [] = Unit {0}
AreWords (word ∷ words) = IsWord word × AreWords words

-- words, each after a space
abbrev pub spaced_words : List (List ℕ) → List ℕ
spaced_words [] = []
spaced_words (word ∷ words) = (32 ∷ word) ++ spaced_words words

pub AreWords-append : (words more : List (List ℕ)) → AreWords words → AreWords more → AreWords (words ++ more)
AreWords-append [] more h k = k
AreWords-append (word ∷ words) more h k = (h.0, AreWords-append words more h.1 k)

-- known bytes are seen to be a word
visible : (b : ℕ) → nat_lt 32 b ≡ true → 32 < b
visible b h = grind (arith, nat_tests)

pub known_word : (word : List ℕ) → (list_all (λ b. nat_lt 32 b) word && nat_lt 0 (length word)) ≡ true → IsWord word
known_word word h =
    let both = and_parts (list_all (λ b. nat_lt 32 b) word) (nat_lt 0 (length word)) h in (
      All-weaker (λ b. nat_lt 32 b ≡ true) (λ b. 32 < b) visible word (AllPass-from_list_all (λ b. nat_lt 32 b) word both.0),
      some (length word) both.1,
    )
  where
    some : (n : ℕ) → nat_lt 0 n ≡ true → 0 < n
    some n k = grind (arith, nat_tests)

-- the digits of a number are a word
pub decimal_word : (n : ℕ) → n < 2 ^ 64 → IsWord (decimal n)
decimal_word n small = (
  decimal_by_steps (λ (m : ℕ) (ds : List ℕ). AreVisible ds) (λ m below. All-cons (λ b. 32 < b) (48 + m) [] (omega arith) (All-nil (λ b. 32 < b)))
      (λ m ds above h. All-push (λ b. 32 < b) ds (48 + m % 10) h (omega arith)) n small,
  decimal_nonempty n small,
)

pub decimal_words : (ns : List ℕ) → All (λ n. n < 2 ^ 64) ns → AreWords (map decimal ns)
decimal_words [] h = tt
decimal_words (n ∷ ns) h = (decimal_word n (All-head (λ m. m < 2 ^ 64) n ns h), decimal_words ns (All-tail (λ m. m < 2 ^ 64) n ns h))

visible_byte : (b : ℕ) → is_id_byte b ≡ true → 32 < b
visible_byte b h = grind (arith, nat_tests)

-- an id is a word
pub id_is_word : (id : List ℕ) → is_id id ≡ true → IsWord id
id_is_word [] h = absurd cc
id_is_word (b ∷ bs) h =
    let parts = and_parts (nat_le (length (b ∷ bs)) MAX_ID && is_ascii_lowercase b) (list_all is_id_byte bs) h in
    let first = (and_parts (nat_le (length (b ∷ bs)) MAX_ID) (is_ascii_lowercase b) parts.0).1 in (
      All-cons (λ c. 32 < c) b bs (lower b first) (All-weaker (λ c. is_id_byte c ≡ true) (λ c. 32 < c) visible_byte bs (AllPass-from_list_all is_id_byte bs parts.1)),
      omega arith,
    )
  where
    lower : (c : ℕ) → is_ascii_lowercase c ≡ true → 32 < c
    lower c k = grind (arith, nat_tests)

printed : (bytes : List ℕ) → AreVisible bytes → ArePrinted bytes
printed bytes h = All-weaker (λ b. 32 < b) (λ b. 31 < b) (λ b k. omega arith) bytes h

printed_words : (words : List (List ℕ)) → AreWords words → ArePrinted (spaced_words words)
printed_words [] h = All-nil (λ b. 31 < b)
printed_words (word ∷ words) h =
    All-append (λ b. 31 < b) (32 ∷ word) (spaced_words words) (All-cons (λ b. 31 < b) 32 word (omega arith) (printed word h.0.0)) (printed_words words h.1)

printed_line : (word : List ℕ) (words : List (List ℕ)) → IsWord word → AreWords words → ArePrinted (word ++ spaced_words words)
printed_line word words h k = All-append (λ b. 31 < b) word (spaced_words words) (printed word h.0) (printed_words words k)

-- there is no line feed in words and spaces
pub IsLine-words : (word : List ℕ) (words : List (List ℕ)) → IsWord word → AreWords words → IsLine (word ++ spaced_words words)
IsLine-words word words h k =
    All-weaker (λ b. 31 < b) (λ b. b ≢ LINE_FEED) (λ b later e. absurd (omega arith)) (word ++ spaced_words words) (printed_line word words h k)

-- printed bytes have no carriage return (13) at their end
not_stripped : (bytes : List ℕ) → ArePrinted bytes → 0 < length bytes → strip_carriage_return bytes ≡ bytes
not_stripped bytes h some =
    let last = All-get_or (λ b. 31 < b) bytes (length bytes - 1) 0 (omega arith) h in
    ap (λ (t : Bool). cond t (take (length bytes - 1) bytes) bytes) (ne_eqb (get_or bytes (length bytes - 1) 0) 13 (λ e. absurd (omega (arith, last))))

-- the test that parts the words of a line, and the one that drops empty parts
abbrev is_space : ℕ → Bool
is_space b = eqb b 32

no_space : (bytes : List ℕ) → AreVisible bytes → All (λ b. is_space b ≡ false) bytes
no_space bytes h = All-weaker (λ b. 32 < b) (λ b. is_space b ≡ false) (λ b k. ne_eqb b 32 (λ e. absurd (omega arith))) bytes h

abbrev is_filled : List ℕ → Bool
is_filled word = not (eqb (length word) 0)

parted : (word : List ℕ) (words : List (List ℕ)) → IsWord word → AreWords words → slice_split is_space (word ++ spaced_words words) ≡ word ∷ words
parted word [] h k = ap (slice_split is_space) (append-nil word) ∙ slice_split_none is_space word (no_space word h.0)
parted word (next ∷ words) h k =
    slice_split_at is_space word 32 (next ++ spaced_words words) (no_space word h.0) refl ∙ ap (λ parts. word ∷ parts) (parted next words k.0 k.1)

kept : (words : List (List ℕ)) → AreWords words → filter is_filled words ≡ words
kept [] h = refl
kept (word ∷ words) h =
    let some = h.0.1 in
    ap (λ (t : Bool). cond (not t) (word ∷ filter is_filled words) (filter is_filled words)) (ne_eqb (length word) 0 (λ e. absurd (omega (arith, some, e))))
    ∙ ap (λ ws. word ∷ ws) (kept words h.1)

filled_line : (word more : List ℕ) → 0 < length word → 0 < length (word ++ more)
filled_line [] more some = absurd (omega arith)
filled_line (b ∷ word) more some = omega arith

-- the words of a line that they make up
pub words_again : (word : List ℕ) (words : List (List ℕ)) → IsWord word → AreWords words → words_of (word ++ spaced_words words) ≡ word ∷ words
unfolding words_of
words_again word words h k =
    ap (λ l. filter is_filled (slice_split is_space l)) (not_stripped (word ++ spaced_words words) (printed_line word words h k) (filled_line word (spaced_words words) h.1))
    ∙ ap (filter is_filled) (parted word words h k)
    ∙ kept (word ∷ words) (h, k)
