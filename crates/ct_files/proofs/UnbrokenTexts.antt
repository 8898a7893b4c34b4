-- Texts without a line feed.
use Rattle.std.proofs.Common.{◌≡◌, ◌≢◌, ℕ, ℤ, pos, negsuc, zero, suc, ◌+◌, ◌/◌, ◌%◌, true, false, not, ◌&&◌, ◌==◌, nat_le, nat_lt, List, [], ◌∷◌, ◌++◌, length, IsTrue, arith}
use Rattle.std.specs.Prelude.{All}
use Rattle.std.specs.List.{list_all}
use Rattle.std.specs.Char.{is_ascii_lowercase}
use Rattle.std.specs.Fmt.{digit_glyph, digits_onto, digits, decimal, signed_decimal}
use Rattle.std.proofs.lemmas.Bool.{and_parts, cond_both}
use Rattle.std.proofs.lemmas.Bool.Decides.{nat_tests}
use Rattle.std.proofs.lemmas.List.Elements.{All-nil, All-cons, All-append, All-weaker}
use Rattle.std.proofs.lemmas.List.Sums.{AllPass-from_list_all}
use Rattle.ct_names.specs.declared.id.TheConstants.{MAX_ID}
use Rattle.ct_names.specs.Id.{is_id, is_id_byte}
use Rattle.ct_text.specs.Number.{spaced}
use Rattle.ct_text.specs.declared.document_lines.TheConstants.{LINE_FEED}
use Rattle.ct_dual_files.specs.DualFaultText.{spaced_integer}

-- none of the bytes is a line feed
pub record IsUnbroken (text : List ℕ) : Type 0 where
  pub bytes : All (λ b. b ≢ LINE_FEED) text

pub nothing : IsUnbroken []
nothing = record { bytes = All-nil (λ b. b ≢ LINE_FEED) }

pub led : {text : List ℕ} (b : ℕ) → b ≢ LINE_FEED → IsUnbroken text → IsUnbroken (b ∷ text)
led {text} b other h = record { bytes = All-cons (λ b. b ≢ LINE_FEED) b text other h.bytes }

pub joined : {text more : List ℕ} → IsUnbroken text → IsUnbroken more → IsUnbroken (text ++ more)
joined {text} {more} h k = record { bytes = All-append (λ b. b ≢ LINE_FEED) text more h.bytes k.bytes }

-- known bytes are seen to have none
no_feed : (b : ℕ) → not (b == LINE_FEED) ≡ true → b ≢ LINE_FEED
no_feed b h = grind (arith, nat_tests)

pub literal : (text : List ℕ) → list_all (λ b. not (b == LINE_FEED)) text ≡ true → IsUnbroken text
literal text h = record {
  bytes = All-weaker (λ b. not (b == LINE_FEED) ≡ true) (λ b. b ≢ LINE_FEED) no_feed text (AllPass-from_list_all (λ b. not (b == LINE_FEED)) text h);
}

-- ---- numbers

glyph : (d : ℕ) → digit_glyph false d ≢ LINE_FEED
glyph d = cond_both (nat_lt d 10) (48 + d) (87 + d) (λ b. b ≢ LINE_FEED) (λ e. λ is. omega (arith, is)) (λ e. λ is. omega (arith, is))

digits_onto-unbroken : (k n : ℕ) (after : List ℕ) → IsUnbroken after → IsUnbroken (digits_onto k 10 false n after)
digits_onto-unbroken zero n after h = h
digits_onto-unbroken (suc k) n after h =
    let more = led (digit_glyph false (n % 10)) (glyph (n % 10)) h in
    cond_both (n / 10 == 0) _ _ IsUnbroken (λ e. more) (λ e. digits_onto-unbroken k (n / 10) _ more)

pub of_decimal : (n : ℕ) → IsUnbroken (decimal n)
unfolding digits
of_decimal n = digits_onto-unbroken 64 n [] nothing

pub of_spaced : (n : ℕ) → IsUnbroken (spaced n)
of_spaced n = led 32 (λ is. omega (arith, is)) (of_decimal n)

pub and_number : {text : List ℕ} (n : ℕ) → IsUnbroken text → IsUnbroken (text ++ spaced n)
and_number n h = joined h (of_spaced n)

of_signed : (z : ℤ) → IsUnbroken (signed_decimal z)
of_signed (pos n) = of_decimal n
of_signed (negsuc n) = led 45 (λ is. omega (arith, is)) (of_decimal (suc n))

pub and_integer : {text : List ℕ} (z : ℤ) → IsUnbroken text → IsUnbroken (text ++ spaced_integer z)
and_integer z h = joined h (led 32 (λ is. omega (arith, is)) (of_signed z))

-- ---- ids

id_byte : (b : ℕ) → is_id_byte b ≡ true → b ≢ LINE_FEED
id_byte b h = grind (arith, nat_tests)

letter : (b : ℕ) → is_ascii_lowercase b ≡ true → b ≢ LINE_FEED
letter b h = grind (arith, nat_tests)

pub of_id : (id : List ℕ) → IsTrue (is_id id) → IsUnbroken id
of_id [] h = nothing
of_id (b ∷ bs) h =
    let parts = and_parts (nat_le (length (b ∷ bs)) MAX_ID && is_ascii_lowercase b) (list_all is_id_byte bs) h in
    let first = (and_parts (nat_le (length (b ∷ bs)) MAX_ID) (is_ascii_lowercase b) parts.0).1 in
    led b (letter b first)
    (record { bytes = All-weaker (λ c. is_id_byte c ≡ true) (λ c. c ≢ LINE_FEED) id_byte bs (AllPass-from_list_all is_id_byte bs parts.1) })
