-- Words and their texts.
use Rattle.std.proofs.Common.{◌≡◌, ℕ, zero, suc, ◌+◌, ◌-◌, ◌*◌, ◌/◌, ◌%◌, ◌^◌, ◌<◌, ◌≤◌, ◌≢◌, Bool, true, false, not, ◌==◌, List, [], ◌∷◌, ◌++◌, length, take, get_or, position, Some, None, sym, refl, ap, ap₂, ◌∙◌, inl, inr, arith, length-append, pow-suc, pow_pos, eq-eqb, add-one, lit<}
use Rattle.std.specs.List.{list_all}
use Rattle.std.proofs.Math.Nat.{mod-eq_of_lt, pow-le-pow_right, div-eq_of_lt}
use Rattle.std.proofs.lemmas.Nat.{div-mul-add, shr_split, mod_below, div_below}
use Rattle.std.proofs.lemmas.Nat.Bits.{bit_at_cat_low}
use Rattle.std.proofs.lemmas.Bool.{cases_eq, cases_Bool, and_parts, and_from, or_left, or_right, or_from, not-false, lt-ltb, le-ltb, and_right, ne_eqb, or_cases, eqb-true}
use Rattle.std.proofs.lemmas.List.{take_more, ext_get_or}
use Rattle.std.proofs.lemmas.List.Sums.{position_or_len_is}
use Rattle.ct_words.specs.Word.{digit}
use Rattle.ct_words.specs.Text.{tabulate, word_text, is_binary_digit, binary_value, word_of}

-- a list f 0, .., f (n - 1) is told by the values below n
pub tabulate_same : (f g : ℕ → ℕ) (n : ℕ) → ((p : ℕ) → p < n → f p ≡ g p) → tabulate f n ≡ tabulate g n
tabulate_same f g zero same = refl
tabulate_same f g (suc n) same =
    ap₂ (λ (x : ℕ) (xs : List ℕ). x ∷ xs) (same 0 (omega arith)) (tabulate_same (λ p. f (suc p)) (λ p. g (suc p)) n (λ p h. same (suc p) (omega arith)))

-- it has n items
pub length-tabulate : (f : ℕ → ℕ) (n : ℕ) → length (tabulate f n) ≡ n
length-tabulate f zero = refl
length-tabulate f (suc n) = ap suc (length-tabulate (λ p. f (suc p)) n)

-- and f p at place p
pub get_or-tabulate : (f : ℕ → ℕ) (n p : ℕ) → p < n → get_or (tabulate f n) p 0 ≡ f p
get_or-tabulate f zero p h = absurd (omega arith)
get_or-tabulate f (suc n) zero h = refl
get_or-tabulate f (suc n) (suc p) h = get_or-tabulate (λ q. f (suc q)) n p (omega arith)

-- the first digit of a word
pub first_digit : (m c v : ℕ) → c < 2 → v < 2 ^ m → digit (suc m) (c * 2 ^ m + v) 0 ≡ c
first_digit m c v small below =
    let place : suc m - 1 - 0 ≡ m = omega arith in
    rw place (ap (λ q. q % 2) (div-mul-add c (2 ^ m) v below) ∙ mod-eq_of_lt small)

-- the digits after the first are those of the rest
pub next_digit : (m c v p : ℕ) → p < m → digit (suc m) (c * 2 ^ m + v) (suc p) ≡ digit m v p
next_digit m c v p h =
    let place : suc m - 1 - suc p ≡ m - 1 - p = omega arith in
    rw place (bit_at_cat_low c m v (m - 1 - p) (omega arith))

-- the text of a word is that of its first digit, and then that of the rest
pub word_text-cons : (m c v : ℕ) → c < 2 → v < 2 ^ m → word_text (suc m) (c * 2 ^ m + v) ≡ (48 + c) ∷ word_text m v
unfolding word_text
word_text-cons m c v small below =
    ap₂ (λ (x : ℕ) (xs : List ℕ). x ∷ xs) (ap (λ q. 48 + q) (first_digit m c v small below))
    (tabulate_same (λ p. 48 + digit (suc m) (c * 2 ^ m + v) (suc p)) (λ p. 48 + digit m v p) m (λ p h. ap (λ q. 48 + q) (next_digit m c v p h)))

-- the text of a word of length n has n characters
pub length-word_text : (n x : ℕ) → length (word_text n x) ≡ n
unfolding word_text
length-word_text n x = length-tabulate (λ p. 48 + digit n x p) n

-- a binary digit is the character of 0 or 1
digit_cases : (b : ℕ) → is_binary_digit b ≡ true → (48 ≤ b) × (b - 48 < 2)
digit_cases b h = elim (or_cases (b == 48) (b == 49) h) [ inl e ↦ (let s = eqb-true b 48 e in omega arith, let s = eqb-true b 48 e in omega arith) | inr e ↦ (let s = eqb-true b 49 e in omega arith, let s = eqb-true b 49 e in omega arith) ]

-- the number that n binary digits write is below 2 ^ n
pub binary_value-lt : (bs : List ℕ) → list_all is_binary_digit bs ≡ true → binary_value bs < 2 ^ length bs
binary_value-lt [] h = omega arith
binary_value-lt (b ∷ bs) h =
    let parts = and_parts (is_binary_digit b) (list_all is_binary_digit bs) h in
    let digit_is = digit_cases b parts.0 in
    let rest = binary_value-lt bs parts.1 in
    let more = pow-suc 2 (length bs) in
    grind arith

-- and its text is these digits
pub word_text-binary_value : (bs : List ℕ) → list_all is_binary_digit bs ≡ true → word_text (length bs) (binary_value bs) ≡ bs
unfolding word_text
word_text-binary_value [] h = refl
word_text-binary_value (b ∷ bs) h =
    let parts = and_parts (is_binary_digit b) (list_all is_binary_digit bs) h in
    let digit_is = digit_cases b parts.0 in
    let whole : 48 + (b - 48) ≡ b = omega arith in
    word_text-cons (length bs) (b - 48) (binary_value bs) digit_is.1 (binary_value-lt bs parts.1)
    ∙ ap₂ (λ (x : ℕ) (xs : List ℕ). x ∷ xs) whole (word_text-binary_value bs parts.1)

-- one more digit at the end
pub binary_value-push : (bs : List ℕ) (b : ℕ) → binary_value (bs ++ b ∷ []) ≡ 2 * binary_value bs + (b - 48)
binary_value-push [] b = omega arith
binary_value-push (a ∷ bs) b =
    let ih = binary_value-push bs b in
    let len : length (bs ++ b ∷ []) ≡ suc (length bs) = length-append bs (b ∷ []) ∙ add-one (length bs) in
    let more = ap (λ m. (a - 48) * m) (pow-suc 2 (length bs)) in
    rw len (omega arith)

-- binary digits are all that a text of a word has
digits_of_tabulate : (f : ℕ → ℕ) (n : ℕ) → ((p : ℕ) → p < n → is_binary_digit (f p) ≡ true) → list_all is_binary_digit (tabulate f n) ≡ true
digits_of_tabulate f zero each = refl
digits_of_tabulate f (suc n) each =
    and_from (is_binary_digit (f 0)) (list_all is_binary_digit (tabulate (λ p. f (suc p)) n)) (each 0 (omega arith))
    (digits_of_tabulate (λ p. f (suc p)) n (λ p h. each (suc p) (omega arith)))

-- the character of a number below 2 is a binary digit
character_of_digit : (q : ℕ) → q < 2 → is_binary_digit (48 + q) ≡ true
character_of_digit zero h = refl
character_of_digit (suc zero) h = refl
character_of_digit (suc (suc q)) h = absurd (omega arith)

pub digits-word_text : (n x : ℕ) → list_all is_binary_digit (word_text n x) ≡ true
unfolding word_text
digits-word_text n x = digits_of_tabulate (λ p. 48 + digit n x p) n (λ p h. character_of_digit (digit n x p) (mod_below (x / 2 ^ (n - 1 - p)) 2 (omega arith)))

-- the text of a word writes its number
pub binary_value-word_text : (n x : ℕ) → x < 2 ^ n → binary_value (word_text n x) ≡ x
unfolding word_text
binary_value-word_text zero x h = omega arith
binary_value-word_text (suc m) x h =
    let c = x / 2 ^ m in
    let v = x % 2 ^ m in
    let parts : c * 2 ^ m + v ≡ x = shr_split x m in
    let more = pow-suc 2 m in
    let small : c < 2 = div_below x (2 ^ m) 2 (pow_pos m) (omega arith) in
    let below : v < 2 ^ m = mod_below x (2 ^ m) (pow_pos m) in
    ap (λ z. binary_value (word_text (suc m) z)) (sym parts) ∙ ap binary_value (word_text-cons m c v small below)
    ∙ (let rest = binary_value-word_text m v below in
    let len = length-word_text m v in
    let first : 48 + c - 48 ≡ c = omega arith in
    ap₂ (λ i j. i * j + binary_value (word_text m v)) first (ap (λ k. 2 ^ k) len) ∙ ap (λ i. c * 2 ^ m + i) rest ∙ parts)

-- a text of another length is no word of length n
pub word_of-other_length : (n : ℕ) (text : List ℕ) → length text ≢ n → word_of n text ≡ None
unfolding word_of
word_of-other_length n text other = rw (ne_eqb (length text) n other)

-- nor is a text with another character than the digits
pub word_of-other_character : (n : ℕ) (text : List ℕ) → list_all is_binary_digit text ≡ false → word_of n text ≡ None
unfolding word_of
word_of-other_character n text other = rw (other, and_right (length text == n) false refl)

-- n binary digits are a word
pub word_of-digits : (n : ℕ) (text : List ℕ) → length text ≡ n → list_all is_binary_digit text ≡ true → word_of n text ≡ Some (binary_value text)
unfolding word_of
word_of-digits n text len digits = rw (eq-eqb (length text) n len, digits)

-- the text of a word is read as that word
pub word_of-word_text : (n x : ℕ) → x < 2 ^ n → word_of n (word_text n x) ≡ Some x
word_of-word_text n x h =
    word_of-digits n (word_text n x) (length-word_text n x) (digits-word_text n x) ∙ ap Some (binary_value-word_text n x h)

-- two words of one text are equal
pub word_text-injective : (n x y : ℕ) → x < 2 ^ n → y < 2 ^ n → word_text n x ≡ word_text n y → x ≡ y
word_text-injective n x y p q same = sym (binary_value-word_text n x p) ∙ ap binary_value same ∙ binary_value-word_text n y q

-- a list is the text of the word where it holds the character of the digit at each place
pub text_from_places : (n x : ℕ) (text : List ℕ) → length text ≡ n → ((p : ℕ) → p < n → get_or text p 0 ≡ 48 + digit n x p) → text ≡ word_text n x
unfolding word_text
text_from_places n x text len each =
    ext_get_or 0 text (tabulate (λ p. 48 + digit n x p) n) (len ∙ sym (length-tabulate (λ p. 48 + digit n x p) n))
    (λ p h. let within : p < n = omega arith in each p within ∙ sym (get_or-tabulate (λ p. 48 + digit n x p) n p within))

-- whether a character is none of the two digits
abbrev pub is_other : ℕ → Bool
is_other b = not (is_binary_digit b)

-- what is read of one digit more
pub value_more : (text : List ℕ) (i word : ℕ) → i < length text → word ≡ binary_value (take i text)
    → 2 * word + (get_or text i 0 - 48) ≡ binary_value (take (i + 1) text)
value_more text i word h value =
    sym (ap binary_value (take_more text i 0 h) ∙ binary_value-push (take i text) (get_or text i 0) ∙ ap (λ z. 2 * z + (get_or text i 0 - 48)) (sym value))

-- no place holds another character where each of them holds a digit
pub digits_from_places : (text : List ℕ) → ((k : ℕ) → k < length text → is_other (get_or text k 0) ≡ false) → list_all is_binary_digit text ≡ true
digits_from_places [] each = refl
digits_from_places (b ∷ bs) each =
    and_from (is_binary_digit b) (list_all is_binary_digit bs) (not-false (is_binary_digit b) (each 0 (omega arith))) (digits_from_places bs (λ k h. each (suc k) (omega arith)))

-- the first place of another character
pub position-at : (text : List ℕ) (i : ℕ) → i < length text → ((k : ℕ) → k < i → is_other (get_or text k 0) ≡ false)
    → is_other (get_or text i 0) ≡ true → position is_other text ≡ Some i
position-at text i h before here =
    let first = position_or_len_is is_other text i 0 (omega arith) before (λ _. here) in
    rw (first, lt-ltb i (length text) h)

-- there is none
pub position-none : (text : List ℕ) → ((k : ℕ) → k < length text → is_other (get_or text k 0) ≡ false) → position is_other text ≡ None
position-none text each =
    let first = position_or_len_is is_other text (length text) 0 (omega arith) each (λ h. absurd (omega arith)) in
    rw (first, le-ltb (length text) (length text) (omega arith))

-- a text of n digits is that of the word that it writes
pub text_of_digits : (n word : ℕ) (text : List ℕ) → length text ≡ n → list_all is_binary_digit text ≡ true → word ≡ binary_value text → text ≡ word_text n word
text_of_digits n word text len digits value =
    sym (word_text-binary_value text digits) ∙ ap₂ (λ i j. word_text i j) len (sym value)

-- the two digits, and what is none of them
pub digit-from_0 : (b : ℕ) → b ≡ 48 → is_binary_digit b ≡ true
digit-from_0 b e = or_left (b == 48) (b == 49) (eq-eqb b 48 e)

pub digit-from_1 : (b : ℕ) → b ≡ 49 → is_binary_digit b ≡ true
digit-from_1 b e = or_right (b == 48) (b == 49) (eq-eqb b 49 e)

pub other-from : (b : ℕ) → b ≢ 48 → b ≢ 49 → is_binary_digit b ≡ false
other-from b zero_not one_not = or_from (b == 48) (b == 49) (ne_eqb b 48 zero_not) (ne_eqb b 49 one_not)

-- one digit more doubles the bound
pub small_more : (i word b : ℕ) → is_binary_digit b ≡ true → word < 2 ^ i → 2 * word + (b - 48) < 2 ^ (i + 1)
small_more i word b digit_is small =
    let cases = digit_cases b digit_is in
    let more = pow-suc 2 i in
    rw (add-one i) (omega arith)

-- what is read as a word is the text of that word
pub word_from_text : (n x : ℕ) (text : List ℕ) → word_of n text ≡ Some x → (x < 2 ^ n) × (text ≡ word_text n x)
word_from_text n x text e =
    elim (cases_eq (length text) n) [
      | inr other ↦ let none = word_of-other_length n text other in cc
      | inl len ↦ elim (cases_Bool (list_all is_binary_digit text)) [
        | inr other ↦ let none = word_of-other_character n text other in cc
        | inl digits ↦
            let read = word_of-digits n text len digits in
            let value : x ≡ binary_value text = cc in
            let below = binary_value-lt text digits in
            let below_n : binary_value text < 2 ^ n = rw len at below in
            ((omega arith), text_of_digits n x text len digits value)
      ]
    ]

-- the digits of a word before all places where it can have ones are 0
pub digit_before : (n x p k : ℕ) → x < 2 ^ k → k ≤ n - 1 - p → digit n x p ≡ 0
digit_before n x p k small far =
    let room = pow-le-pow_right {n = 2} (lit< tt) far in
    let none : x / 2 ^ (n - 1 - p) ≡ 0 = div-eq_of_lt (omega (arith, room)) in
    rw none refl
