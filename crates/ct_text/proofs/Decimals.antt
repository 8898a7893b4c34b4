-- A number is read from what printing it gives, and from nothing else.
use Rattle.std.proofs.Common.{◌≡◌, ℕ, zero, suc, lit<, ◌^◌, ◌<◌, Bool, true, false, cond, ◌&&◌, ◌||◌, not, List, length, get_or, Some, None, refl, sym, ap, ◌∙◌, arith, rules, ltb, ltb-true, eqb, inl, inr, ◌⊎◌}
use Rattle.std.specs.Prelude.{fold}
use Rattle.std.specs.List.{list_all}
use Rattle.std.specs.Char.{is_ascii_digit}
use Rattle.std.specs.Fmt.{decimal}
use Rattle.std.proofs.lemmas.Bool.Decides.{nat_tests}
use Rattle.std.proofs.lemmas.Str.Parse.{IsNumeralModel, numerals_by_fold}
use Rattle.std.proofs.lemmas.Fmt.{digits_decimal, digits_value-decimal, decimal-digits_value, decimal_nonempty, first_decimal, decimal_digit}
use Rattle.ct_text.specs.Number.{number_of, is_numeral, decimal_value}
use Rattle.ct_text.proofs.Numbers.{step, some_below}

own : IsNumeralModel (λ ds. list_all is_ascii_digit ds ≡ true) decimal_value
own = numerals_by_fold _ (search rules) (λ n ds. fold step n ds) (search rules)

-- what a text that is read as a number is
chosen : (b : Bool) (v n : ℕ) → cond (b && ltb v (2 ^ 64)) (Some v) None ≡ Some n → (b ≡ true) × (v < 2 ^ 64) × (v ≡ n)
chosen false v n h = absurd (cc)
chosen true v n h = below (ltb v (2 ^ 64)) refl h
  where
    below : (c : Bool) → ltb v (2 ^ 64) ≡ c → cond c (Some v) None ≡ Some n → (true ≡ true) × (v < 2 ^ 64) × (v ≡ n)
    below true e k = (refl, ltb-true v (2 ^ 64) e, cc)
    below false e k = absurd (cc)

-- the parts of the test for a number, on its digits test, its length and its first digit
test_parts : (a : Bool) (n f : ℕ) → (a && (eqb n 1 || (ltb 1 n && not (eqb f 48)))) ≡ true → (a ≡ true) × (0 < n) × (f ≡ 48 → n ≡ 1)
test_parts a n f h = (grind (arith, nat_tests), grind (arith, nat_tests), λ e. grind (arith, nat_tests))

test_holds : (a : Bool) (n f : ℕ) → a ≡ true → 0 < n → (n ≡ 1) ⊎ (48 < f) → (a && (eqb n 1 || (ltb 1 n && not (eqb f 48)))) ≡ true
test_holds a n f e some either = elim either [ inl one ↦ grind (arith, nat_tests) | inr lead ↦ grind (arith, nat_tests) ]

-- a printed number starts with no zero, unless it is `0`
leads : (n : ℕ) → n < 2 ^ 64 → is_numeral (decimal n) ≡ true
leads zero small = test_holds (list_all is_ascii_digit (decimal 0)) (length (decimal 0)) (get_or (decimal 0) 0 0) (digits_decimal own 0 small) (decimal_nonempty 0 small) (inl (ap length (decimal_digit 0 (lit< tt))))
leads (suc n) small = test_holds (list_all is_ascii_digit (decimal (suc n))) (length (decimal (suc n))) (get_or (decimal (suc n)) 0 0) (digits_decimal own (suc n) small) (decimal_nonempty (suc n) small) (inr (first_decimal (suc n) (omega arith) small))

pub read_is_printed : (text : List ℕ) (n : ℕ) → number_of text ≡ Some n → (n < 2 ^ 64) × (text ≡ decimal n)
unfolding number_of
read_is_printed text n h =
    let taken = chosen (is_numeral text) (decimal_value text) n h in
    let parts = test_parts (list_all is_ascii_digit text) (length text) (get_or text 0 0) taken.0 in
    let printed = decimal-digits_value own text parts.0 parts.1 parts.2 taken.1 in
    (omega (arith, taken.1, taken.2), sym printed ∙ ap decimal taken.2)

pub printed_is_read : (text : List ℕ) (n : ℕ) → n < 2 ^ 64 → text ≡ decimal n → number_of text ≡ Some n
printed_is_read text n small e =
    ap number_of e ∙ sym (some_below (decimal n) n (leads n small) (sym (digits_value-decimal own n small)) small)
