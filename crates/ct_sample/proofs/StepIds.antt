-- The ids of steps are ids.
use Rattle.std.proofs.Common.{◌≡◌, ℕ, ◌<◌, ◌≤◌, ◌^◌, ◌&&◌, ◌||◌, ◌==◌, nat_le, Bool, true, false, List, [], ◌∷◌, length, refl, arith, rules, le-leb, lit<}
use Rattle.std.specs.Prelude.{IsTrue, fold}
use Rattle.std.specs.List.{list_all}
use Rattle.std.specs.Char.{is_ascii_digit, is_ascii_lowercase}
use Rattle.std.specs.Fmt.{decimal}
use Rattle.std.proofs.lemmas.Bool.{and_parts, and_from}
use Rattle.std.proofs.lemmas.Str.Parse.{IsNumeralModel, numerals_by_fold}
use Rattle.std.proofs.lemmas.Fmt.{digits_decimal, length-decimal-le}
use Rattle.ct_names.specs.Id.{is_id, is_id_byte}
use Rattle.ct_text.specs.Number.{decimal_value}
use Rattle.ct_names.specs.declared.id.TheConstants.{MAX_ID}
use Rattle.ct_text.proofs.Numbers.{step}
use Rattle.ct_sample.specs.Command.{step_id}

own : IsNumeralModel (λ ds. list_all is_ascii_digit ds ≡ true) decimal_value
own = numerals_by_fold _ (search rules) (λ n ds. fold step n ds) (search rules)

digit_stands : (a b c d : Bool) → b ≡ true → (a || b || c || d) ≡ true
digit_stands true b c d h = refl
digit_stands false true c d h = refl
digit_stands false false c d h = absurd cc

digits_stand : (ds : List ℕ) → list_all is_ascii_digit ds ≡ true → list_all is_id_byte ds ≡ true
digits_stand [] h = refl
digits_stand (b ∷ bs) h =
    let parts = and_parts (is_ascii_digit b) (list_all is_ascii_digit bs) h in
    and_from (is_id_byte b) (list_all is_id_byte bs) (digit_stands (is_ascii_lowercase b) (is_ascii_digit b) (b == 45) (b == 95) parts.0) (digits_stand bs parts.1)

pub step_id-is : (n : ℕ) → n < 2 ^ 32 → IsTrue (is_id (step_id n))
step_id-is n small =
    let long = length-decimal-le 10 n (lit< tt) (omega arith) (omega arith) in
    let short : length (step_id n) ≤ MAX_ID = omega (arith, long) in
    and_from (nat_le (length (step_id n)) MAX_ID && is_ascii_lowercase 115) (list_all is_id_byte (decimal n))
    (and_from (nat_le (length (step_id n)) MAX_ID) (is_ascii_lowercase 115) (le-leb (length (step_id n)) MAX_ID short) refl)
    (digits_stand (decimal n) (digits_decimal own n (omega arith)))
