-- The value of decimal digits, read from the left: each digit makes it no smaller.
use Rattle.std.proofs.Common.{◌≡◌, ℕ, ◌+◌, ◌-◌, ◌*◌, ◌^◌, ◌<◌, ◌≤◌, Bool, true, false, cond, ◌&&◌, List, [], ◌∷◌, length, take, drop, get_or, Some, None, refl, sym, ap, arith, ltb, lt-ltb, take-append-drop}
use Rattle.std.specs.Prelude.{fold}
use Rattle.std.proofs.lemmas.Bool.{le-ltb}
use Rattle.std.proofs.lemmas.List.Sums.{fold-append, fold_more}
use Rattle.ct_text.specs.Number.{number_of, is_numeral, decimal_value}

abbrev pub step : ℕ → ℕ → ℕ
step value b = 10 * value + (b - 48)

-- more digits make no value smaller
grows : (value : ℕ) (bs : List ℕ) → value ≤ fold step value bs
grows value [] = omega arith
grows value (b ∷ bs) = let more = grows (step value b) bs in omega (arith, more)

-- the value of a text is at least that of its front
pub front_le : (i : ℕ) (text : List ℕ) → decimal_value (take i text) ≤ decimal_value text
front_le i text =
    let at_front = ap (fold step 0) (take-append-drop i text) in
    let parts = fold-append step 0 (take i text) (drop i text) in
    let more = grows (decimal_value (take i text)) (drop i text) in
    omega (arith, at_front, parts, more)

-- and at least what the next digit makes of it
pub next_le : (i : ℕ) (text : List ℕ) → i < length text → 10 * decimal_value (take i text) + (get_or text i 0 - 48) ≤ decimal_value text
next_le i text h = let next = fold_more step 0 text i 0 h in let front = front_le (i + 1) text in omega (arith, next, front)

-- one digit more
pub next-value : (text : List ℕ) (i value tens digit next : ℕ) → i < length text → value ≡ decimal_value (take i text) → tens ≡ value * 10
    → digit ≡ get_or text i 0 - 48 → next ≡ tens + digit → next ≡ decimal_value (take (i + 1) text)
next-value text i value tens digit next h value-is tens-is digit-is next-is = let more = fold_more step 0 text i 0 h in omega arith

when_not : (b : Bool) (v : ℕ) → 2 ^ 64 ≤ v → cond (b && ltb v (2 ^ 64)) (Some v) None ≡ None
when_not false v h = refl
when_not true v h = ap (λ t. cond t (Some v) None) (le-ltb v (2 ^ 64) h)

-- a text whose value is too great writes no number
pub none_above : (text : List ℕ) → 2 ^ 64 ≤ decimal_value text → None ≡ number_of text
unfolding number_of
none_above text h = sym (when_not (is_numeral text) (decimal_value text) h)

-- decimal digits with a value below 2 ^ 64 write it
pub some_below : (text : List ℕ) (v : ℕ) → is_numeral text ≡ true → v ≡ decimal_value text → v < 2 ^ 64 → Some v ≡ number_of text
unfolding number_of
some_below text v digits is below =
    let small : ltb (decimal_value text) (2 ^ 64) ≡ true = lt-ltb (decimal_value text) (2 ^ 64) (omega arith) in
    rw (digits, small, is) refl
