-- Three elementary upper bounds on A(n,d) (MacWilliams and Sloane, The Theory of Error-Correcting Codes, chapter 1, section 5 and
-- chapter 2, section 2).
use Rattle.std.specs.Prelude.{ℕ, ◌+◌, ◌-◌, ◌*◌, ◌/◌, ◌%◌, ◌^◌, ◌==◌, ◌&&◌, nat_le, nat_lt, if◌then◌else◌, Option, Some, None}
use Rattle.ct_words.specs.Counting.Binomials.{volume}

-- where d is above n, a code has at most one word
abbrev pub far_value : ℕ → ℕ → Option ℕ
far_value n d = if nat_lt n d then Some 1 else None

-- Plotkin's bound where d is even: 2⌊d / (2d - n)⌋ for d ≤ n < 2d, and 4d for n = 2d
abbrev pub plotkin_even : ℕ → ℕ → Option ℕ
plotkin_even n d =
    if nat_le d n && nat_lt n (2 * d) then Some (2 * (d / (2 * d - n)))
    else (if n == 2 * d then Some (4 * d) else None)

-- Plotkin's bound where d is odd: 2⌊(d + 1) / (2d + 1 - n)⌋ for d ≤ n < 2d + 1, and 4d + 4 for n = 2d + 1
abbrev pub plotkin_odd : ℕ → ℕ → Option ℕ
plotkin_odd n d =
    if nat_le d n && nat_lt n (2 * d + 1) then Some (2 * ((d + 1) / (2 * d + 1 - n)))
    else (if n == 2 * d + 1 then Some (4 * d + 4) else None)

-- Plotkin's bound
abbrev pub plotkin_value : ℕ → ℕ → Option ℕ
plotkin_value n d = if d % 2 == 0 then plotkin_even n d else plotkin_odd n d

-- Hamming's bound, by packing balls of radius ⌊(d - 1) / 2⌋: ⌊2 ^ n / V(n, ⌊(d - 1) / 2⌋)⌋
abbrev pub sphere_packing_value : ℕ → ℕ → ℕ
sphere_packing_value n d = 2 ^ n / volume n ((d - 1) / 2)
