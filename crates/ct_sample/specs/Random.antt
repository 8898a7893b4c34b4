-- The pseudo-random numbers of the sample: a linear congruence modulo 2^31 (its constants are those of the C standard's example of rand).
use Rattle.std.specs.Prelude.{ℕ, zero, suc, ◌+◌, ◌*◌, ◌/◌, ◌%◌}

-- the number after x
abbrev pub next : ℕ → ℕ
next x = (x * 1103515245 + 12345) % 2147483648

-- the number of a step of the sample of so many commands, which begins with its number of commands
abbrev pub seed : ℕ → ℕ → ℕ
seed number zero = number
seed number (suc step) = next (seed number step)

-- what a step draws: its number without the 16 lowest binary digits
abbrev pub drawn : ℕ → ℕ → ℕ
drawn number step = seed number step / 65536
