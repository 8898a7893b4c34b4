-- Words that are put together.
use Rattle.std.specs.Prelude.{ℕ, ◌+◌, ◌*◌, ◌^◌}

-- the word x followed by the word y of length m: the digits of x, and then those of y
abbrev pub followed_by : ℕ → ℕ → ℕ → ℕ
followed_by m x y = x * 2 ^ m + y
