-- Pairs of places of what is left of a list.
use Rattle.std.specs.Prelude.{ℕ, ◌+◌, Option}
use Rattle.std.specs.Option.{option_map}

-- a pair of places of what is left of a list after i items, as places of the list
abbrev pub shifted : ℕ → Option (ℕ × ℕ) → Option (ℕ × ℕ)
shifted i pair = option_map (λ p. (i + p.0, i + p.1)) pair
