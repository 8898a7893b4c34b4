-- Bounds after so many rounds, for words that some ones and zeros are taken out of, in a table.
use Rattle.std.specs.Prelude.{◌≡◌, ℕ, ◌+◌, ◌-◌, ◌*◌, ◌<◌, ◌≤◌, List, slice_index}
use Rattle.ct_doubly.specs.declared.parts.Parts.{Parts}
use Rattle.ct_doubly.specs.Doubly.{doubly_after}

-- the place of a table for a ones and b zeros that are taken out of the first half, and c ones and e zeros out of the last
abbrev pub place_of : ℕ → ℕ → ℕ → ℕ → ℕ
place_of a b c e = 64 * a + 16 * b + 4 * c + e

-- v is the bound after s rounds for the words that are left at the place, where three rounds reach it
abbrev pub IsBoundAt : ℕ → Parts → ℕ → ℕ → ℕ → Type 0
IsBoundAt s parts d place v = (a b c e : ℕ) → place ≡ place_of a b c e → a + b + c + e + s ≤ 3
    → a ≤ parts.w1 → b ≤ parts.n1 - parts.w1 → c ≤ parts.w2 → e ≤ parts.n2 - parts.w2
    → v ≡ doubly_after s (parts.n1 - (a + b)) (parts.w1 - a) (parts.n2 - (c + e)) (parts.w2 - c) d

-- the table has these bounds
abbrev pub IsTable : ℕ → Parts → ℕ → List ℕ → Type 0
IsTable s parts d table = (place : ℕ) → place < 256 → IsBoundAt s parts d place (slice_index table place)
