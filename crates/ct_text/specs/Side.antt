-- Sides of bounds, as words name them.
use Rattle.std.specs.Prelude.{ℕ, if◌then◌else◌, List, Option, Some, None, codes}
use Rattle.std.specs.Str.{bytes_eq}
use Rattle.ct_words.specs.declared.claim.Side.{Side}
use Rattle.ct_words.specs.declared.claim.Side.TheVariants.{Lower, Upper}

-- the side that a word names
abbrev pub side_of_word : List ℕ → Option Side
side_of_word word = if bytes_eq word (codes "lower") then Some Lower else (if bytes_eq word (codes "upper") then Some Upper else None)
