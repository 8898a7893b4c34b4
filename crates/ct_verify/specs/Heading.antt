-- The first line of a block of evidence.
use Rattle.std.specs.Prelude.{ℕ, suc, if◌then◌else◌, List, [], ◌∷◌, Option, Some, None, codes}
use Rattle.std.specs.Str.{bytes_eq}
use Rattle.ct_names.specs.Id.{is_id}
use Rattle.ct_text.specs.Number.{number_of}
use Rattle.ct_text.specs.declared.gathering.Extent.{Extent}
use Rattle.ct_text.specs.declared.gathering.Extent.TheVariants.{ToEnd, Lines}
use Rattle.ct_verify.specs.declared.heading.Heading.{Heading}

-- so many lines, where there is at least one
abbrev pub lines_extent : Option ℕ → Option Extent
lines_extent (Some (suc more)) = Some (Lines (suc more))
lines_extent count = None

-- the heading of a document under an id that goes so far, where the word is an id
abbrev pub heading_with : List ℕ → Option Extent → Option Heading
heading_with id None = None
heading_with id (Some extent) = if is_id id then Some (record { id = id; extent = extent }) else None

-- the heading that the words after `evidence` are: ID, or ID lines K with K at least 1
abbrev pub heading_of : List (List ℕ) → Option Heading
heading_of (id ∷ []) = heading_with id (Some ToEnd)
heading_of (id ∷ word ∷ count ∷ []) = if bytes_eq word (codes "lines") then heading_with id (lines_extent (number_of count)) else None
heading_of words = None
