-- When a list of words is accepted as a code of an entry, and the first reason why it is not.
use Rattle.std.specs.Prelude.{ℕ, ◌==◌, nat_lt, ◌||◌, if◌then◌else◌, List, length, position, slice_index, not, Option, Some, None}
use Rattle.std.specs.Option.{option_map}
use Rattle.ct_words.specs.Word.{weight, distance}
use Rattle.ct_words.specs.declared.entry.Entry.{Entry}
use Rattle.ct_words.specs.declared.fault.CodeFault.{CodeFault}
use Rattle.ct_words.specs.declared.fault.CodeFault.TheVariants.{Size, Weight, Repeated, Close}
use Rattle.ct_words.specs.declared.fault.TheConstants.{MAX_WORDS}
use Rattle.ct_words.specs.Pairs.{first_of, least_pair}

-- the number of words is 0 or above the limit
abbrev pub size_fault : List ℕ → Option CodeFault
size_fault words = if length words == 0 || nat_lt MAX_WORDS (length words) then Some (Size (length words)) else None

-- the first word that has not the weight of the entry
abbrev pub weight_fault : ℕ → Option ℕ → List ℕ → Option CodeFault
weight_fault n None words = None
weight_fault n (Some w) words = option_map Weight (position (λ x. not (weight n x == w)) words)

-- the least pair of equal words
abbrev pub repeated_fault : List ℕ → Option CodeFault
repeated_fault words = option_map (λ p. Repeated p.0 p.1) (least_pair (λ x y. x == y) words)

-- the least pair of words that are closer than d, and their distance
abbrev pub close_fault : ℕ → ℕ → List ℕ → Option CodeFault
close_fault n d words =
    option_map (λ p. Close p.0 p.1 (distance n (slice_index words p.0) (slice_index words p.1))) (least_pair (λ x y. nat_lt (distance n x y) d) words)

-- the first reason why the words are not accepted as a code of the entry: size, weight, repeated, close, in this order; none where they are
unfoldable pub code_fault : Entry → List ℕ → Option CodeFault
code_fault e words =
    first_of (size_fault words) (first_of (weight_fault e.n e.w words) (first_of (repeated_fault words) (close_fault e.n e.d words)))
