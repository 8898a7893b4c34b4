-- The numbers of the slots of a table: one for each side of each entry, in a row.
use Rattle.std.specs.Prelude.{◌≡◌, ℕ, ◌+◌, ◌-◌, ◌*◌, ◌/◌, ◌%◌, nat_lt, if◌then◌else◌, slice_index, List, Option, Some, None}
use Rattle.ct_words.specs.declared.limits.TheConstants.{MAX_N}
use Rattle.ct_words.specs.declared.entry.Entry.{Entry}
use Rattle.ct_words.specs.declared.claim.Side.{Side}
use Rattle.ct_words.specs.declared.claim.Side.TheVariants.{Lower, Upper}
use Rattle.ct_words.specs.Entry.{unrestricted, constant_weight}
use Rattle.ct_rule_parts.specs.Slot.{Slot}

-- how many distances the table has, from 3 on
abbrev pub distances : ℕ
distances = MAX_N - 2

-- how many of them are even, from 4 on
abbrev pub even_distances : ℕ
even_distances = MAX_N / 2 - 1

-- how many entries have a length of at most k: at each length n one for each distance, and at each even one a weight from 0 to n
abbrev pub entries_to : ℕ → ℕ
entries_to k = k * distances + even_distances * (k * (k + 3) / 2)

-- how many entries have the length n
abbrev pub count_in_length : ℕ → ℕ
count_in_length n = distances + even_distances * (n + 1)

-- how many entries the table has
abbrev pub side_size : ℕ
side_size = entries_to MAX_N

-- the number of an entry among those of its length: first those without weight by their distances, then by distance and weight
abbrev pub number_in_length : Entry → Option ℕ → ℕ
number_in_length e None = e.d - 3
number_in_length e (Some w) = distances + (e.d / 2 - 2) * (e.n + 1) + w

-- the entry of the length n that has this number among those of its length
abbrev pub entry_in : ℕ → ℕ → Entry
entry_in n place =
    if nat_lt place distances then unrestricted n (place + 3)
    else constant_weight n (2 * ((place - distances) / (n + 1)) + 4) ((place - distances) % (n + 1))

-- the number of an entry among those of one side
abbrev pub entry_number : Entry → ℕ
entry_number e = entries_to (e.n - 1) + number_in_length e e.w

-- the numbers of the sides
abbrev pub side_number : Side → ℕ
side_number Lower = 0
side_number Upper = 1

-- the number of a slot: the sides, and within each the lengths in order
unfoldable pub slot_number : Slot → ℕ
slot_number s = side_number s.0 * side_size + entry_number s.1

-- the bound that stands at a slot, in a row of bounds by number
abbrev pub bound_of : List ℕ → Slot → ℕ
bound_of bounds s = slice_index bounds (slot_number s)

-- the bounds of an entry from both sides are one
abbrev pub IsSettled : List ℕ → Entry → Type 0
IsSettled bounds e = bound_of bounds (Lower, e) ≡ bound_of bounds (Upper, e)
