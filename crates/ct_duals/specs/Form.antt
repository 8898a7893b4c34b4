-- Whether the numbers of a dual have the form that a dual has.
use Rattle.std.specs.Prelude.{ℕ, suc, ◌%◌, ◌^◌, Bool, true, not, ◌==◌, ◌&&◌, ◌||◌, nat_le, List, [], ◌∷◌, length, ℤ, pos, int_le, int_lt, Option, Some, None}
use Rattle.std.specs.List.{list_all}
use Rattle.ct_words.specs.declared.entry.Entry.{Entry}
use Rattle.ct_words.specs.Entry.{is_entry}
use Rattle.ct_duals.specs.declared.dual.Dual.{Dual}
use Rattle.ct_duals.specs.Dual.{degree_of, is_in_range}

-- whether a number is at least 0, and in 64 signed bits
abbrev pub is_number : ℤ → Bool
is_number z = int_le (pos 0) z && int_lt z (pos (2 ^ 63))

-- whether there are 1 to degree + 1 such numbers
abbrev pub are_multipliers : Entry → List ℤ → Bool
are_multipliers e c = nat_le 1 (length c) && nat_le (length c) (suc (degree_of e)) && list_all is_number c

-- whether the indices are at least `low`, of the range, and strictly ascending, and each number is one of those
abbrev pub are_allowances_from : Entry → Bool → ℕ → List (ℕ × ℤ) → Bool
are_allowances_from e even low [] = true
are_allowances_from e even low (p ∷ y) =
    nat_le low p.0 && is_in_range e even p.0 && is_number p.1 && are_allowances_from e even (suc p.0) y

-- whether the indices are of the range and strictly ascending, and each number is one of those
abbrev pub are_allowances : Entry → Bool → List (ℕ × ℤ) → Bool
are_allowances e even y = are_allowances_from e even 0 y

-- whether the mark `even` fits the weight and the distance
abbrev pub is_mark : Option ℕ → ℕ → Bool → Bool
is_mark None d even = not even || d % 2 == 0
is_mark (Some w) d even = not even

-- whether the dual has the form of one
abbrev pub is_dual : Dual → Bool
is_dual d =
    is_entry d.entry && is_mark d.entry.w d.entry.d d.even && are_multipliers d.entry d.c && are_allowances d.entry d.even d.y
