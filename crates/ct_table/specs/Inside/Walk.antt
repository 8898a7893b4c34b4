-- One walk over the later lines of a table, once the supports of a set give nothing: each line moves, or stays behind.
use Rattle.std.specs.Prelude.{ℕ, ◌-◌, nat_lt, if◌then◌else◌, List, [], ◌∷◌, ◌++◌, length, slice_index_or, Option, Some, None, option_map}
use Rattle.ct_rules.specs.Derivation.{LineValue}
use Rattle.ct_rules.specs.Rule.{named_place}
use Rattle.ct_kept.specs.Kept.{KeptValue, with_line_put}
use Rattle.ct_rules.specs.Removal.{Places, names_one}

-- where a line has moved: those of the base stay at their places, of the others those that moved so far
abbrev pub moved_place : ℕ → List (Option ℕ) → ℕ → Option ℕ
moved_place base moved p = if nat_lt p base then Some p else slice_index_or moved (p - base) None

-- the first place before the others, none where one of them is missing
abbrev pub and_places : Option ℕ → Option (List ℕ) → Option (List ℕ)
and_places (Some there) (Some places) = Some (there ∷ places)
and_places there places = None

-- the places to which lines have moved, none where one of them has not
abbrev pub moved_places : ℕ → List (Option ℕ) → List ℕ → Option (List ℕ)
moved_places base moved [] = Some []
moved_places base moved (p ∷ from) = and_places (moved_place base moved p) (moved_places base moved from)

-- a line with other places
abbrev pub moved_to : LineValue → List ℕ → LineValue
moved_to l from = record { claim = l.claim; rule = l.rule; from = from }

-- a line as it moves, none where it stays behind: its rule names a support of the set, or it names a line that has not moved
abbrev pub moved_line : ℕ → Places → List (Option ℕ) → LineValue → Option LineValue
moved_line base gone moved l =
    if names_one gone (named_place l.rule) then None else option_map (moved_to l) (moved_places base moved l.from)

-- what is kept, with the line at its end if there is one
abbrev pub with_moved : KeptValue → Option LineValue → KeptValue
with_moved kept None = kept
with_moved kept (Some l) = with_line_put kept l

-- what is kept once the later lines have moved, one after the other
abbrev pub walk : ℕ → Places → List (Option ℕ) → KeptValue → List LineValue → KeptValue
walk base gone moved kept [] = kept
walk base gone moved kept (l ∷ later) =
    walk base gone (moved ++ option_map (λ k. length kept.lines) (moved_line base gone moved l) ∷ []) (with_moved kept (moved_line base gone moved l)) later
