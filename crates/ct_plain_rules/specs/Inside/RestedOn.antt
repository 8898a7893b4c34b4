-- Entries among which are all that rest on one by a rule: where the closing of a table looks for them.
use Rattle.std.specs.Prelude.{◌+◌, ◌-◌, ◌*◌, List, ◌∷◌, [], map}
use Rattle.std.specs.List.{flat_map, range_with_len}
use Rattle.ct_words.specs.declared.limits.TheConstants.{MAX_N}
use Rattle.ct_words.specs.declared.entry.Entry.{Entry}
use Rattle.ct_words.specs.Entry.{unrestricted}
use Rattle.ct_plain_rules.specs.Neighbours.{twice_as_long}

-- by the sums: those of twice the length, at the distance, and at the two whose half, rounded up, is that
abbrev pub by_uuv : Entry → List Entry
by_uuv e = twice_as_long e e.d ∷ twice_as_long e (2 * e.d - 1) ∷ twice_as_long e (2 * e.d) ∷ []

-- by words side by side: those without weight that are longer, and farther by 3 or more
abbrev pub by_juxtaposition : Entry → List Entry
by_juxtaposition e =
    flat_map (λ n. map (λ d. unrestricted n d) (range_with_len (e.d + 3) (MAX_N - (e.d + 2)))) (range_with_len (e.n + 1) (MAX_N - e.n))
