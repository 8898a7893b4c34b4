-- Entries among which are all that rest on one by a rule: where the closing of a table looks for them.
use Rattle.std.specs.Prelude.{◌+◌, List, ◌∷◌, [], map}
use Rattle.std.specs.List.{range_with_len}
use Rattle.ct_words.specs.declared.entry.Entry.{Entry}
use Rattle.ct_weight_rules.specs.Neighbours.{zero_more, one_more, of_weight, unweighted, unweighted_and_nearer}

-- by one digit: words with a zero more, and with a one more
abbrev pub by_split : Entry → List Entry
by_split e = zero_more e ∷ one_more e ∷ []

-- by its even distance, for a code of constant weight and for the duals without weight: words of all weights, as far, and one place nearer
abbrev pub by_even_distance : Entry → List Entry
by_even_distance e = unweighted e ∷ unweighted_and_nearer e ∷ []

-- by the average over translates: words of all weights
abbrev pub by_elias_bassalygo : Entry → List Entry
by_elias_bassalygo e = unweighted e ∷ []

-- by the words outside the balls: words of all weights, one place nearer
abbrev pub by_johnson : Entry → List Entry
by_johnson e = unweighted_and_nearer e ∷ []

-- by a local bound: words of each weight
abbrev pub all_weights : Entry → List Entry
all_weights e = map (λ w. of_weight e w) (range_with_len 0 (e.n + 1))
