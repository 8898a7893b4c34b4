-- Entries with weight beside an entry.
use Rattle.std.specs.Prelude.{ℕ, ◌+◌, ◌-◌, ◌*◌}
use Rattle.ct_words.specs.declared.entry.Entry.{Entry}
use Rattle.ct_words.specs.Entry.{unrestricted, constant_weight}
use Rattle.ct_rule_parts.specs.Parts.{weight_of, half_up}

-- words with as many zeros as these have ones
abbrev pub complementary : Entry → Entry
complementary e = constant_weight e.n e.d (e.n - weight_of e)

-- words with a zero less
abbrev pub zero_less : Entry → Entry
zero_less e = constant_weight (e.n - 1) e.d (weight_of e)

-- words with a zero more
abbrev pub zero_more : Entry → Entry
zero_more e = constant_weight (e.n + 1) e.d (weight_of e)

-- words with a one less
abbrev pub one_less : Entry → Entry
one_less e = constant_weight (e.n - 1) e.d (weight_of e - 1)

-- words with a one more
abbrev pub one_more : Entry → Entry
one_more e = constant_weight (e.n + 1) e.d (weight_of e + 1)

-- words two places nearer
abbrev pub two_nearer : Entry → Entry
two_nearer e = constant_weight e.n (e.d - 2) (weight_of e)

-- words two places farther
abbrev pub two_farther : Entry → Entry
two_farther e = constant_weight e.n (e.d + 2) (weight_of e)

-- words of a weight
abbrev pub of_weight : Entry → ℕ → Entry
of_weight e w = constant_weight e.n e.d w

-- words of a weight, at the least even distance that is not nearer
abbrev pub even_of_weight : Entry → ℕ → Entry
even_of_weight e w = constant_weight e.n (2 * half_up e.d) w

-- words at distance d from one word: seen from it of weight d, and for odd d one place farther from each other
abbrev pub around : Entry → Entry
around e = constant_weight e.n (e.d + 1) e.d

-- words of all weights
abbrev pub unweighted : Entry → Entry
unweighted e = unrestricted e.n e.d

-- words of all weights, one place nearer
abbrev pub unweighted_and_nearer : Entry → Entry
unweighted_and_nearer e = unrestricted e.n (e.d - 1)
