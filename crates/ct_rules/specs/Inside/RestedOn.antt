-- Where the closing of a table looks for the entries that rest on one by a rule.
use Rattle.std.specs.Prelude.{List, ◌∷◌, []}
use Rattle.ct_words.specs.declared.entry.Entry.{Entry}
use Rattle.ct_plain_rules.specs.Inside.RestedOn.{by_uuv, by_juxtaposition}
use Rattle.ct_plain_rules.specs.Neighbours.{shorter, longer, nearer, farther, shorter_and_nearer, longer_and_farther}
use Rattle.ct_weight_rules.specs.Inside.RestedOn.{by_split, by_even_distance, by_elias_bassalygo, by_johnson, all_weights}
use Rattle.ct_weight_rules.specs.Neighbours.{complementary, zero_less, zero_more, one_less, one_more, two_nearer, two_farther}
use Rattle.ct_rules.specs.declared.rule.Rule.{Rule}
use Rattle.ct_rules.specs.declared.rule.Rule.TheVariants.{L3, L4, L5, L6, L7, L8, L9, L11, M3, M4, M5, M6, M7, M8, U4, U5, U6, U7, U8, U9, U10, U11, U12, V3, V4, V5, V6, V7, V10}

-- entries among which are all that rest on one by the rule
unfoldable pub rested_on_by : Rule → Entry → List Entry
rested_on_by L3 e = longer e ∷ []
rested_on_by L4 e = nearer e ∷ []
rested_on_by L5 e = longer_and_farther e ∷ []
rested_on_by L6 e = shorter_and_nearer e ∷ []
rested_on_by L7 e = shorter e ∷ []
rested_on_by L8 e = by_uuv e
rested_on_by (L9 w) e = by_even_distance e
rested_on_by (L11 n d) e = by_juxtaposition e
rested_on_by M3 e = zero_more e ∷ []
rested_on_by M4 e = one_more e ∷ []
rested_on_by M5 e = one_less e ∷ []
rested_on_by M6 e = zero_less e ∷ []
rested_on_by M7 e = complementary e ∷ []
rested_on_by M8 e = two_nearer e ∷ []
rested_on_by U4 e = shorter_and_nearer e ∷ []
rested_on_by U5 e = longer_and_farther e ∷ []
rested_on_by U6 e = longer e ∷ []
rested_on_by U7 e = farther e ∷ []
rested_on_by U8 e = shorter e ∷ []
rested_on_by U9 e = by_johnson e
rested_on_by (U10 w) e = by_elias_bassalygo e
rested_on_by (U11 place) e = by_even_distance e
rested_on_by (U12 place) e = by_even_distance e
rested_on_by V3 e = complementary e ∷ []
rested_on_by V4 e = one_more e ∷ []
rested_on_by V5 e = zero_more e ∷ []
rested_on_by V6 e = by_split e
rested_on_by V7 e = two_farther e ∷ []
rested_on_by (V10 place) e = all_weights e
rested_on_by r e = []
