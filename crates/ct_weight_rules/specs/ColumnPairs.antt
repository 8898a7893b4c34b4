-- Pairs of words with a one at one place (Johnson 1962; MacWilliams and Sloane, chapter 17, section 2): two words of weight w at distance d share at
-- most w - d/2 ones, and M words share fewest where the ones are spread evenly over the places.
use Rattle.std.specs.Prelude.{ℕ, ◌-◌, ◌&&◌, [], is_some, option_map, Option}
use Rattle.ct_words.specs.declared.entry.Entry.{Entry}
use Rattle.ct_words.specs.declared.claim.Side.TheVariants.{Upper}
use Rattle.ct_johnson.specs.Bounds.{column_count_value}
use Rattle.ct_rule_parts.specs.Parts.{RuleParts, has_weight, weight_of}

-- one word fewer than the least number of words, from 2 to 1,000, that is too many
abbrev pub below_too_many : Entry → Option ℕ
below_too_many e = option_map (λ m. m - 1) (column_count_value e.n e.d (weight_of e))

-- A(n,d,w) is at most M - 1, for the least M from 2 to 1,000 that is too many
abbrev pub column_pairs : RuleParts
column_pairs = record {
  side = Upper;
  condition = λ e. has_weight e && is_some (below_too_many e);
  rests_on = λ e. [];
  number = λ e vs. below_too_many e;
}
