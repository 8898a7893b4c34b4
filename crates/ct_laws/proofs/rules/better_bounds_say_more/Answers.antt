use Rattle.ct_rule_parts.proofs.SlotLemmas.{IsTrueOn-no_better, IsNoBetter-either, each_no_better, no_better_from_each}
use Rattle.ct_laws.proofs.rules.better_bounds_say_more.Goals as goal

pub returns : goal.returns
returns c = record {
  says_more = IsTrueOn-no_better;
  either = IsNoBetter-either;
  each = λ side us vs. (each_no_better side us vs, no_better_from_each side us vs);
}
