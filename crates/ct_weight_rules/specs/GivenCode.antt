-- A code of constant weight that is handed in.
use Rattle.std.specs.Prelude.{◌&&◌, [], is_some, Option}
use Rattle.ct_words.specs.declared.claim.Side.TheVariants.{Lower}
use Rattle.ct_rule_parts.specs.declared.support.Support.{Support}
use Rattle.ct_rule_parts.specs.Parts.{RuleParts, has_weight}
use Rattle.ct_rule_parts.specs.Support.{size_at}

-- of a support: A(n,d,w) is at least the number of words of the code that supports it
abbrev pub given_code_of_weight : Option Support → RuleParts
given_code_of_weight c = record {
  side = Lower;
  condition = λ e. has_weight e && is_some (size_at c e);
  rests_on = λ e. [];
  number = λ e vs. size_at c e;
}
