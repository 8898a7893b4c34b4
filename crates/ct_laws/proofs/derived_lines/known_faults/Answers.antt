use Rattle.std.proofs.Common.{refl}
use Rattle.ct_rules.specs.Rule.{row_of}
use Rattle.ct_laws.proofs.derived_lines.known_faults.Goals as goal

pub returns : goal.returns
unfolding row_of
returns c = record {
  none = refl;
  value = refl;
  own_number = refl;
  number_zero = refl;
  other_entry = refl;
  too_many = refl;
  too_few = refl;
  rule = refl;
  rule_first = refl;
  no_code = refl;
  other_code = refl;
  code = refl;
}
