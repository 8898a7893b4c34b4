use Rattle.std.proofs.Common.{refl}
use Rattle.ct_laws.proofs.OnLiterals.{evidence_on_literals}
use Rattle.ct_laws.proofs.worked_cites.cites_come_last.Goals as goal

pub returns : goal.returns
unfolding evidence_on_literals
returns c = record {
  after_words = refl;
  after_part = refl;
  of_a_build = refl;
  before_keys = refl;
  before_digits = refl;
  digits_after = refl;
  key_after = refl;
  no_format = refl;
  first_format = refl;
  fields_first = refl;
}
