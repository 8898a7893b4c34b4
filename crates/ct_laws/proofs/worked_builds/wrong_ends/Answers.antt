use Rattle.std.proofs.Common.{refl}
use Rattle.ct_laws.proofs.OnLiterals.{evidence_on_literals}
use Rattle.ct_laws.proofs.worked_builds.wrong_ends.Goals as goal

pub returns : goal.returns
unfolding evidence_on_literals
returns c = record {
  part = refl;
  part_number = refl;
  other_missing = refl;
  other = refl;
  no_other = refl;
  no_digits = refl;
  no_words = refl;
  short = refl;
  letter = refl;
  short_by = refl;
  letter_by = refl;
  part_missing = refl;
}
