use Rattle.std.proofs.Common.{refl}
use Rattle.ct_laws.proofs.OnLiterals.{evidence_on_literals}
use Rattle.ct_laws.proofs.worked_builds.wrong_for_the_operation.Goals as goal

pub returns : goal.returns
unfolding evidence_on_literals
returns c = record {
  lengthen = refl;
  append_one = refl;
  parity = refl;
  uuv = refl;
  juxtapose = refl;
  weight_of_puncture = refl;
  weight_of_translate = refl;
  weight_of_uuv = refl;
  no_weight_of_select = refl;
}
