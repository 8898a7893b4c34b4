use Rattle.std.proofs.Common.{refl}
use Rattle.ct_laws.proofs.OnLiterals.{evidence_on_literals}
use Rattle.ct_laws.proofs.worked_builds.builds_are_read.Goals as goal

pub returns : goal.returns
unfolding evidence_on_literals
returns c = record {
  lengthen = refl;
  append_one = refl;
  parity = refl;
  puncture = refl;
  most_places = refl;
  shorten = refl;
  translate = refl;
  complement = refl;
  select = refl;
  uuv = refl;
  juxtapose = refl;
  trim = refl;
}
