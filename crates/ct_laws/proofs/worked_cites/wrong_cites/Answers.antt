use Rattle.std.proofs.Common.{refl}
use Rattle.ct_laws.proofs.OnLiterals.{evidence_on_literals}
use Rattle.ct_laws.proofs.worked_cites.wrong_cites.Goals as goal

pub returns : goal.returns
unfolding evidence_on_literals
returns c = record {
  empty = refl;
  too_long = refl;
  low = refl;
  high = refl;
  no_list = refl;
  no_text = refl;
  too_many = refl;
}
