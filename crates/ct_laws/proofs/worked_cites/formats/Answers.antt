use Rattle.std.proofs.Common.{refl}
use Rattle.ct_laws.proofs.OnLiterals.{evidence_on_literals}
use Rattle.ct_laws.proofs.worked_cites.formats.Goals as goal

pub returns : goal.returns
unfolding evidence_on_literals
returns c = record {
  left_out = refl;
  first = refl;
  second = refl;
  zero = refl;
  third = refl;
  text = refl;
  before_n = refl;
  after_kind = refl;
  evidence_alone = refl;
}
