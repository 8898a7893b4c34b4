use Rattle.std.proofs.Common.{refl}
use Rattle.ct_laws.proofs.OnLiterals.{evidence_on_literals}
use Rattle.ct_laws.proofs.worked.two_words_are_read.Goals as goal

pub returns : goal.returns
unfolding evidence_on_literals
returns c = refl
