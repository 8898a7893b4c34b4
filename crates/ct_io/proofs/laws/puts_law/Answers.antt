use Rattle.ct_io.proofs.BufferedLemmas.{all_put-grows}
use Rattle.ct_io.proofs.laws.puts_law.Goals as goal

pub returns : goal.returns
returns c = λ old new text h. all_put-grows old.held new.held old.gathered new.gathered text old.faults new.faults h
