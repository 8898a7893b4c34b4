use Rattle.ct_sample.specs.Run.{without_documents}
use Rattle.ct_sample.proofs.run.Run.new.Goals as goal

pub returns : goal.returns
returns c = λ i. record { pieces = without_documents (c.in_ok-new.ensures i); accepted = 0; withdrawn = 0 }
