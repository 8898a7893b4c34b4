use Rattle.ct_sample.proofs.Summaries.{some_output, one_output}
use Rattle.ct_sample.proofs.laws.samples_are_one.Goals as goal

pub returns : goal.returns
returns c = record { some = some_output; one = one_output }
