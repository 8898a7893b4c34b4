use Rattle.ct_words.proofs.WordLemmas.{weight-count_ones}
use Rattle.ct_words.proofs.metric.weight.Goals as goal

pub returns : goal.returns
returns c = λ n below. weight-count_ones n c.args.a below
