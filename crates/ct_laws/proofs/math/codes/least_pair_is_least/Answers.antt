use Rattle.ct_words.proofs.PairLemmas.{least_pair-at, IsLeastPair-from, least_pair-none, NoPair-from}
use Rattle.ct_laws.proofs.math.codes.least_pair_is_least.Goals as goal

pub returns : goal.returns
returns c = record {
  found = λ test xs i j. (IsLeastPair-from test xs i j, least_pair-at test xs i j);
  none = λ test xs. (NoPair-from test xs, least_pair-none test xs);
}
