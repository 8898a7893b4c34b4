-- The laws of words of a length, each a lemma of proofs/Words.antt.
use Rattle.ct_words.proofs.Counting.Words.{length-all_words, lengths-all_words, all_words-complete, all_words-distinct, count_of_weight, count_at_distance, count_in_ball}
use Rattle.ct_laws.proofs.math.counting.word_laws.Goals as goal

pub returns-clause-count : goal.returns-clause-count
returns-clause-count c = length-all_words

pub returns-clause-complete : goal.returns-clause-complete
returns-clause-complete c = all_words-complete

pub returns-clause-lengths : goal.returns-clause-lengths
returns-clause-lengths c = lengths-all_words

pub returns-clause-distinct : goal.returns-clause-distinct
returns-clause-distinct c = all_words-distinct

pub returns-clause-of_weight : goal.returns-clause-of_weight
returns-clause-of_weight c = count_of_weight

pub returns-clause-at_distance : goal.returns-clause-at_distance
returns-clause-at_distance c = count_at_distance

pub returns-clause-in_ball : goal.returns-clause-in_ball
returns-clause-in_ball c = count_in_ball
