-- The laws of binomial coefficients, each a lemma of proofs/Binomials.antt.
use Rattle.ct_words.proofs.Counting.Binomials.{row_total, choose_symmetric, choose_past, choose-factorial, volume_whole}
use Rattle.ct_laws.proofs.math.counting.binomial_laws.Goals as goal

pub returns-clause-row : goal.returns-clause-row
returns-clause-row c = row_total

pub returns-clause-symmetric : goal.returns-clause-symmetric
returns-clause-symmetric c = choose_symmetric

pub returns-clause-past : goal.returns-clause-past
returns-clause-past c = choose_past

pub returns-clause-factorials : goal.returns-clause-factorials
returns-clause-factorials c = choose-factorial

pub returns-clause-whole : goal.returns-clause-whole
returns-clause-whole c = volume_whole
