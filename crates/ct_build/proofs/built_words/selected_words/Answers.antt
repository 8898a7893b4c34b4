use Rattle.ct_build.proofs.built_words.selected_words.Goals as goal

pub returns-in-Some-clause-words : goal.returns-in-Some-clause-words
returns-in-Some-clause-words c = rw c.in-Some.is c.sums_of_weight.ensures.words

pub returns-in-Some-clause-some : goal.returns-in-Some-clause-some
returns-in-Some-clause-some c = rw c.in-Some.is c.sums_of_weight.ensures.some
