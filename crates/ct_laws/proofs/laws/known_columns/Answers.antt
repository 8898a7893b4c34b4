use Rattle.std.proofs.Common.{refl}
use Rattle.ct_words.specs.TableEntries.{column}
use Rattle.ct_laws.proofs.laws.known_columns.Goals as goal

pub returns-clause-first : goal.returns-clause-first
unfolding column
returns-clause-first c = refl

pub returns-clause-second : goal.returns-clause-second
unfolding column
returns-clause-second c = refl

pub returns-clause-last : goal.returns-clause-last
unfolding column
returns-clause-last c = refl

pub returns-clause-end : goal.returns-clause-end
unfolding column
returns-clause-end c = refl

pub returns-clause-first_of_weight : goal.returns-clause-first_of_weight
unfolding column
returns-clause-first_of_weight c = refl

pub returns-clause-last_of_weight : goal.returns-clause-last_of_weight
unfolding column
returns-clause-last_of_weight c = refl

pub returns-clause-end_of_weight : goal.returns-clause-end_of_weight
unfolding column
returns-clause-end_of_weight c = refl

pub returns-clause-no_ones : goal.returns-clause-no_ones
unfolding column
returns-clause-no_ones c = refl

pub returns-clause-greatest_weight : goal.returns-clause-greatest_weight
unfolding column
returns-clause-greatest_weight c = refl

pub returns-clause-no_distance : goal.returns-clause-no_distance
unfolding column
returns-clause-no_distance c = refl

pub returns-clause-odd : goal.returns-clause-odd
unfolding column
returns-clause-odd c = refl

pub returns-clause-heavy : goal.returns-clause-heavy
unfolding column
returns-clause-heavy c = refl
