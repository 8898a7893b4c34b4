use Rattle.ct_laws.proofs.Columns.{column_without_weight, column_with_weight, no_near_column, no_far_column, no_odd_column, no_heavy_column}
use Rattle.ct_laws.proofs.laws.columns_by_length.Goals as goal

pub returns-clause-without_weight : goal.returns-clause-without_weight
returns-clause-without_weight c = column_without_weight

pub returns-clause-with_weight : goal.returns-clause-with_weight
returns-clause-with_weight c = column_with_weight

pub returns-clause-near : goal.returns-clause-near
returns-clause-near c = no_near_column

pub returns-clause-far : goal.returns-clause-far
returns-clause-far c = no_far_column

pub returns-clause-odd : goal.returns-clause-odd
returns-clause-odd c = no_odd_column

pub returns-clause-heavy : goal.returns-clause-heavy
returns-clause-heavy c = no_heavy_column
