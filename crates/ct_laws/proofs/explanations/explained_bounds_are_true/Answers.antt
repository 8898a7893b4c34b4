use Rattle.ct_explain.proofs.ExplainedBounds.{explained_is_true, lines_are_true, lines_are_ordered}
use Rattle.ct_laws.proofs.explanations.explained_bounds_are_true.Goals as goal

pub returns : goal.returns
returns c = record { bound = explained_is_true; lines = lines_are_true; ordered = lines_are_ordered }
