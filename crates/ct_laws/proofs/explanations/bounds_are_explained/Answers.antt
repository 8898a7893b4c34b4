use Rattle.ct_explain.proofs.ExplainedBounds.{explained}
use Rattle.ct_laws.proofs.explanations.bounds_are_explained.Goals as goal

pub returns : goal.returns
returns c = explained
