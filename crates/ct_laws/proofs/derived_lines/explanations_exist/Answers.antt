use Rattle.ct_derive.proofs.MergedLines.{explanation_exists}
use Rattle.ct_laws.proofs.derived_lines.explanations_exist.Goals as goal

pub returns : goal.returns
returns c = explanation_exists
