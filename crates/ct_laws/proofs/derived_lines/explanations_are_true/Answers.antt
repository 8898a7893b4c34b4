use Rattle.ct_derive.proofs.ExplanationLaws.{derived_from_explanation, bound_is_true, lines_of_explanation_are_true, ordered_lines}
use Rattle.ct_laws.proofs.derived_lines.explanations_are_true.Goals as goal

pub returns : goal.returns
returns c = record {
  bound = bound_is_true;
  lines = lines_of_explanation_are_true;
  ordered = ordered_lines;
  derived = derived_from_explanation;
}
