use Rattle.std.proofs.Common.{◌∙◌}
use Rattle.std.proofs.lemmas.List.Elements.{same_from_all_zip}
use Rattle.ct_words.proofs.listed.Listed.try_copy.Goals as goal

pub returns : goal.returns
returns g c = λ same. same_from_all_zip _ _ _ c.in_ok-values.ensures.cases.0 same ∙ c.self.view_is
