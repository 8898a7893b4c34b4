use Rattle.std.proofs.Common.{sym, ap, subst, ◌∙◌, option_copied}
use Rattle.std.proofs.lemmas.Option.{same_Some}
use Rattle.ct_words.specs.Code.{IsSoundCode}
use Rattle.ct_build.proofs.building.shape_beside.Goals as goal

pub returns-in-Some-clause-sound : goal.returns-in-Some-clause-sound
returns-in-Some-clause-sound c = λ x is. subst IsSoundCode (same_Some c.in-Some.code.now x (sym (ap option_copied c.in-Some.is) ∙ is)) c.of.ensures.sound
