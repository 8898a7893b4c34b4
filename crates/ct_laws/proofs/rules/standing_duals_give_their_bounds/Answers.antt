use Rattle.ct_laws.proofs.GivenDuals.{dual-gives}
use Rattle.ct_laws.proofs.rules.standing_duals_give_their_bounds.Goals as goal

pub returns : goal.returns
returns c = record {
  premises = λ supports place dual stands at. (dual-gives supports place dual stands at).premises;
  value = λ supports place dual uppers stands at. (dual-gives supports place dual stands at).value uppers;
}
