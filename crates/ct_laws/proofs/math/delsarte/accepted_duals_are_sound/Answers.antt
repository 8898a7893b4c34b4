use Rattle.ct_duals.proofs.Faults.{accepted-from_none}
use Rattle.ct_duals.proofs.SoundDuals.{accepted-sound, accepted-some, accepted-spread, accepted-some_spread, accepted-local, accepted-some_local}
use Rattle.ct_laws.proofs.math.delsarte.accepted_duals_are_sound.Goals as goal

pub returns : goal.returns
returns c = record {
  sound = λ accepted uppers h known. accepted-sound accepted h uppers known;
  some = λ accepted uppers h. accepted-some accepted h uppers;
  spread = λ accepted uppers h known. accepted-spread accepted h uppers known;
  some_spread = λ accepted uppers h. accepted-some_spread accepted h uppers;
  local = λ accepted w uppers h is known. accepted-local accepted h w is uppers known;
  some_local = λ accepted uppers h. accepted-some_local accepted h uppers;
  checked = accepted-from_none;
}
