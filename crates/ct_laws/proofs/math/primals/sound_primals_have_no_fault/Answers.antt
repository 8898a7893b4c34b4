use Rattle.ct_primal.proofs.PrimalFaults.{none-from_sound, sound-from_none}
use Rattle.ct_laws.proofs.math.primals.sound_primals_have_no_fault.Goals as goal

pub returns : goal.returns
returns c = record { accepted = none-from_sound; sound = sound-from_none }
