use Rattle.ct_build.proofs.StepLemmas.{stated_weight}
use Rattle.ct_build.proofs.build_faults.part_fault.Goals as goal

pub is_right_weight-requires-clause-w : goal.is_right_weight-requires-clause-w
is_right_weight-requires-clause-w c = stated_weight c.args.stated c.requires.fits.entry

pub is_right_weight-requires-clause-v : goal.is_right_weight-requires-clause-v
is_right_weight-requires-clause-v c = c.requires.part.weight_to
