use Rattle.ct_build.proofs.right_parts.completes.Goals as goal

pub add_up-requires-clause-u : goal.add_up-requires-clause-u
add_up-requires-clause-u c = c.requires.part.weight_to

pub add_up-requires-clause-v : goal.add_up-requires-clause-v
add_up-requires-clause-v c = c.requires.other.weight_to
