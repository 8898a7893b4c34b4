use Rattle.ct_build.proofs.RightBuilds.{right_from, none_from}
use Rattle.ct_laws.proofs.math.builds.right_builds_have_no_fault.Goals as goal

pub returns : goal.returns
returns c = λ step e part other. (right_from step e part other, none_from step e part other)
