use Rattle.ct_derive.proofs.NeededExist.{shown_exists}
use Rattle.ct_laws.proofs.derived_lines.bounds_can_be_shown.Goals as goal

pub returns : goal.returns
returns c = shown_exists
