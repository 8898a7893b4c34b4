use Rattle.ct_build.proofs.BuildFaults.{IfNone-anyway}
use Rattle.ct_build.proofs.build_faults.early_fault.Goals as goal

pub returns-clause-sizes : goal.returns-clause-sizes
returns-clause-sizes c = IfNone-anyway c.few_fault.result _ c.in_default-size_fault.ensures.sizes

pub returns-clause-made : goal.returns-clause-made
returns-clause-made c = IfNone-anyway c.few_fault.result _ c.in_default-size_fault.ensures.made
