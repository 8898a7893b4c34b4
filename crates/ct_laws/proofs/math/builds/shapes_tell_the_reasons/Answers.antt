use Rattle.ct_build.proofs.BuildFaults.{reasons_told, reasons_alone, reasons_of_shapes, result_size-is, result_size-none}
use Rattle.ct_laws.proofs.math.builds.shapes_tell_the_reasons.Goals as goal

pub returns : goal.returns
returns c = record {
  reasons = reasons_told;
  alone = reasons_alone;
  told = reasons_of_shapes;
  size = result_size-is;
  most = result_size-none;
}
