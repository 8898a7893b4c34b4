use Rattle.ct_sum_classes.proofs.SumClasses.{IsCode-sum_class}
use Rattle.ct_laws.proofs.math.sum_classes.sum_classes_are_codes.Goals as goal

pub returns : goal.returns
returns c = IsCode-sum_class
