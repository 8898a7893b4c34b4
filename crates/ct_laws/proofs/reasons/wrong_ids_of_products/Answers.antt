use Rattle.ct_laws.proofs.WrongIds.{wrong_id-is, wrong_id-from}
use Rattle.ct_laws.proofs.reasons.wrong_ids_of_products.Goals as goal

pub returns : goal.returns
returns c = λ e known pairs id. (wrong_id-is e known pairs id, wrong_id-from e known pairs id)
