use Rattle.ct_laws.proofs.ProductReasons.{product-reasons}
use Rattle.ct_laws.proofs.reasons.reasons_against_products.Goals as goal

pub returns : goal.returns
returns c = λ known e pairs reason. let says = product-reasons known e pairs in (says.told reason, says.tells reason)
