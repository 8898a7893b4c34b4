-- Both ways.
use Rattle.ct_doubly.proofs.Words.{IsCode-from_doubly, doubly-from_code}
use Rattle.ct_laws.proofs.math.doubly.doubly_codes_are_codes.Goals as goal

pub returns-clause-weight : goal.returns-clause-weight
returns-clause-weight c = IsCode-from_doubly

pub returns-clause-no_last_half : goal.returns-clause-no_last_half
returns-clause-no_last_half c = doubly-from_code
