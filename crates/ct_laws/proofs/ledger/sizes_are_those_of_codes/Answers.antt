use Rattle.ct_ledger.proofs.Reaching.{size_of_code}
use Rattle.ct_laws.proofs.ledger.sizes_are_those_of_codes.Goals as goal

pub returns : goal.returns
returns c = λ pieces place e size h at.
    let found = size_of_code pieces place e size h at in
    (found.0, found.1.code, found.1.entry, found.1.count)
