use Rattle.ct_list.proofs.GivenCodes.{coded, given_entry, given_size}
use Rattle.ct_list.proofs.given.given_code.Goals as goal

pub code-requires-clause-coded : goal.code-requires-clause-coded
code-requires-clause-coded c =
    coded c.args.ledger.now.pieces c.args.place c.args.entry c.pieces-pieces.ensures.standing c.requires

pub returns-clause-entry : goal.returns-clause-entry
returns-clause-entry c =
    given_entry c.args.ledger.now.pieces c.args.place c.args.entry c.code.result c.pieces-pieces.ensures.standing c.requires c.code.ensures.code

pub returns-clause-size : goal.returns-clause-size
returns-clause-size c =
    given_size c.args.ledger.now.pieces c.args.place c.args.entry c.code.result c.pieces-pieces.ensures.standing c.requires c.code.ensures.code
