use Rattle.ct_pieces.proofs.check.make_room.Goals as goal

pub returns-clause-total : goal.returns-clause-total
returns-clause-total c = c.in_ok-total.ensures.total

pub returns-clause-few : goal.returns-clause-few
returns-clause-few c = c.in_ok-total.ensures.few

pub returns-clause-pieces : goal.returns-clause-pieces
returns-clause-pieces c = c.in_ok-reserve.ensures.items

pub returns-clause-kept : goal.returns-clause-kept
returns-clause-kept c = c.in_ok-reserve-2.ensures.items
