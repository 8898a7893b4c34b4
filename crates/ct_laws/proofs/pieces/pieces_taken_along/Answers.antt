use Rattle.ct_piece.proofs.TakenAlong.{taken_are_along, least_along, refused_along, free_along, withdrawn_all-stand}
use Rattle.ct_laws.proofs.pieces.pieces_taken_along.Goals as goal

pub returns-clause-taken : goal.returns-clause-taken
returns-clause-taken c = taken_are_along

pub returns-clause-least : goal.returns-clause-least
returns-clause-least c = least_along

pub returns-clause-stand : goal.returns-clause-stand
returns-clause-stand c = withdrawn_all-stand

pub returns-clause-refused : goal.returns-clause-refused
returns-clause-refused c = λ pieces id reason. (refused_along pieces id reason, free_along pieces id reason)
