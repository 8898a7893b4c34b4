use Rattle.std.proofs.Common.{refl}
use Rattle.ct_session.proofs.session.respond_to_any.Goals as goal

pub returns-in-Some-clause-reply : goal.returns-in-Some-clause-reply
returns-in-Some-clause-reply g c = rw c.in-Some.is c.respond.ensures.reply

pub returns-in-Some-clause-pieces : goal.returns-in-Some-clause-pieces
returns-in-Some-clause-pieces g c = rw c.in-Some.is c.respond.ensures.pieces

pub returns-in-None-clause-pieces : goal.returns-in-None-clause-pieces
returns-in-None-clause-pieces g c = rw c.in-None.is refl
