use Rattle.std.proofs.Common.{sym, ◌∙◌}
use Rattle.ct_pieces.proofs.PartLemmas.{known-found, known-missing}
use Rattle.ct_pieces.proofs.standing.is_known.Goals as goal

pub returns-in-Some : goal.returns-in-Some
returns-in-Some c = sym (known-found c.args.id c.args.pieces.now c.in-Some._place (sym c.place_of.ensures ∙ c.in-Some.is))

pub returns-in-None : goal.returns-in-None
returns-in-None c = sym (known-missing c.args.id c.args.pieces.now (sym c.place_of.ensures ∙ c.in-None.is))
