use Rattle.std.proofs.Common.{subst, sym, ap, ◌∙◌}
use Rattle.ct_derive.specs.Pieces.{AreEarlier}
use Rattle.ct_explain.specs.Parts.{parts_of_each}
use Rattle.ct_explain.proofs.PartPlaces.{parts_earlier}
use Rattle.ct_run.proofs.answering.explaining.explain.Goals as goal

pub explain-requires-clause-earlier : goal.explain-requires-clause-earlier
explain-requires-clause-earlier c =
    subst AreEarlier (sym (ap parts_of_each (c.new-pieces.ensures ∙ c.pieces.ensures.pieces)))
    (parts_earlier c.args.ledger.now.pieces c.pieces.ensures.standing)
