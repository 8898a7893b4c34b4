use Rattle.ct_explain.proofs.PartPlaces.{parts_named, parts_earlier}
use Rattle.ct_laws.proofs.explanations.parts_are_named_pieces.Goals as goal

pub returns : goal.returns
returns c = record { named = parts_named; earlier = parts_earlier }
