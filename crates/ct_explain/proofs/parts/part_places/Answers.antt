use Rattle.std.proofs.Common.{◌∙◌, ap, sym}
use Rattle.ct_files.specs.ByKind.{ids_of_parts}
use Rattle.ct_explain.proofs.PartPlaces.{no_places}
use Rattle.ct_explain.proofs.parts.part_places.Goals as goal

pub returns-then-not-has_parts : goal.returns-then-not-has_parts
returns-then-not-has_parts c =
    let none = ap ids_of_parts (sym c.evidence.ensures.evidence) ∙ c.has_parts.ensures.0 c.if-not-has_parts.true in
    c.new-then-not-has_parts.ensures ∙ c.new.ensures.items ∙ sym (no_places c.args.piece.now 0 c.args.pieces.now none)
