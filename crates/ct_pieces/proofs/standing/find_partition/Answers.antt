use Rattle.std.proofs.Common.{sym, ap, ◌∙◌}
use Rattle.ct_kind.specs.declared.evidence.Evidence.{Evidence}
use Rattle.ct_files.specs.ByKind.{kind_of}
use Rattle.ct_piece.specs.Piece.{PieceValue}
use Rattle.ct_pieces.proofs.PartitionPlaces.{partition_in, partition-some, partition-none}
use Rattle.ct_pieces.proofs.standing.find_partition.Goals as goal

pub returns-in-Some : goal.returns-in-Some
returns-in-Some c =
    let p = c.index-pieces-place.result in
    c.partition_of.ensures ∙ ap (λ (e : Evidence). (kind_of e).partition) c.evidence.ensures.evidence ∙ ap (λ (q : PieceValue). partition_in q) c.index-pieces-place.is
    ∙ sym (partition-some c.args.id c.args.pieces.now c.in-Some.place p (sym c.place_of.ensures ∙ c.in-Some.is))

pub returns-in-None : goal.returns-in-None
returns-in-None c = sym (partition-none c.args.id c.args.pieces.now (sym c.place_of.ensures ∙ c.in-None.is))
