use Rattle.std.proofs.Common.{Bool, if◌then◌else◌, Err, length, le-leb, sym, ap, ◌∙◌}
use Rattle.ct_kind.specs.declared.fault.SubmitFault.TheVariants.{FullPieces}
use Rattle.ct_piece.specs.Inside.Making.{unless_full}
use Rattle.ct_pieces.proofs.pieces.room_for.Goals as goal

pub returns-then-has_id-clause-fault : goal.returns-then-has_id-clause-fault
returns-then-has_id-clause-fault c = λ made. ap (λ (taken : Bool). unless_full taken (length c.args.pieces.now) made) (sym c.if-has_id.ensures.has)

pub returns-then-pieces-ge-MAX_PIECES-clause-fault : goal.returns-then-pieces-ge-MAX_PIECES-clause-fault
returns-then-pieces-ge-MAX_PIECES-clause-fault c = λ made.
    let count = length c.args.pieces.now in
    ap (λ (taken : Bool). unless_full taken count made) (sym c.if-has_id.ensures.has)
    ∙ ap (λ (full : Bool). if full then Err (FullPieces count) else made) (le-leb 1000 count c.if-pieces-ge-MAX_PIECES.true)

pub returns-clause-room : goal.returns-clause-room
returns-clause-room c = c.if-pieces-ge-MAX_PIECES.false
