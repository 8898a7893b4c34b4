use Rattle.std.proofs.Common.{◌≡◌, ◌<◌, ℕ, List, Ok, false, length, sym, ap, subst, ◌∙◌}
use Rattle.ct_kind.specs.declared.evidence.Evidence.{Evidence}
use Rattle.ct_files.specs.Document.{DocumentValue}
use Rattle.ct_piece.specs.Piece.{PieceValue, has_id}
use Rattle.ct_piece.specs.declared.limits.TheConstants.{MAX_PIECES}
use Rattle.ct_pieces.proofs.pieces.Pieces.admit.Goals as goal

-- what a document of the evidence holds that cites these
abbrev stated : Evidence → List (List ℕ) → DocumentValue
stated e cites = record { evidence = e; cites = cites }

pub put_read-requires-clause-read : goal.put_read-requires-clause-read
put_read-requires-clause-read c =
    c.requires.read ∙ ap (λ (cites : List (List ℕ)). Ok (stated c.args.evidence cites)) (sym c.new-cites.ensures.items)

pub put_read-requires-clause-free : goal.put_read-requires-clause-free
put_read-requires-clause-free c =
    subst (λ (ps : List PieceValue). has_id c.args.id ps ≡ false) (c.deref.ensures.value ∙ c.self.view_is) c.in_ok-room_for.ensures.free

pub put_read-requires-clause-room : goal.put_read-requires-clause-room
put_read-requires-clause-room c =
    subst (λ (ps : List PieceValue). length ps < MAX_PIECES) (c.deref.ensures.value ∙ c.self.view_is) c.in_ok-room_for.ensures.room

pub returns-clause-accepted : goal.returns-clause-accepted
returns-clause-accepted c = c.put_read.ensures.accepted

pub returns-clause-supports : goal.returns-clause-supports
returns-clause-supports c = c.put_read.ensures.supports

pub returns-clause-standing : goal.returns-clause-standing
returns-clause-standing c = c.put_read.ensures.standing

pub returns-clause-fault : goal.returns-clause-fault
returns-clause-fault c = c.put_read.ensures.fault

pub returns-clause-unchanged : goal.returns-clause-unchanged
returns-clause-unchanged c = c.put_read.ensures.unchanged

pub put_read-requires-clause-named : goal.put_read-requires-clause-named
put_read-requires-clause-named c = c.in_ok-room_for.ensures.id
