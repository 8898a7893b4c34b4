use Rattle.std.proofs.Common.{List, sym, subst}
use Rattle.ct_kind.specs.declared.evidence.Evidence.{Evidence}
use Rattle.ct_files.specs.Evidence.{IsSound}
use Rattle.ct_piece.specs.Codes.{codes_of}
use Rattle.ct_piece.specs.Piece.{PieceValue}
use Rattle.ct_files.specs.Checked.{IsCheck}
use Rattle.ct_pieces.proofs.kinds.check.Goals as goal

pub check_build-requires-clause-fits : goal.check_build-requires-clause-fits
check_build-requires-clause-fits c = (subst IsSound c.in-Some.ensures.some c.requires.sound).0

pub returns-in-Some-clause-check : goal.returns-in-Some-clause-check
returns-in-Some-clause-check c =
    subst (λ (evidence : Evidence). IsCheck (codes_of c.args.pieces.now) evidence c.check_build.result) (sym c.in-Some.ensures.some) c.check_build.ensures.check

pub returns-in-None-clause-check : goal.returns-in-None-clause-check
returns-in-None-clause-check c =
    subst (λ (ps : List PieceValue). IsCheck (codes_of ps) c.args.evidence.now c.check_listed.result) c.new.ensures c.check_listed.ensures
