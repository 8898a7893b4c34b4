use Rattle.std.proofs.Common.{List, option_map, sym, ap, ◌∙◌}
use Rattle.ct_build.specs.Build.{shape_of}
use Rattle.ct_kind.specs.Named.{code_named}
use Rattle.ct_piece.specs.Codes.{codes_of}
use Rattle.ct_piece.specs.Piece.{PieceValue}
use Rattle.ct_piece.proofs.CodeLemmas.{position-none}
use Rattle.ct_pieces.proofs.PartLemmas.{named-first}
use Rattle.ct_pieces.proofs.standing.StandingCodes.shape.Goals as goal

pub returns-in-Some-clause-shape : goal.returns-in-Some-clause-shape
returns-in-Some-clause-shape c =
    let ps = c.self.inside.pieces.now in
    c.shape_at.ensures.shape ∙ ap (option_map shape_of) (sym (named-first c.args.id ps c.in-Some.place (sym c.place_of.ensures ∙ c.in-Some.is)))
    ∙ ap (λ (qs : List PieceValue). option_map shape_of (code_named c.args.id (codes_of qs))) c.self.view_is

pub returns-in-None-clause-shape : goal.returns-in-None-clause-shape
returns-in-None-clause-shape c =
    let ps = c.self.inside.pieces.now in
    ap (option_map shape_of) (sym (position-none c.args.id ps (sym c.place_of.ensures ∙ c.in-None.is)))
    ∙ ap (λ (qs : List PieceValue). option_map shape_of (code_named c.args.id (codes_of qs))) c.self.view_is
