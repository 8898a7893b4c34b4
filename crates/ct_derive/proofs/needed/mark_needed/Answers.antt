use Rattle.std.proofs.Common.{Bool, false, ℕ, ◌<◌, List, All, length, ap, sym, subst, ◌∙◌}
use Rattle.std.proofs.lemmas.List.{length-replicate}
use Rattle.std.proofs.lemmas.Result.{on_ok_weaker}
use Rattle.ct_derive.specs.Pieces.{cited_places}
use Rattle.ct_derive.specs.Inside.Needed.{AreMarkedPieces}
use Rattle.ct_derive.proofs.NeededPieces.{pieces_begin}
use Rattle.ct_derive.proofs.needed.mark_needed.Goals as goal

pub returns : goal.returns
returns g c =
    let parts = g.P.PieceParts.parts_of c.args.pieces.now in
    let lines = c.args.lines.now in
    on_ok_weaker c.mark_all_parts.result
    (λ each. each lines
    (subst (λ (marks : List Bool). AreMarkedPieces (length (g.P.PieceParts.parts_of c.args.pieces.now)) (g.P.PieceParts.parts_of c.args.pieces.now) c.args.lines.now marks)
    (sym c.mark_cited_by.ensures) (pieces_begin parts lines c.args.marks.now c.requires.none c.requires.cited)))
    c.mark_all_parts.ensures

pub mark_cited_by-requires : goal.mark_cited_by-requires
mark_cited_by-requires g c =
    let size = ap length c.requires.none ∙ length-replicate (length (g.P.PieceParts.parts_of c.args.pieces.now)) false in
    subst (λ (n : ℕ). All (λ p. p < n) (cited_places c.args.lines.now)) (sym size) c.requires.cited

pub mark_all_parts-requires-clause-size : goal.mark_all_parts-requires-clause-size
mark_all_parts-requires-clause-size g c =
    c.mark_cited_by.auto.marks ∙ ap length c.requires.none ∙ length-replicate (length (g.P.PieceParts.parts_of c.args.pieces.now)) false

pub mark_all_parts-requires-clause-earlier : goal.mark_all_parts-requires-clause-earlier
mark_all_parts-requires-clause-earlier g c = c.requires.earlier
