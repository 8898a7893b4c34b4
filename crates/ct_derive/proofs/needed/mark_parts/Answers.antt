use Rattle.std.proofs.Common.{List, Bool, ℕ, ◌<◌, All, length, ap, subst, sym, ◌∙◌, arith}
use Rattle.std.proofs.lemmas.List.Elements.{All-weaker}
use Rattle.ct_derive.specs.Pruning.{with_marks}
use Rattle.ct_derive.specs.Inside.Needed.{AreMarkedPieces}
use Rattle.ct_derive.proofs.NeededPieces.{pieces_unmarked, pieces_marked}
use Rattle.ct_derive.proofs.needed.mark_parts.Goals as goal

pub returns-then-not-marks-place : goal.returns-then-not-marks-place
returns-then-not-marks-place g c = λ lines h.
    pieces_unmarked c.args.place (g.P.PieceParts.parts_of c.args.pieces.now) lines c.args.marks.now c.if-not-marks-place.true h

pub mark-requires : goal.mark-requires
mark-requires g c =
    let below = c.requires.earlier c.args.place c.in_ok-parts.parts c.in_ok-parts.ensures in
    subst (λ (places : List ℕ). All (λ p. p < length c.args.marks.now) places) (sym c.places.ensures)
    (All-weaker (λ p. p < c.args.place) (λ p. p < length c.args.marks.now) (λ p lower. omega (arith, c.requires.size, c.requires.place))
    c.in_ok-parts.parts below)

pub returns : goal.returns
returns g c = λ lines h.
    let parts = g.P.PieceParts.parts_of c.args.pieces.now in
    let own = c.in_ok-parts.parts in
    let at = c.in_ok-parts.ensures in
    let marks_are = c.mark.ensures ∙ ap (λ (places : List ℕ). with_marks places c.args.marks.now) c.places.ensures in
    subst (λ (marks : List Bool). AreMarkedPieces c.args.place (g.P.PieceParts.parts_of c.args.pieces.now) lines marks) (sym marks_are)
    (pieces_marked c.args.place own parts lines c.args.marks.now c.if-not-marks-place.false at (c.requires.earlier c.args.place own at) h)
