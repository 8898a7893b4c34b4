use Rattle.std.proofs.Common.{◌≡◌, ◌+◌, ◌-◌, sym, subst, arith}
use Rattle.ct_derive.specs.Inside.Needed.{AreMarkedPieces}
use Rattle.ct_derive.proofs.needed.mark_all_parts.Goals as goal

pub loop-place-preserved : goal.loop-place-preserved
loop-place-preserved g c =
    let same : c.loop-place.place ≡ c.loop-place.place - 1 + 1 = omega (arith, c.loop-place-test.true) in (
      omega (arith, c.loop-place.invariant.0),
      λ lines h. c.in_ok-mark_parts.ensures lines
          (subst (λ n. AreMarkedPieces n (g.P.PieceParts.parts_of c.args.pieces.now) lines c.loop-place.marks) same (c.loop-place.invariant.1 lines h)),
    )

pub returns : goal.returns
returns g c = λ lines h.
    let none : c.loop-place.place ≡ 0 = omega (arith, c.loop-place-test.false) in
    subst (λ n. AreMarkedPieces n (g.P.PieceParts.parts_of c.args.pieces.now) lines c.loop-place.marks) none (c.loop-place.invariant.1 lines h)

pub loop-place-init : goal.loop-place-init
loop-place-init g c = (
  omega (arith, c.count-place.ensures),
  λ lines h. subst (λ n. AreMarkedPieces n (g.P.PieceParts.parts_of c.args.pieces.now) lines c.args.marks.now) (sym c.count-place.ensures) h,
)

pub mark_parts-requires-clause-earlier : goal.mark_parts-requires-clause-earlier
mark_parts-requires-clause-earlier g c = c.requires.earlier
