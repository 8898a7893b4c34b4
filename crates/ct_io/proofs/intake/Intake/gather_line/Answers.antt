use Rattle.std.proofs.Common.{◌≡◌, refl, sym, subst}
use Rattle.std.proofs.lemmas.Result.{err_from_is_err_and}
use Rattle.ct_io.specs.Inside.Buffer.{Buffer}
use Rattle.ct_io.specs.Lines.{IsLine}
use Rattle.ct_io.proofs.IntakeLemmas.{GathersLine-fault, GathersLine-line, GathersLine-none, HasGathered-more, HasGathered-none, HasGathered-same, ReadsOn-nearer}
use Rattle.ct_io.proofs.intake.Intake.gather_line.Goals as goal

-- the bytes held are no line's, also after the search
no_feed : (now was : Buffer) → now ≡ was → IsLine was.bytes → IsLine now.bytes
no_feed now was same line = subst (λ (b : Buffer). IsLine b.bytes) (sym same) line

pub loop-length-init : goal.loop-length-init
loop-length-init g c = HasGathered-none _ _ _ _ c.requires

pub loop-length-preserved : goal.loop-length-preserved
loop-length-preserved g c =
    let same = c.in_default.ensures.same in
    HasGathered-more _ _ _ c.args.self.now _ _ _ _ _ (HasGathered-same _ _ _ c.loop-length.self _ _ _ c.loop-length.invariant same refl refl) (no_feed _ _ same c.in_default.ensures.none) c.if-self.false c.in_ok-read_on.ensures

pub loop-length-smaller : goal.loop-length-smaller
loop-length-smaller g c = ReadsOn-nearer _ _ _ _ _ _ _ c.if-self.false c.in_ok-read_on.ensures

pub returns-in-Some : goal.returns-in-Some
returns-in-Some g c =
    let e = c.in-Some.ensures in
    GathersLine-line _ _ _ _ _ _ c.in-Some.length (HasGathered-same _ _ _ c.loop-length.self _ _ _ c.loop-length.invariant e.same refl refl) (rw e.same e.line) (rw e.same e.feed) e.all_kept

pub returns-then-self : goal.returns-then-self
returns-then-self g c =
    let e = c.in_default.ensures in
    GathersLine-none _ _ _ _ _ _ (HasGathered-same _ _ _ c.loop-length.self _ _ _ c.loop-length.invariant e.same refl refl) (no_feed _ _ e.same e.none) c.if-self.true e.all_kept

pub returns-in_err-read_on : goal.returns-in_err-read_on
returns-in_err-read_on g c =
    let same = c.in_default.ensures.same in
    let p = err_from_is_err_and c.from_residual.result c.from_residual.ensures.1 in
    rw (p.1, p.2)
    (GathersLine-fault _ _ c.args.self.now _ _ _ _ _ _ (HasGathered-same _ _ _ c.loop-length.self _ _ _ c.loop-length.invariant same refl refl) (no_feed _ _ same c.in_default.ensures.none) c.if-self.false c.in_err-read_on.ensures)
