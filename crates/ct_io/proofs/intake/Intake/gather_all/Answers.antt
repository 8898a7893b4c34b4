use Rattle.std.proofs.Common.{subst, sym, refl, ap, ◌∙◌, arith, List, ℕ, length}
use Rattle.std.specs.Io.KnownBytes.{Consumes}
use Rattle.std.proofs.KnownBytes.{Consumes-nil}
use Rattle.std.proofs.lemmas.Result.{err_from_is_err_and}
use Rattle.ct_io.proofs.InputLemmas.{gathered_fault, gathered_end, gathered_long, gathered_more}
use Rattle.ct_io.proofs.intake.Intake.gather_all.Goals as goal

pub loop-count-init : goal.loop-count-init
loop-count-init g c = record {
  consumed = subst (Consumes (g.S.Source.left c.args.source.now) (g.S.Source.left c.args.source.now)) (sym c.requires.none) (Consumes-nil (g.S.Source.left c.args.source.now));
  count = c.requires.taken ∙ ap (λ (bytes : List ℕ). length bytes) (sym c.requires.none);
  within = omega (arith, c.requires.taken);
  counted = omega arith;
}

pub returns-in_err-count : goal.returns-in_err-count
returns-in_err-count g c =
    let h = c.loop-count.invariant in
    let p = err_from_is_err_and c.from_residual.result c.from_residual.ensures.1 in
    rw (p.1, p.2) (gathered_fault _ _ _ _ _ _ _ _ _ _ _ h.consumed h.count h.within h.counted c.in_err-count.ensures.fills)

pub returns-then-count-eq0 : goal.returns-then-count-eq0
returns-then-count-eq0 g c =
    let h = c.loop-count.invariant in
    gathered_end _ _ _ _ _ _ _ _ _ _ _ h.consumed h.count h.within h.counted c.if-count-eq0.true c.in_ok-count.ensures.fills

pub returns-then-taken-gt-MAX_INPUT : goal.returns-then-taken-gt-MAX_INPUT
returns-then-taken-gt-MAX_INPUT g c =
    let h = c.loop-count.invariant in
    gathered_long _ _ _ _ _ _ _ _ _ _ _ c.in_ok-count.count h.consumed h.count h.within h.counted refl c.if-taken-gt-MAX_INPUT.true c.loop-count.self.piece_len c.in_ok-count.ensures.fills

pub loop-count-preserved : goal.loop-count-preserved
loop-count-preserved g c = gathered_more _ _ _ _ _ _ _ _ _ _ _ c.in_ok-count.count c.loop-count.invariant refl c.if-taken-gt-MAX_INPUT.false c.in_ok-count.ensures.fills
