-- The best of all rows.
use Rattle.std.proofs.Common.{◌≡◌, true, false, length, sym, ◌∙◌, arith, subst}
use Rattle.std.specs.Prelude.{zip}
use Rattle.std.proofs.lemmas.Slice.Zip.{length-zip}
use Rattle.ct_finder.specs.Inside.Pivot.{is_better}
use Rattle.ct_finder.proofs.Best.{IsBest, best-better, best-same, best-all}
use Rattle.ct_finder.proofs.pivot.pivot_row.Goals as goal
use Rattle.ct_finder.proofs.pivot.pivot_row.Goals.{then-is_better, else-is_better}

pub loop-i-preserved : goal.loop-i-preserved
loop-i-preserved c =
    let rows = c.args.rows.now in
    let lines = zip rows c.args.basics.now in
    let i = c.loop-i.i in
    let was = c.loop-i.invariant.0 in
    elim c.if-is_better.branch [
      | then-is_better w ↦
          let better : is_better c.args.e lines c.loop-i.best i ≡ true = sym c.is_better.ensures ∙ w.if-is_better.true in
          rw w.best-is (best-better c.args.e lines i c.loop-i.best was better, c.loop-i-test.true)
      | else-is_better w ↦
          let same : is_better c.args.e lines c.loop-i.best i ≡ false = sym c.is_better.ensures ∙ w.if-is_better.false in
          rw w.best-is (best-same c.args.e lines i c.loop-i.best was same, c.loop-i.invariant.1)
    ]

pub returns-clause-value : goal.returns-clause-value
returns-clause-value c = λ cost.
    let rows = c.args.rows.now in
    let lines = zip rows c.args.basics.now in
    let count = length-zip rows c.args.basics.now in
    let whole : c.loop-i.i ≡ length lines = omega arith in
    best-all c.args.e lines c.loop-i.best (subst (λ k. IsBest c.args.e lines k c.loop-i.best) whole c.loop-i.invariant.0)
