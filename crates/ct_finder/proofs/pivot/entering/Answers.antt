-- The first negative entry.
use Rattle.std.proofs.Common.{rules, ◌≡◌, false, get_or, sym, arith, inl, inr, ap, ◌∙◌}
use Rattle.std.specs.Prelude.{pos, int_lt}
use Rattle.std.proofs.lemmas.Int.{to_z-of_z}
use Rattle.std.proofs.lemmas.Bool.{cases_lt}
use mir.Val.{SFits}
use mir.Syntax.{w64}
use Rattle.ct_finder.proofs.Entering.{entering-found, entering-none}
use Rattle.ct_finder.proofs.pivot.entering.Goals as goal

pub loop-j-preserved : goal.loop-j-preserved
loop-j-preserved c = λ m some less. elim (cases_lt m c.loop-j.j) [
  | inl before ↦ c.loop-j.invariant m some before
  | inr here ↦
      let same : c.loop-j.j ≡ m = omega arith in
      let f : SFits w64 (get_or c.args.cost.now c.loop-j.j (pos 0)) = search rules in
      let test : int_lt (get_or c.args.cost.now c.loop-j.j (pos 0)) (pos 0) ≡ false = simp to_z-of_z at c.if-cost-j-lt0.false in
      ap (λ k. int_lt (get_or c.args.cost.now k (pos 0)) (pos 0)) (sym same) ∙ test
]

pub returns-then-cost-j-lt0-clause-value : goal.returns-then-cost-j-lt0-clause-value
returns-then-cost-j-lt0-clause-value c = λ range degree same.
    let f : SFits w64 (get_or c.args.cost.now c.loop-j.j (pos 0)) = search rules in
    sym (entering-found range degree c.args.cost.now c.loop-j.j same (omega arith) (omega arith) c.loop-j.invariant (simp to_z-of_z at c.if-cost-j-lt0.true))

pub returns-clause-value : goal.returns-clause-value
returns-clause-value c = λ range degree same.
    sym (entering-none range degree c.args.cost.now c.loop-j.j same (omega arith) c.loop-j.invariant)
