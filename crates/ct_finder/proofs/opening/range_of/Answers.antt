use Rattle.std.proofs.Common.{◌≡◌, suc, ◌++◌, [], ◌∷◌, sym, ap, ◌∙◌, arith}
use Rattle.std.specs.Prelude.{filter}
use Rattle.std.specs.List.{range_with_len}
use Rattle.ct_duals.specs.Dual.{degree_of, is_in_range}
use Rattle.ct_finder.proofs.RangeLemmas.{filter_range-more_yes, filter_range-more_no}
use Rattle.ct_finder.proofs.opening.range_of.Goals as goal
use Rattle.ct_finder.proofs.opening.range_of.Goals.{then-is_in_range+in_ok-push, else-is_in_range}

pub loop-i-preserved : goal.loop-i-preserved
loop-i-preserved c =
    let test = is_in_range c.args.entry c.args.even in
    let i = c.loop-i.i in
    elim c.if-is_in_range.branch [
      | then-is_in_range+in_ok-push w ↦
          ap (λ v. v.items) w.range-is ∙ w.in_ok-push.ensures.items ∙ ap (λ z. z ++ i ∷ []) c.loop-i.invariant
          ∙ filter_range-more_yes test i (sym c.is_in_range.ensures ∙ w.if-is_in_range.true)
      | else-is_in_range w ↦
          ap (λ v. v.items) w.range-is ∙ c.loop-i.invariant
          ∙ filter_range-more_no test i (sym c.is_in_range.ensures ∙ w.if-is_in_range.false)
    ]

pub returns : goal.returns
returns c =
    let test = is_in_range c.args.entry c.args.even in
    let all : c.loop-i.i ≡ suc (degree_of c.args.entry) = let count = c.degree-i-end.ensures.value in omega arith in
    c.loop-i.invariant ∙ ap (λ n. filter test (range_with_len 0 n)) all
