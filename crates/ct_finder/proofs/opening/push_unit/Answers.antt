use Rattle.std.proofs.Common.{suc, List, [], ◌∷◌, ◌++◌, add-one, append_assoc, sym, ap, ap₂, ◌∙◌, arith}
use Rattle.std.specs.Prelude.{ℤ}
use Rattle.std.proofs.lemmas.Int.{to_z-of_z}
use mir.Val.{SFits}
use mir.Syntax.{w64}
use Rattle.std.proofs.lemmas.List.FromFn.{map-range_with_len_more}
use Rattle.std.specs.List.{range_with_len}
use Rattle.std.proofs.Common.{map}
use Rattle.ct_finder.proofs.OpeningLemmas.{unit, same_number}
use Rattle.ct_finder.proofs.opening.push_unit.Goals as goal

pub loop-before-preserved : goal.loop-before-preserved
loop-before-preserved c =
    let k = c.args.k in
    let before = c.loop-before.before in
    let old = c.args.entries.now.items in
    let fits : SFits w64 c.unit.result = record { sfits = c.unit.type_inv } in
    let pushed = to_z-of_z w64 c.unit.result fits ∙ c.unit.ensures ∙ ap (unit k) (add-one before) in
    c.in_ok-push.ensures.items ∙ ap₂ (λ (xs : List ℤ) (x : ℤ). xs ++ x ∷ []) c.loop-before.invariant pushed
    ∙ append_assoc old (map (unit k) (range_with_len 1 before)) (unit k (suc before) ∷ [])
    ∙ ap (λ xs. old ++ xs) (sym (map-range_with_len_more (unit k) 1 before (suc before) (omega arith)))

pub returns : goal.returns
returns c =
    c.loop-before.invariant
    ∙ ap (λ n. c.args.entries.now.items ++ map (unit c.args.k) (range_with_len 1 n))
    (same_number c.loop-before.before c.args.degree c.loop-before.auto.before-end c.loop-before-test.false)
