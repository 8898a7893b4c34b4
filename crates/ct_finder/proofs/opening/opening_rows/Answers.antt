use Rattle.ct_finder.specs.Sum.{opening_row}
use Rattle.std.proofs.Common.{◌≡◌, ℕ, suc, List, [], ◌∷◌, ◌++◌, map, add-one, sym, ap, ap₂, ◌∙◌, arith}
use Rattle.std.specs.Prelude.{ℤ}
use Rattle.std.specs.List.{range_with_len}
use Rattle.std.proofs.lemmas.List.FromFn.{map-range_with_len_more}
use Rattle.ct_finder.specs.Column.{columns}
use Rattle.ct_finder.proofs.opening.opening_rows.Goals as goal

pub loop-before-preserved : goal.loop-before-preserved
loop-before-preserved g c =
    let s = c.args.scheme.now in
    let row : ℕ → List ℤ = opening_row (g.S.Scheme.number s) (columns c.args.range.now (g.S.Scheme.degree s)) in
    let before = c.loop-before.before in
    c.in_ok-push.ensures.items
    ∙ ap₂ (λ (rs : List (List ℤ)) (r : List ℤ). rs ++ r ∷ []) c.loop-before.invariant (c.in_ok-opening_row.ensures ∙ ap row (add-one before))
    ∙ sym (map-range_with_len_more row 1 before (suc before) (omega arith))

pub returns : goal.returns
returns g c =
    let s = c.args.scheme.now in
    let row : ℕ → List ℤ = opening_row (g.S.Scheme.number s) (columns c.args.range.now (g.S.Scheme.degree s)) in
    let all : c.loop-before.before ≡ g.S.Scheme.degree s =
    omega (arith, c.loop-before-test.false, c.loop-before.auto, c.degree-before-end.ensures) in
    c.loop-before.invariant ∙ ap (λ n. map row (range_with_len 1 n)) all

pub opening_row-requires-clause-range : goal.opening_row-requires-clause-range
opening_row-requires-clause-range g c = c.requires.range
