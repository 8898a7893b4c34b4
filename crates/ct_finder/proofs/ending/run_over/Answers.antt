use Rattle.ct_finder.specs.Inside.Rows.{multipliers_of}
use Rattle.std.proofs.Common.{rules, ℕ, List, length, sym, ap, ap₂, ◌∙◌, subst}
use Rattle.std.specs.Prelude.{ℤ}
use Rattle.std.proofs.lemmas.List.{length-map}
use Rattle.std.proofs.lemmas.Int.{to_z-of_z}
use mir.Val.{SFits}
use mir.Syntax.{w128}
use Rattle.ct_finder.specs.Column.{columns, cost_entry}
use Rattle.ct_finder.specs.Run.{run}
use Rattle.ct_finder.specs.Sum.{HasWidth}
use Rattle.ct_finder.specs.Basic.{AreBasic}
use Rattle.ct_finder.specs.Ready.{seen}
use Rattle.ct_finder.specs.declared.ending.Ending.TheVariants.{Least, Wide}
use Rattle.ct_finder.specs.Ending.{ending_of}
use Rattle.ct_finder.proofs.OpeningLemmas.{least-width, least-solved}
use Rattle.ct_finder.proofs.ending.run_over.Goals as goal

pub multipliers-requires : goal.multipliers-requires
multipliers-requires g c =
    let s = c.args.scheme.now in
    let range = c.args.range.now in
    let degree = g.S.Scheme.degree s in
    let cs = columns range degree in
    let opened = c.in_ok-tableau.ensures.value in
    let wide = ap (λ t. length t.cost) opened ∙ length-map cs cost_entry in
    let ends = sym (c.in-Least.ensures.end range degree wide ∙ ap (run cs c.args.pivots) opened) in
    ap length c.as_slice.ensures.value ∙ (least-width (g.S.Scheme.number s) range degree c.args.pivots (seen c.run.new.tableau) ends).cost
    ∙ ap (λ (d : ℕ). length (columns range d)) (sym c.degree.ensures)

pub read_primal-requires-clause-width : goal.read_primal-requires-clause-width
read_primal-requires-clause-width g c =
    let s = c.args.scheme.now in
    let range = c.args.range.now in
    let degree = g.S.Scheme.degree s in
    let cs = columns range degree in
    let opened = c.in_ok-tableau.ensures.value in
    let wide = ap (λ t. length t.cost) opened ∙ length-map cs cost_entry in
    let ends = sym (c.in-Least.ensures.end range degree wide ∙ ap (run cs c.args.pivots) opened) in
    let has = least-width (g.S.Scheme.number s) range degree c.args.pivots (seen c.run.new.tableau) ends in
    subst (λ w. HasWidth w (seen c.run.new.tableau)) (sym has.cost) has

pub read_primal-requires-clause-basic : goal.read_primal-requires-clause-basic
read_primal-requires-clause-basic g c =
    let s = c.args.scheme.now in
    let range = c.args.range.now in
    let degree = g.S.Scheme.degree s in
    let cs = columns range degree in
    let opened = c.in_ok-tableau.ensures.value in
    let wide = ap (λ t. length t.cost) opened ∙ length-map cs cost_entry in
    let ends = sym (c.in-Least.ensures.end range degree wide ∙ ap (run cs c.args.pivots) opened) in
    let solved = least-solved (g.S.Scheme.number s) range degree c.args.pivots (seen c.run.new.tableau) c.requires.some ends in
    subst (λ w. AreBasic w (seen c.run.new.tableau)) (sym solved.kept.width.cost) solved.basic

pub returns-in-Least : goal.returns-in-Least
returns-in-Least g c =
    let s = c.args.scheme.now in
    let range = c.args.range.now in
    let degree = g.S.Scheme.degree s in
    let cs = columns range degree in
    let opened = c.in_ok-tableau.ensures.value in
    let wide = ap (λ t. length t.cost) opened ∙ length-map cs cost_entry in
    ap₂ Least
    (c.in_ok-c-in-Least.ensures ∙ ap (λ (d : ℕ). multipliers_of (columns range d) d c.as_slice.result.now) c.degree.ensures
    ∙ ap (λ (row : List ℤ). multipliers_of cs degree row) c.as_slice.ensures.value)
    c.in_ok-primal-in-Least.ensures
    ∙ ap (ending_of c.args.entry c.args.even range degree) (c.in-Least.ensures.end range degree wide ∙ ap (run cs c.args.pivots) opened)

pub returns-in-Turns : goal.returns-in-Turns
returns-in-Turns g c =
    let s = c.args.scheme.now in
    let range = c.args.range.now in
    let degree = g.S.Scheme.degree s in
    let cs = columns range degree in
    let opened = c.in_ok-tableau.ensures.value in
    let wide = ap (λ t. length t.cost) opened ∙ length-map cs cost_entry in
    ap (ending_of c.args.entry c.args.even range degree) (c.in-Turns.ensures.end range degree wide ∙ ap (run cs c.args.pivots) opened)

pub returns : goal.returns
returns g c =
    let s = c.args.scheme.now in
    let range = c.args.range.now in
    let degree = g.S.Scheme.degree s in
    let cs = columns range degree in
    let opened = c.in_ok-tableau.ensures.value in
    let wide = ap (λ t. length t.cost) opened ∙ length-map cs cost_entry in
    let fits : SFits w128 c.in-Wide.entry = search rules in
    ap (λ (z : ℤ). Wide z) (to_z-of_z w128 c.in-Wide.entry fits)
    ∙ ap (ending_of c.args.entry c.args.even range degree) (c.in-Wide.ensures.end range degree wide ∙ ap (run cs c.args.pivots) opened)
