-- No row is left.
use Rattle.std.proofs.Common.{◌+◌, ◌<◌, [], drop, get_or, map, sym, ap, subst, ◌∙◌, List, ℕ, arith}
use Rattle.std.specs.Prelude.{find, ℤ}
use Rattle.std.proofs.lemmas.List.{at_drop_more, drop_all}
use Rattle.ct_finder.specs.RunPrimal.{scaled}
use Rattle.ct_finder.proofs.RunPoints.{lines-count}
use Rattle.ct_finder.specs.Ready.{seen}
use Rattle.ct_finder.specs.Reading.{is_large, large_after, lines_seen}
use Rattle.ct_finder.specs.declared.reading.Line.{Line}
use Rattle.ct_finder.proofs.ReadingLemmas.{of_a, number-goes_on, number-stops}
use Rattle.ct_finder.proofs.reading.large_number.Goals as goal

pub returns-clause-value : goal.returns-clause-value
returns-clause-value c =
    let count = lines-count (seen c.args.tableau.now) c.requires.basic.count in
    ap (λ (ls : List (List ℤ × ℕ)). find is_large (map (scaled c.args.q) (of_a c.args.count ls)))
    (sym (drop_all c.loop-i.i (lines_seen c.args.tableau.now) (omega (arith, c.loop-i-test.false, c.loop-i.auto, c.len-i-end.ensures, count))))
    ∙ c.loop-i.invariant

pub loop-i-preserved : goal.loop-i-preserved
loop-i-preserved c =
    let lines = lines_seen c.args.tableau.now in
    let count = c.len-i-end.ensures ∙ c.args.tableau.now.rows.ok.0 ∙ sym (lines-count (seen c.args.tableau.now) c.requires.basic.count) in
    let within = subst (λ n. c.loop-i.i < n) count c.loop-i-test.true in
    number-goes_on c.args.count c.args.q (get_or lines c.loop-i.i ([], 0)) (drop (c.loop-i.i + 1) lines)
    (c.in_default.ensures.value ∙ ap (λ (l : Line). large_after c.args.q l c.args.count) c.line_at.ensures.value)
    ∙ sym (at_drop_more (λ (ls : List (List ℤ × ℕ)). find is_large (map (scaled c.args.q) (of_a c.args.count ls))) (lines_seen c.args.tableau.now)
    c.loop-i.i ([], 0) within)
    ∙ c.loop-i.invariant

pub returns-in-Some-clause-value : goal.returns-in-Some-clause-value
returns-in-Some-clause-value c =
    let lines = lines_seen c.args.tableau.now in
    let count = c.len-i-end.ensures ∙ c.args.tableau.now.rows.ok.0 ∙ sym (lines-count (seen c.args.tableau.now) c.requires.basic.count) in
    let within = subst (λ n. c.loop-i.i < n) count c.loop-i-test.true in
    number-stops c.args.count c.args.q (get_or lines c.loop-i.i ([], 0)) (drop (c.loop-i.i + 1) lines) c.in-Some.number
    (c.in-Some.ensures.value ∙ ap (λ (l : Line). large_after c.args.q l c.args.count) c.line_at.ensures.value)
    ∙ sym (at_drop_more (λ (ls : List (List ℤ × ℕ)). find is_large (map (scaled c.args.q) (of_a c.args.count ls))) (lines_seen c.args.tableau.now)
    c.loop-i.i ([], 0) within)
    ∙ c.loop-i.invariant
