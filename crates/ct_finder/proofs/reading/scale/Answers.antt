-- A row leads on or ends the search; at the end no row is left.
use Rattle.std.proofs.Common.{◌≡◌, ◌<◌, ◌+◌, ◌-◌, ◌^◌, false, [], drop, get_or, length, sym, ap, ◌∙◌, List, ℕ, arith}
use Rattle.std.specs.Prelude.{find, ℤ, fold}
use Rattle.std.proofs.lemmas.Bool.{le-ltb}
use Rattle.std.proofs.lemmas.List.{drop_all, drop_more}
use Rattle.ct_finder.specs.RunPrimal.{scales, next_scale}
use Rattle.ct_finder.proofs.RunPoints.{lines-count}
use Rattle.ct_finder.specs.Ready.{seen}
use Rattle.ct_finder.specs.declared.reading.Line.{Line}
use Rattle.ct_finder.specs.Reading.{is_large, large, scale_after, lines_seen}
use Rattle.ct_finder.proofs.ReadingLemmas.{of_a, scale-goes_on, scale-stops}
use Rattle.ct_finder.proofs.reading.scale.Goals as goal

-- a scale that is kept is not too large
narrow : (q : ℕ) → q < 2 ^ 63 → is_large q ≡ false
narrow q small = le-ltb (2 ^ 63 - 1) q (omega (arith, small))

pub loop-i-preserved : goal.loop-i-preserved
loop-i-preserved c =
    let lines = lines_seen c.args.tableau.now in
    let i = c.loop-i.i in
    let l = get_or lines i ([], 0) in
    let q = c.loop-i.q in
    let a = c.args.count in
    let rows = lines-count (seen c.args.tableau.now) c.requires.basic.count in
    let within : i < length lines = omega (arith, c.loop-i-test.true, c.len-i-end.ensures, rows) in
    let line_is = c.line_at.ensures.value in
    let none = c.in-Ok.ensures.fault ∙ ap (λ (x : Line). large (scale_after q x a)) line_is in
    let on = scale-goes_on a q l (drop (i + 1) lines) none (narrow q c.loop-i.invariant.3) in
    let next_is = c.in-Ok.ensures.value ∙ ap (λ (x : Line). scale_after q x a) line_is in
    let split = sym (drop_more lines i ([], 0) within) in (
      ap (λ (s : ℕ). fold next_scale s (of_a a (drop (i + 1) lines))) next_is ∙ on.0
          ∙ ap (λ (ls : List (List ℤ × ℕ)). fold next_scale q (of_a a ls)) split ∙ c.loop-i.invariant.0,
      ap (λ (s : ℕ). find is_large (scales s (of_a a (drop (i + 1) lines)))) next_is ∙ on.1
          ∙ ap (λ (ls : List (List ℤ × ℕ)). find is_large (scales q (of_a a ls))) split ∙ c.loop-i.invariant.1,
      c.in-Ok.ensures.some_of.0,
      c.in-Ok.ensures.some_of.1,
    )

pub returns-in-Err-clause-fault : goal.returns-in-Err-clause-fault
returns-in-Err-clause-fault c =
    let lines = lines_seen c.args.tableau.now in
    let i = c.loop-i.i in
    let l = get_or lines i ([], 0) in
    let q = c.loop-i.q in
    let a = c.args.count in
    let rows = lines-count (seen c.args.tableau.now) c.requires.basic.count in
    let within : i < length lines = omega (arith, c.loop-i-test.true, c.len-i-end.ensures, rows) in
    let some = c.in-Err.ensures.fault ∙ ap (λ (x : Line). large (scale_after q x a)) c.line_at.ensures.value in
    scale-stops a q l (drop (i + 1) lines) c.in-Err.number some (narrow q c.loop-i.invariant.3)
    ∙ ap (λ (ls : List (List ℤ × ℕ)). find is_large (scales q (of_a a ls))) (sym (drop_more lines i ([], 0) within)) ∙ c.loop-i.invariant.1

pub returns-clause-fault : goal.returns-clause-fault
returns-clause-fault c =
    let count = lines-count (seen c.args.tableau.now) c.requires.basic.count in
    ap (λ (ls : List (List ℤ × ℕ)). find is_large (scales c.loop-i.q (of_a c.args.count ls)))
    (sym (drop_all c.loop-i.i (lines_seen c.args.tableau.now) (omega (arith, c.loop-i-test.false, c.loop-i.auto, c.len-i-end.ensures, count))))
    ∙ c.loop-i.invariant.1

pub returns-clause-value : goal.returns-clause-value
returns-clause-value c =
    let count = lines-count (seen c.args.tableau.now) c.requires.basic.count in
    ap (λ (ls : List (List ℤ × ℕ)). fold next_scale c.loop-i.q (of_a c.args.count ls))
    (sym (drop_all c.loop-i.i (lines_seen c.args.tableau.now) (omega (arith, c.loop-i-test.false, c.loop-i.auto, c.len-i-end.ensures, count))))
    ∙ c.loop-i.invariant.0
