-- One row more.
use Rattle.std.proofs.Common.{ℕ, refl, take_all, ◌≡◌, ◌<◌, true, false, List, [], length, get_or, take, sym, ap, ◌∙◌, arith}
use Rattle.std.specs.Prelude.{find, flat_map, ℤ, Option, Some, None}
use Rattle.std.specs.Option.{is_some}
use Rattle.std.proofs.lemmas.List.{get_or_default}
use Rattle.std.proofs.lemmas.List.Elements.{All-get_or}
use Rattle.ct_finder.specs.Pivot.{is_wide, pivoted_row}
use Rattle.ct_finder.proofs.Written.{written-more, written-at}
use Rattle.ct_finder.proofs.PivotedRows.{targets, length-targets, target-own, target-other, find-narrow, find-row_more, find-row_here, written-own}
use Rattle.ct_finder.proofs.tableau.pivot_other_rows.Goals as goal
use Rattle.ct_finder.proofs.tableau.pivot_other_rows.Goals.{then-i-place+else-is_some, else-i-place}

pub pivot_on-wide-requires-clause-width : goal.pivot_on-wide-requires-clause-width
pivot_on-wide-requires-clause-width c =
    let ts = targets c.args.e c.args.pivot.now c.args.place c.args.rows.now in
    let row = c.index-rows-i.result in
    let same = written-at ts c.args.rows.now c.loop-i.rows c.loop-i.i row c.loop-i.invariant.0 in
    ap length same ∙ All-get_or (λ r. length r ≡ length c.args.pivot.now) c.args.rows.now c.loop-i.i row (omega arith) c.requires.width

none_from : (o : Option ℤ) → is_some o ≡ false → o ≡ None
none_from None h = refl
none_from (Some x) h = absurd cc

pub loop-i-preserved : goal.loop-i-preserved
loop-i-preserved c =
    let rows = c.args.rows.now in
    let pivot = c.args.pivot.now in
    let i = c.loop-i.i in
    let ts = targets c.args.e pivot c.args.place rows in
    let count = length-targets c.args.e pivot c.args.place rows in
    let was = c.loop-i.invariant.0 in
    let none = c.loop-i.invariant.1 in
    let within : i < length rows = c.loop-i-test.true in
    elim c.if-i-place.branch [
      | then-i-place+else-is_some w ↦
          let row = w.index-rows-i.result in
          let target = target-other c.args.e pivot c.args.place i rows within w.if-i-place.true in
          let here : get_or c.loop-i.rows i row ≡ get_or rows i [] = written-at ts rows c.loop-i.rows i row was ∙ get_or_default rows i row [] within in
          let no_entry : w.pivot_on-wide.result ≡ None = none_from w.pivot_on-wide.result (sym w.is_some.ensures ∙ w.if-is_some.false) in
          let new_is : w.pivot_on-wide.new.self ≡ get_or ts i [] =
          w.pivot_on-wide.ensures.row no_entry ∙ ap (pivoted_row c.args.e pivot) here ∙ sym target in
          let narrow : find is_wide (get_or ts i []) ≡ None =
          ap (find is_wide) target ∙ sym (ap (λ r. find is_wide (pivoted_row c.args.e pivot r)) here) ∙ sym w.pivot_on-wide.ensures.wide ∙ no_entry in
          rw w.rows-is (
            written-more ts rows c.loop-i.rows i w.pivot_on-wide.new.self [] (omega arith) (omega arith) new_is was,
            find-row_more ts i (omega arith) none narrow,
          )
      | else-i-place w ↦
          let here : i ≡ c.args.place = w.if-i-place.false in
          let own : get_or ts i [] ≡ pivot = ap (λ k. get_or ts k []) here ∙ target-own c.args.e pivot c.args.place rows c.requires.place in
          let kept : get_or c.loop-i.rows i [] ≡ get_or ts i [] =
          written-at ts rows c.loop-i.rows i [] was ∙ ap (λ k. get_or rows k []) here ∙ c.requires.own ∙ sym own in
          rw w.rows-is (
            written-own ts rows c.loop-i.rows i (omega arith) (omega arith) kept was,
            find-row_more ts i (omega arith) none (ap (find is_wide) own ∙ find-narrow pivot c.requires.narrow),
          )
    ]

found : (ts : List (List ℤ)) (i : ℕ) (o : Option ℤ) → i < length ts → find is_wide (flat_map (λ row. row) (take i ts)) ≡ None
    → o ≡ find is_wide (get_or ts i []) → is_some o ≡ true → o ≡ find is_wide (flat_map (λ row. row) ts)
found ts i None within none is h = absurd cc
found ts i (Some x) within none is h = sym (find-row_here ts i x within none (sym is))

pub returns-then-is_some-clause-wide : goal.returns-then-is_some-clause-wide
returns-then-is_some-clause-wide c =
    let rows = c.args.rows.now in
    let pivot = c.args.pivot.now in
    let i = c.loop-i.i in
    let ts = targets c.args.e pivot c.args.place rows in
    let count = length-targets c.args.e pivot c.args.place rows in
    let within : i < length rows = c.loop-i-test.true in
    let row = c.index-rows-i.result in
    let target = target-other c.args.e pivot c.args.place i rows within c.if-i-place.true in
    let here : get_or c.loop-i.rows i row ≡ get_or rows i [] =
    written-at ts rows c.loop-i.rows i row c.loop-i.invariant.0 ∙ get_or_default rows i row [] within in
    let entry : c.pivot_on-wide.result ≡ find is_wide (get_or ts i []) =
    c.pivot_on-wide.ensures.wide ∙ ap (λ r. find is_wide (pivoted_row c.args.e pivot r)) here ∙ sym (ap (find is_wide) target) in
    found ts i c.pivot_on-wide.result (omega arith) c.loop-i.invariant.1 entry (sym c.is_some.ensures ∙ c.if-is_some.true)

pub returns-clause-wide : goal.returns-clause-wide
returns-clause-wide c =
    let ts = targets c.args.e c.args.pivot.now c.args.place c.args.rows.now in
    let count = length-targets c.args.e c.args.pivot.now c.args.place c.args.rows.now in
    sym (ap (λ rs. find is_wide (flat_map (λ row. row) rs)) (sym (take_all c.loop-i.i ts (omega arith))) ∙ c.loop-i.invariant.1)
