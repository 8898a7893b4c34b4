-- The pivot entry is positive, and a pivot leaves the tableau ready.
use Rattle.std.proofs.Common.{refl, ◌≡◌, ◌<◌, List, All, length, sym, ap, ap₂, subst, ◌∙◌, arith}
use Rattle.std.specs.Prelude.{ℤ, Some}
use Rattle.std.proofs.lemmas.Option.{none-some}
use Rattle.ct_finder.specs.Pivot.{pivot_row}
use Rattle.ct_finder.proofs.TurnedTableaus.{pivot_row-is}
use Rattle.ct_finder.specs.Ready.{seen}
use Rattle.ct_finder.proofs.Ready.{ready-pivoted}
use Rattle.ct_finder.proofs.running.step.Goals as goal

pub pivot_on-requires-clause-positive : goal.pivot_on-requires-clause-positive
pivot_on-requires-clause-positive c =
    let t = seen c.args.tableau.now in
    let e = c.in-Some.e in
    let found : pivot_row e t ≡ Some c.in-Some-pivot_row.place =
    sym (c.in-Some-pivot_row.ensures.value t.cost
    ∙ ap₂ (λ r b. pivot_row e (record { rows = r; basics = b; cost = t.cost })) c.deref.ensures.value c.deref-2.ensures.value) in
    (pivot_row-is e t c.in-Some-pivot_row.place found).1

pub returns-in-None-clause-ready : goal.returns-in-None-clause-ready
returns-in-None-clause-ready c = λ none.
    let rows = ap length c.deref.ensures.value in
    let within = c.in-Some-pivot_row.ensures.within in
    (ready-pivoted c.args.tableau.now c.pivot_on.new.self c.in-Some.e c.in-Some-pivot_row.place c.requires (omega arith)
    (c.in-None.ensures.pivoted refl) c.in-None.ensures.pivot).0

pub returns-in-None-clause-width : goal.returns-in-None-clause-width
returns-in-None-clause-width c = λ none.
    let rows = ap length c.deref.ensures.value in
    let within = c.in-Some-pivot_row.ensures.within in
    (ready-pivoted c.args.tableau.now c.pivot_on.new.self c.in-Some.e c.in-Some-pivot_row.place c.requires (omega arith)
    (c.in-None.ensures.pivoted refl) c.in-None.ensures.pivot).1

pub returns-in-Some-pivot_on-clause-width : goal.returns-in-Some-pivot_on-clause-width
returns-in-Some-pivot_on-clause-width c = λ some. absurd (none-some _ (sym some))

pub pivot_row-requires-clause-width : goal.pivot_row-requires-clause-width
pivot_row-requires-clause-width c =
    let t = seen c.args.tableau.now in
    let column = subst (λ (r : List ℤ). c.in-Some.e < length r) c.as_slice.ensures.value c.in-Some.ensures.within in
    subst (λ (rows : List (List ℤ)). All (λ row. c.in-Some.e < length row) rows) (sym c.deref.ensures.value)
    (λ k d within. subst (λ n. c.in-Some.e < n) (sym (c.requires.width.rows k d within)) column)

pub returns-in-Some-pivot_on-clause-ready : goal.returns-in-Some-pivot_on-clause-ready
returns-in-Some-pivot_on-clause-ready c = λ some. absurd (none-some _ (sym some))

pub pivot_on-requires-clause-column : goal.pivot_on-requires-clause-column
pivot_on-requires-clause-column c = subst (λ (r : List ℤ). c.in-Some.e < length r) c.as_slice.ensures.value c.in-Some.ensures.within

pub returns-in_default-pivot_row-clause-ready : goal.returns-in_default-pivot_row-clause-ready
returns-in_default-pivot_row-clause-ready c = λ none. c.requires
