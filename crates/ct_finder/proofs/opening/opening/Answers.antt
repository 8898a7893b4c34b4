use Rattle.ct_finder.specs.Inside.Rows.{rows_to}
use Rattle.std.proofs.Common.{ℕ, map, length, ap, ◌∙◌}
use Rattle.std.proofs.lemmas.List.{length-map}
use Rattle.ct_finder.specs.Column.{columns, place_of_column, cost_entry}
use Rattle.ct_finder.specs.Column.Column.{S}
use Rattle.ct_finder.proofs.OpeningLemmas.{ready-opening}
use Rattle.ct_finder.proofs.opening.opening.Goals as goal

pub returns-clause-value : goal.returns-clause-value
returns-clause-value g c =
    let range = c.args.range.now in
    let count = c.degree-degree.ensures in
    let basics = c.in_ok-basics.ensures ∙ ap (λ (d : ℕ). map (λ k. place_of_column (S k) (columns range d)) (rows_to d)) count in
    let cost = c.in_ok-cost.ensures ∙ ap (λ (d : ℕ). map cost_entry (columns range d)) count in
    λ i. record { rows = c.in_ok-rows.ensures i; basics = basics i; cost = cost i }

pub returns-clause-ready : goal.returns-clause-ready
returns-clause-ready g c =
    let s = c.args.scheme.now in
    let range = c.args.range.now in
    let count = c.degree-degree.ensures in
    let basics = c.in_ok-basics.ensures ∙ ap (λ (d : ℕ). map (λ k. place_of_column (S k) (columns range d)) (rows_to d)) count in
    let cost = c.in_ok-cost.ensures ∙ ap (λ (d : ℕ). map cost_entry (columns range d)) count in
    let pivot = c.in_ok-pivot.ensures ∙ ap (λ (d : ℕ). map cost_entry (columns range d)) count in
    ready-opening
    (record { rows = c.in_ok-rows.rows; basics = c.in_ok-basics.basics; cost = c.in_ok-cost.cost; pivot = c.in_ok-pivot.pivot })
    (g.S.Scheme.number s) range (g.S.Scheme.degree s) (λ i. record { rows = c.in_ok-rows.ensures i; basics = basics i; cost = cost i })
    (ap length pivot ∙ length-map (columns range (g.S.Scheme.degree s)) cost_entry)
