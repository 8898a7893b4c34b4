-- The rows, then the cost row.
use Rattle.std.proofs.Common.{◌≡◌, true, false, ◌<◌, ◌++◌, List, [], length, drop, All, get_or, refl, sym, ap, subst, ◌∙◌}
use Rattle.std.specs.Prelude.{find, flat_map, set, ℤ, pos, ◌≤ℤ◌, Option, Some, None}
use Rattle.std.specs.Option.{is_some, option_or}
use Rattle.std.proofs.lemmas.Bool.{false≢true}
use Rattle.std.proofs.lemmas.List.{get_or_default, take_at}
use Rattle.std.proofs.lemmas.List.Folds.{find-append}
use Rattle.ct_finder.specs.Pivot.{at, is_wide, pivoted_row, pivoted}
use Rattle.ct_finder.specs.Ready.{seen}
use Rattle.ct_finder.proofs.PivotedRows.{targets}
use Rattle.ct_finder.proofs.tableau.Tableau.pivot_on.Goals as goal

in_rows : (o : Option ℤ) (front cost : List ℤ) → is_some o ≡ true → o ≡ find is_wide front → o ≡ find is_wide (front ++ cost)
in_rows None front cost h is = absurd cc
in_rows (Some x) front cost h is = sym (find-append is_wide front cost ∙ ap (λ o. option_or o (find is_wide cost)) (sym is))

in_cost : (o p : Option ℤ) (front cost : List ℤ) → is_some o ≡ false → o ≡ find is_wide front → p ≡ find is_wide cost → p ≡ find is_wide (front ++ cost)
in_cost (Some x) p front cost h is last = absurd cc
in_cost None p front cost h is last = last ∙ sym (find-append is_wide front cost ∙ ap (λ o. option_or o (find is_wide cost)) (sym is))

none_where : (o : Option ℤ) → is_some o ≡ false → o ≡ None
none_where None h = refl
none_where (Some x) h = absurd (false≢true (sym h))

pub returns-then-is_some-clause-wide : goal.returns-then-is_some-clause-wide
returns-then-is_some-clause-wide c =
    let t = seen c.args.self.now in
    let pivot = c.copy_from.new.self in
    let own : pivot ≡ get_or t.rows c.args.place [] =
    c.copy_from.ensures.value ∙ c.index.ensures ∙ get_or_default t.rows c.args.place c.index.result.now [] c.requires.place in
    let rows : c.pivot_other_rows-wide.result ≡ find is_wide (flat_map (λ (row : List ℤ). row) (targets c.args.e (get_or t.rows c.args.place []) c.args.place t.rows)) =
    c.pivot_other_rows-wide.ensures.wide
    ∙ ap (λ rs. find is_wide (flat_map (λ row. row) (targets c.args.e pivot c.args.place rs))) c.deref_mut.ensures.value
    ∙ ap (λ p. find is_wide (flat_map (λ row. row) (targets c.args.e p c.args.place t.rows))) own in
    in_rows c.pivot_other_rows-wide.result (flat_map (λ row. row) (targets c.args.e (get_or t.rows c.args.place []) c.args.place t.rows))
    (pivoted c.args.e c.args.place t).cost (sym c.is_some.ensures ∙ c.if-is_some.true) rows

pub returns-clause-wide : goal.returns-clause-wide
returns-clause-wide c =
    let t = seen c.args.self.now in
    let pivot = c.copy_from.new.self in
    let own : pivot ≡ get_or t.rows c.args.place [] =
    c.copy_from.ensures.value ∙ c.index.ensures ∙ get_or_default t.rows c.args.place c.index.result.now [] c.requires.place in
    let rows : c.pivot_other_rows-wide.result ≡ find is_wide (flat_map (λ (row : List ℤ). row) (targets c.args.e (get_or t.rows c.args.place []) c.args.place t.rows)) =
    c.pivot_other_rows-wide.ensures.wide
    ∙ ap (λ rs. find is_wide (flat_map (λ row. row) (targets c.args.e pivot c.args.place rs))) c.deref_mut.ensures.value
    ∙ ap (λ p. find is_wide (flat_map (λ row. row) (targets c.args.e p c.args.place t.rows))) own in
    let last = c.pivot_on.ensures.wide ∙ ap (λ p. find is_wide (pivoted_row c.args.e p t.cost)) own in
    in_cost c.pivot_other_rows-wide.result c.pivot_on.result (flat_map (λ row. row) (targets c.args.e (get_or t.rows c.args.place []) c.args.place t.rows))
    (pivoted c.args.e c.args.place t).cost (sym c.is_some.ensures ∙ c.if-is_some.false) rows last

pub pivot_on-requires-clause-width : goal.pivot_on-requires-clause-width
pivot_on-requires-clause-width c =
    sym (ap (λ (r : List ℤ). length r) (c.copy_from.ensures.value ∙ c.index.ensures)
    ∙ c.requires.ready.width.rows c.args.place c.index.result.now c.requires.place)

pub returns-clause-pivot : goal.returns-clause-pivot
returns-clause-pivot c =
    ap (λ (r : List ℤ). length r) (c.copy_from.ensures.value ∙ c.index.ensures)
    ∙ c.requires.ready.width.rows c.args.place c.index.result.now c.requires.place ∙ sym c.requires.ready.pivot

pub pivot_on-requires-clause-place : goal.pivot_on-requires-clause-place
pivot_on-requires-clause-place c =
    let width =
    ap (λ (r : List ℤ). length r) (c.copy_from.ensures.value ∙ c.index.ensures)
    ∙ c.requires.ready.width.rows c.args.place c.index.result.now c.requires.place in
    subst (λ n. c.args.e < n) (sym width) c.requires.column

pub pivot_on-requires-clause-positive : goal.pivot_on-requires-clause-positive
pivot_on-requires-clause-positive c =
    let own =
    c.copy_from.ensures.value ∙ c.index.ensures ∙ get_or_default (seen c.args.self.now).rows c.args.place c.index.result.now [] c.requires.place in
    subst (λ (r : List ℤ). pos 1 ≤ℤ at r c.args.e) (sym own) c.requires.positive

pub returns-then-is_some-clause-pivot : goal.returns-then-is_some-clause-pivot
returns-then-is_some-clause-pivot c =
    ap (λ (r : List ℤ). length r) (c.copy_from.ensures.value ∙ c.index.ensures)
    ∙ c.requires.ready.width.rows c.args.place c.index.result.now c.requires.place ∙ sym c.requires.ready.pivot

pub pivot_other_rows-wide-requires-clause-width : goal.pivot_other_rows-wide-requires-clause-width
pivot_other_rows-wide-requires-clause-width c =
    let width =
    ap (λ (r : List ℤ). length r) (c.copy_from.ensures.value ∙ c.index.ensures)
    ∙ c.requires.ready.width.rows c.args.place c.index.result.now c.requires.place in
    subst (λ (rows : List (List ℤ)). All (λ row. length row ≡ length c.copy_from.new.self) rows) (sym c.deref_mut.ensures.value)
    (subst (λ n. All (λ (row : List ℤ). length row ≡ n) (seen c.args.self.now).rows) (sym width) c.requires.ready.width.rows)

pub returns-clause-pivoted : goal.returns-clause-pivoted
returns-clause-pivoted c = λ none.
    let own : c.copy_from.new.self ≡ get_or (seen c.args.self.now).rows c.args.place [] =
    c.copy_from.ensures.value ∙ c.index.ensures ∙ get_or_default (seen c.args.self.now).rows c.args.place c.index.result.now [] c.requires.place in
    let still = none_where c.pivot_other_rows-wide.result (sym c.is_some.ensures ∙ c.if-is_some.false) in
    let new = c.pivot_other_rows-wide.new.rows in
    let rows =
    take_at c.pivot_other_rows-wide.new.rows (drop (length new) c.args.self.now.rows.items) c.args.self.now.rows.len
    (c.pivot_other_rows-wide.auto.rows ∙ c.deref_mut.ensures.len)
    ∙ c.pivot_other_rows-wide.ensures.rows still
    ∙ (λ i. targets c.args.e (own i) c.args.place (c.deref_mut.ensures.value i)) in
    let cost = c.pivot_on.ensures.row none ∙ ap (λ (p : List ℤ). pivoted_row c.args.e p (seen c.args.self.now).cost) own in
    λ i. record { rows = rows i; basics = set c.args.self.now.basics.items c.args.place c.args.e; cost = cost i }
