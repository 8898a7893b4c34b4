use Rattle.std.proofs.Common.{length, drop, sym, subst, ◌∙◌}
use Rattle.std.proofs.lemmas.List.{take_at}
use Rattle.ct_finder.specs.Narrow.{AreNarrow}
use Rattle.ct_finder.specs.Pivot.{pivoted_row}
use Rattle.ct_finder.proofs.row.Row.pivot_on.Goals as goal

pub invariant_of-self : goal.invariant_of-self
invariant_of-self c =
    let row = c.pivot_entries.new.row in
    subst AreNarrow
    (sym (take_at c.pivot_entries.new.row (drop (length row) c.self.inside.entries.items) c.self.inside.entries.len
    (c.pivot_entries.auto.row ∙ c.deref_mut.ensures.len)))
    c.pivot_entries.ensures.narrow

pub returns-clause-row : goal.returns-clause-row
returns-clause-row c = λ none.
    let row = c.pivot_entries.new.row in
    let pivot = c.deref.ensures.value ∙ c.pivot.view_is in
    let was = c.deref_mut.ensures.value ∙ c.self.view_is in
    take_at c.pivot_entries.new.row (drop (length row) c.self.inside.entries.items) c.self.inside.entries.len
    (c.pivot_entries.auto.row ∙ c.deref_mut.ensures.len)
    ∙ c.pivot_entries.ensures.row none ∙ (λ i. pivoted_row c.args.e (pivot i) (was i))
