-- A row with its basic column, as it stands among the rows.
use Rattle.std.proofs.Common.{◌≡◌, ℕ, List, [], ap, ap₂, ◌∙◌, arith}
use Rattle.std.specs.Prelude.{ℤ}
use Rattle.std.proofs.lemmas.List.{get_or_default}
use Rattle.ct_duals.specs.Bound.{natural}
use Rattle.ct_finder.specs.Pivot.{at, constant_of}
use Rattle.ct_finder.specs.Basic.{row_at, basic_at}
use Rattle.ct_finder.specs.Ready.{seen}
use Rattle.ct_finder.proofs.ReadingLemmas.{line-read}
use Rattle.ct_finder.proofs.reading.line_at.Goals as goal

pub returns-clause-value : goal.returns-clause-value
returns-clause-value c =
    let t = seen c.args.tableau.now in
    let i = c.args.i in
    let count = c.requires.basic.count in
    let within = c.requires.place in
    let place : c.index-place.result.now ≡ basic_at t i = c.index-place.ensures ∙ get_or_default t.basics i c.index-place.result.now 0 (omega (arith, count, within)) in
    let row : c.index.result.now ≡ row_at t i = c.index.ensures ∙ get_or_default t.rows i c.index.result.now [] within in
    let again : c.index-2.result.now ≡ row_at t i = c.index-2.ensures ∙ get_or_default t.rows i c.index-2.result.now [] within in
    line-read t i c.requires.basic.count c.requires.place place
    (c.entry_at-entry.ensures.value ∙ ap₂ (λ (r : List ℤ) (b : ℕ). natural (at r b)) row place)
    (c.constant_at-constant.ensures.value ∙ ap (λ (r : List ℤ). natural (constant_of r)) again)
