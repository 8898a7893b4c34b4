use Rattle.std.proofs.Common.{◌≡◌, Some, sym, subst, ◌∙◌}
use Rattle.std.proofs.lemmas.Option.{none-some, same_Some}
use Rattle.ct_words.specs.declared.claim.Side.{Side}
use Rattle.ct_words.specs.declared.entry.Entry.{Entry}
use Rattle.ct_slots.specs.Places.{side_of_support, entry_of_support}
use Rattle.ct_slots.specs.Worklist.{IsMarked}
use Rattle.ct_table.proofs.MoreLemmas.{gives_entry}
use Rattle.ct_table.proofs.start.mark_given.Goals as goal

pub returns-clause-given : goal.returns-clause-given
returns-clause-given c = λ e entry gives.
    let support = c.args.support.now in
    let work = c.mark.new.self in
    let at : entry_of_support support ≡ Some e = gives_entry support e gives entry in
    let same : c.in-Some.entry ≡ e = same_Some c.in-Some.entry e (sym c.in-Some.is ∙ c.entry_of_support.ensures.entry ∙ at) in
    subst (λ (f : Entry). IsMarked work (side_of_support support, f)) same
    (subst (λ (side : Side). IsMarked work (side, c.in-Some.entry)) c.side_of_support.ensures c.in_ok-mark.ensures.marked)

pub returns-in_default-clause-given : goal.returns-in_default-clause-given
returns-in_default-clause-given c =
    λ e entry gives. absurd (none-some e (sym c.in_default.is ∙ c.entry_of_support.ensures.entry ∙ gives_entry c.args.support.now e gives entry))
