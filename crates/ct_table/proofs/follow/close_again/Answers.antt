use Rattle.std.proofs.Common.{refl, subst, ap, ◌∙◌}
use Rattle.std.proofs.lemmas.Option.{slice_get_within}
use Rattle.std.proofs.lemmas.Result.{on_ok_weaker}
use Rattle.ct_table.specs.Closing.{ClosingValue, HasMoreLines}
use Rattle.ct_table.specs.Inside.Starting.{IsMarkedIfGiven}
use Rattle.ct_table.proofs.FollowLemmas.{CanClose-marked, IsClosing-from}
use Rattle.ct_table.proofs.MoreLines.{HasMoreLines-refl}
use Rattle.ct_table.proofs.PlacedSupports.{last_is, last_there}
use Rattle.ct_table.proofs.follow.close_again.Goals as goal

pub close-requires-clause-closing : goal.close-requires-clause-closing
close-requires-clause-closing c =
    let new = c.requires.new in
    CanClose-marked c.args.supports.now c.args.place c.args.closing.now
    (record { kept = c.closing.inside.kept; work = c.mark_given.new.work; evaluations = c.closing.inside.evaluations })
    c.requires.new (ap (λ (k : ClosingValue). k.kept) c.closing.view_is)
    (subst (IsMarkedIfGiven c.mark_given.new.work)
    (c.index-supports-place.is ∙ last_is c.args.supports.now new.olds new.new_one c.index-supports-place.result c.args.place new.are new.end)
    c.in_ok-mark_given.ensures.given)

pub bounds-supports-place : goal.bounds-supports-place
bounds-supports-place c =
    let new = c.requires.new in
    slice_get_within c.args.supports.now c.args.place new.new_one (last_there c.args.supports.now new.olds new.new_one c.args.place new.are new.end)

pub returns-in_err-mark_given-clause-lines : goal.returns-in_err-mark_given-clause-lines
returns-in_err-mark_given-clause-lines c =
    subst (λ (k : ClosingValue). HasMoreLines k.kept c.closing.inside.kept) c.closing.view_is (HasMoreLines-refl c.closing.inside.kept)

pub returns-clause-lines : goal.returns-clause-lines
returns-clause-lines c =
    subst (λ (k : ClosingValue). HasMoreLines k.kept c.close.new.closing.kept) c.closing.view_is c.close.ensures.lines

pub returns-clause-closed : goal.returns-clause-closed
returns-clause-closed c =
    on_ok_weaker c.close.result
    (λ closed. IsClosing-from c.args.supports.now
    (record { kept = c.closing.inside.kept; work = c.mark_given.new.work; evaluations = c.closing.inside.evaluations }) c.args.closing.now
    c.close.new.closing c.close.new.closing (ap (λ (k : ClosingValue). k.kept) c.closing.view_is) refl closed)
    c.close.ensures.closed
