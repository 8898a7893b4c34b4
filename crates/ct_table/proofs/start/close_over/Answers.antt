use Rattle.std.proofs.Common.{[], refl, sym, ap, subst}
use Rattle.std.proofs.lemmas.Result.{on_ok_weaker}
use Rattle.ct_rules.specs.Closed.{IsClosed}
use Rattle.ct_table.specs.Closing.{ClosingValue}
use Rattle.ct_kept.specs.Kept.{IsKept}
use Rattle.ct_slots.specs.Number.{bound_of}
use Rattle.ct_table.proofs.BaseLemmas.{IsKept-over}
use Rattle.ct_table.proofs.FollowLemmas.{IsClosing-from}
use Rattle.ct_table.proofs.MoreLemmas.{pending_over_more}
use Rattle.ct_table.proofs.PlacedSupports.{given_marked, AreSupportPlaces-is}
use Rattle.ct_table.proofs.start.close_over.Goals as goal

pub close-requires-clause-closing : goal.close-requires-clause-closing
close-requires-clause-closing c =
    let kept = subst (λ (k : ClosingValue). IsKept [] k.kept) (sym c.closing.view_is) c.requires.kept in
    let closed = subst (λ (k : ClosingValue). IsClosed [] (bound_of k.kept.bounds)) (sym c.closing.view_is) c.requires.closed in
    record {
      stand = c.requires.stand;
      few = c.requires.few;
      kept = IsKept-over c.args.supports.now c.closing.inside.kept kept;
      pending =
          pending_over_more [] c.args.supports.now c.closing.inside.kept.bounds c.place_supports.new.work closed
          (given_marked c.args.supports.now c.place_supports.new.work c.in_ok-place_supports.ensures.marked);
    }

pub close-requires-clause-places : goal.close-requires-clause-places
close-requires-clause-places c =
    AreSupportPlaces-is c.args.supports.now c.place_supports.new.places c.in_ok-place_supports.ensures.places

pub returns-clause-places : goal.returns-clause-places
returns-clause-places c =
    on_ok_weaker c.close.result
    (λ closed. AreSupportPlaces-is c.args.supports.now c.place_supports.new.places c.in_ok-place_supports.ensures.places)
    c.close.ensures.closed

pub returns-clause-closed : goal.returns-clause-closed
returns-clause-closed c =
    on_ok_weaker c.close.result
    (λ closed. IsClosing-from c.args.supports.now
    (record { kept = c.closing.inside.kept; work = c.place_supports.new.work; evaluations = c.closing.inside.evaluations }) c.args.closing.now
    c.close.new.closing c.close.new.closing (ap (λ (k : ClosingValue). k.kept) c.closing.view_is) refl closed)
    c.close.ensures.closed
