use Rattle.std.proofs.Common.{◌≡◌, Option, Some, IfSome, option_map, sym, subst}
use Rattle.std.proofs.lemmas.Result.{IfOk-weaker}
use Rattle.ct_finder.specs.Found.{bound_without_allowances, IsShown}
use Rattle.ct_finder.specs.declared.found.Found.{Found}
use Rattle.ct_find.specs.Proposal.{found_dual, stop_for}
use Rattle.ct_find.proofs.FoundDuals.{found}
use Rattle.ct_find.proofs.FoundLemmas.{answers}
use Rattle.ct_find.proofs.proposal.answer_entry.Goals as goal

pub proposal-requires-clause-nothing : goal.proposal-requires-clause-nothing
proposal-requires-clause-nothing c =
    let e = c.args.entry in
    let f = c.in-Some.found in
    let dual_is : Some f.dual ≡ found_dual e = subst (λ (o : Option Found). option_map (λ g. g.dual) o ≡ found_dual e) c.in-Some.is c.in_ok-found_for.ensures.dual in
    (found e f.dual c.requires (sym dual_is)).nothing

pub returns-in-Some : goal.returns-in-Some
returns-in-Some c =
    let e = c.args.entry in
    let f = c.in-Some.found in
    let known = c.in_ok-found_for.ensures in
    let dual_is : Some f.dual ≡ found_dual e = subst (λ (o : Option Found). option_map (λ g. g.dual) o ≡ found_dual e) c.in-Some.is known.dual in
    let bound_is : f.bound ≡ bound_without_allowances f.dual = subst (λ (o : Option Found). IfSome o (λ g. g.bound ≡ bound_without_allowances g.dual)) c.in-Some.is known.bound in
    let stop_is : f.stop ≡ stop_for e = subst (λ (o : Option Found). IfSome o (λ g. g.stop ≡ stop_for e)) c.in-Some.is known.stop in
    let shown : IsShown f.stop f.dual = subst (λ (o : Option Found). IfSome o (λ g. IsShown g.stop g.dual)) c.in-Some.is known.shown in
    IfOk-weaker c.proposal.result _ _ (λ text h. answers e f.dual f.bound f.stop (found_dual e) text.items dual_is bound_is stop_is shown h) c.proposal.ensures
