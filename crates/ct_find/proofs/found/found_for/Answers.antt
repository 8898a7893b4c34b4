use Rattle.std.proofs.Common.{◌≡◌, ◌∙◌, false, Some, None, IfSome, sym, ap, subst, rules}
use Rattle.std.proofs.lemmas.Result.{IfOk-weaker}
use Rattle.ct_words.specs.declared.entry.Entry.{Entry}
use Rattle.ct_finder.specs.Found.{dual_at_end, stop_of}
use Rattle.ct_words.specs.Entry.{constant_weight}
use Rattle.ct_find.specs.declared.found.TheConstants.{MAX_PIVOTS}
use Rattle.ct_finder.specs.Run.{End}
use Rattle.ct_find.specs.Proposal.{found_dual, run_for, stop_for}
use Rattle.ct_find.proofs.FoundLemmas.{plain-is, weighted-is, weighted-run}
use Rattle.ct_find.proofs.found.found_for.Goals as goal

pub returns-in_ok-plain_found_for-in-None-clause-dual : goal.returns-in_ok-plain_found_for-in-None-clause-dual
unfolding run_for
returns-in_ok-plain_found_for-in-None-clause-dual c =
    let none : c.args.entry.w ≡ None = search rules in
    c.in_ok-plain_found_for-in-None.ensures.dual ∙ sym (ap found_dual (plain-is c.args.entry none))

pub returns-in_ok-plain_found_for-in-None-clause-stop : goal.returns-in_ok-plain_found_for-in-None-clause-stop
unfolding run_for
returns-in_ok-plain_found_for-in-None-clause-stop c =
    let none : c.args.entry.w ≡ None = search rules in
    c.in_ok-plain_found_for-in-None.ensures.stop ∙ sym (ap stop_for (plain-is c.args.entry none))

pub returns-in-Some-clause-dual : goal.returns-in-Some-clause-dual
returns-in-Some-clause-dual c =
    let some : c.args.entry.w ≡ Some c.in-Some.w = search rules in
    let asked = constant_weight c.args.entry.n c.args.entry.d c.in-Some.w in
    let run_is = weighted-run c.args.entry.n c.args.entry.d c.in-Some.w in
    IfOk-weaker c.find_weight.result _ _ (λ o h. h ∙ sym (ap (dual_at_end asked false) run_is) ∙ sym (ap found_dual (weighted-is c.args.entry c.in-Some.w some)))
    c.find_weight.ensures.dual

pub returns-in-Some-clause-stop : goal.returns-in-Some-clause-stop
returns-in-Some-clause-stop c =
    let some : c.args.entry.w ≡ Some c.in-Some.w = search rules in
    let asked = constant_weight c.args.entry.n c.args.entry.d c.in-Some.w in
    let run_is = weighted-run c.args.entry.n c.args.entry.d c.in-Some.w in
    IfOk-weaker c.find_weight.result _ _
    (λ o h. subst (λ (e : Entry). IfSome o (λ f. f.stop ≡ stop_for e)) (sym (weighted-is c.args.entry c.in-Some.w some))
    (subst (λ (end : End). IfSome o (λ f. f.stop ≡ stop_of asked false MAX_PIVOTS end)) (sym run_is) h))
    c.find_weight.ensures.stop
