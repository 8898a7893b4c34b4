use Rattle.std.proofs.Common.{◌≡◌, ℕ, List, Option, Some, None, Result, Ok, Err, IfOk, IfErr, option_map, sym, ap, subst, ◌∙◌}
use Rattle.std.specs.Prelude.{OnOk, OnSome}
use Rattle.ct_words.specs.Pairs.{first_of}
use Rattle.ct_kind.specs.declared.fault.SubmitFault.{SubmitFault}
use Rattle.ct_kind.specs.declared.fault.SubmitFault.TheVariants.{NoSuch}
use Rattle.ct_build_files.specs.BuildKind.{build_kind}
use Rattle.ct_build_files.proofs.BuildChecks.{late-reason}
use Rattle.ct_build_files.proofs.build_kind.early_size.Goals as goal

pub returns-in-Some-clause-fault : goal.returns-in-Some-clause-fault
returns-in-Some-clause-fault g c =
    let b = c.args.build.now in
    let known = g.P.Codes.known c.args.pieces.now in
    let kind = build_kind b.entry b.step.now b.part b.other in
    ap (λ (o : Option (List ℕ)). first_of (option_map NoSuch o) (kind.reason known)) (sym c.missing_part.ensures ∙ c.in-Some.is)

pub returns-clause-accepted : goal.returns-clause-accepted
returns-clause-accepted g c =
    let b = c.args.build.now in
    let known = g.P.Codes.known c.args.pieces.now in
    let reason = late-reason known b.entry b.step.now b.part b.other (sym c.missing_part.ensures ∙ c.in_default.is) in
    subst (λ (found : Option SubmitFault). IfOk c.early_words.result (λ (told : Option ℕ). OnSome told (found ≡ None))) (sym reason) c.early_words.ensures.accepted

pub returns-clause-fault : goal.returns-clause-fault
returns-clause-fault g c =
    let b = c.args.build.now in
    let known = g.P.Codes.known c.args.pieces.now in
    let reason = late-reason known b.entry b.step.now b.part b.other (sym c.missing_part.ensures ∙ c.in_default.is) in
    subst (λ (found : Option SubmitFault). IfErr c.early_words.result (λ fault. found ≡ Some fault)) (sym reason) c.early_words.ensures.fault

-- what holds at all holds where there is an answer
holds : {T E P : Type 0} (r : Result T E) → P → OnOk r P
holds (Ok x) p = p
holds (Err y) p = tt

pub returns-clause-parts : goal.returns-clause-parts
returns-clause-parts g c = holds c.early_words.result (sym c.missing_part.ensures ∙ c.in_default.is)
