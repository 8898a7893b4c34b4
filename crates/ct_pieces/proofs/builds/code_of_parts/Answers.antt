use Rattle.std.proofs.Common.{◌≢◌, ◌≡◌, Option, Some, None, is_some, option_map, IfOk, IfErr, OnOk, ap, ap₂, subst, ◌∙◌}
use Rattle.ct_words.specs.Code.{CodeValue}
use Rattle.ct_build_files.specs.BuildKind.{built_over, step_reason}
use Rattle.ct_kind.specs.Ascending.{code_at}
use Rattle.ct_kind.specs.declared.fault.SubmitFault.{SubmitFault}
use Rattle.ct_kind.specs.declared.fault.SubmitFault.TheVariants as fault
use Rattle.ct_pieces.proofs.builds.code_of_parts.Goals as goal

pub code_of_found-requires-clause-coded : goal.code_of_found-requires-clause-coded
code_of_found-requires-clause-coded c = ap is_some c.in_ok-part_code.ensures ∙ c.requires.coded

pub returns-clause-code : goal.returns-clause-code
returns-clause-code c =
    let b = c.args.build.now in
    let is = ap₂ (λ (f o : Option CodeValue). option_map (code_at b.entry) (built_over b.entry b.step.now f o)) c.in_ok-part_code.ensures c.in_ok-other_code.ensures in
    subst (λ (o : Option CodeValue). IfOk c.code_of_found.result (λ code. o ≡ Some code)) is c.code_of_found.ensures.code

pub returns-clause-accepted : goal.returns-clause-accepted
returns-clause-accepted c =
    let b = c.args.build.now in
    let is = ap₂ (step_reason b.entry b.step.now b.part b.other) c.in_ok-part_code.ensures c.in_ok-other_code.ensures in
    subst (λ (reason : Option SubmitFault). OnOk c.code_of_found.result (reason ≡ None)) is c.code_of_found.ensures.accepted

pub returns-clause-fault : goal.returns-clause-fault
returns-clause-fault c =
    let b = c.args.build.now in
    let is = ap₂ (step_reason b.entry b.step.now b.part b.other) c.in_ok-part_code.ensures c.in_ok-other_code.ensures in
    subst (λ (reason : Option SubmitFault). IfErr c.code_of_found.result (λ f. f ≢ fault.Memory → reason ≡ Some f)) is c.code_of_found.ensures.fault

pub code_found-requires-2-clause-long : goal.code_found-requires-2-clause-long
code_found-requires-2-clause-long c = c.requires.long

pub code_of_found-requires-clause-fits : goal.code_of_found-requires-clause-fits
code_of_found-requires-clause-fits c = c.requires.fits
