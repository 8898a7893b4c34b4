use Rattle.std.proofs.Common.{◌≢◌, ◌≡◌, Option, Some, None, option_map, IfErr, OnOk, sym, ap, ap₂, subst, ◌∙◌}
use Rattle.std.specs.Option.{option_copied}
use Rattle.std.proofs.lemmas.Result.{IfOk-weaker}
use Rattle.ct_words.specs.Code.{CodeValue}
use Rattle.ct_build_files.specs.BuildKind.{built_over, step_reason}
use Rattle.ct_kind.specs.Ascending.{code_at}
use Rattle.ct_kind.specs.declared.fault.SubmitFault.{SubmitFault}
use Rattle.ct_kind.specs.declared.fault.SubmitFault.TheVariants as fault
use Rattle.ct_piece.proofs.KeptLemmas.{none-some}
use Rattle.ct_pieces.proofs.builds.code_of_found.Goals as goal

pub unreachable-requires : goal.unreachable-requires
unreachable-requires c = absurd (none-some c.args.part.now (sym c.code.ensures ∙ ap option_copied c.in_default.is) c.requires.coded)

pub returns-clause-code : goal.returns-clause-code
returns-clause-code c =
    let b = c.args.build.now in
    let one = sym c.code.ensures ∙ ap option_copied c.in-Some.is in
    let is = ap₂ (λ (f o : Option CodeValue). option_map (code_at b.entry) (built_over b.entry b.step.now f o)) one (sym c.code-2.ensures) in
    IfOk-weaker c.code-3.result _ _ (λ (code : CodeValue) same. is ∙ ap Some (sym same)) c.code-3.ensures.code

pub returns-clause-accepted : goal.returns-clause-accepted
returns-clause-accepted c =
    let b = c.args.build.now in
    let one = sym c.code.ensures ∙ ap option_copied c.in-Some.is in
    let is = ap₂ (step_reason b.entry b.step.now b.part b.other) one (sym c.code-2.ensures) in
    subst (λ (reason : Option SubmitFault). OnOk c.code-3.result (reason ≡ None)) (sym is) c.code-3.ensures.accepted

pub returns-clause-fault : goal.returns-clause-fault
returns-clause-fault c =
    let b = c.args.build.now in
    let one = sym c.code.ensures ∙ ap option_copied c.in-Some.is in
    let is = ap₂ (step_reason b.entry b.step.now b.part b.other) one (sym c.code-2.ensures) in
    subst (λ (reason : Option SubmitFault). IfErr c.code-3.result (λ f. f ≢ fault.Memory → reason ≡ Some f)) (sym is) c.code-3.ensures.fault
