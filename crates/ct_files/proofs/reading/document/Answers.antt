use Rattle.std.proofs.Common.{ℕ, List, Result, Ok, ◌∙◌}
use Rattle.std.proofs.lemmas.Result.{err_from_is_err_and}
use Rattle.toml.specs.View.{view}
use Rattle.ct_fields.specs.Cites.{cites_of}
use Rattle.ct_fields.specs.Steps.{◌>>=◌}
use Rattle.ct_fields.specs.declared.fault.DocumentFault.{DocumentFault}
use Rattle.ct_fields.proofs.StepLemmas.{bind-at}
use Rattle.ct_fields.proofs.OneAnswer.{handed_on}
use Rattle.ct_files.specs.Document.{DocumentValue, value_of, document_of}
use Rattle.ct_files.specs.Evidence.{evidence_of}
use Rattle.ct_kind.specs.declared.evidence.Evidence.{Evidence}
use Rattle.ct_files.proofs.ReadSteps.{document-no_cites}
use Rattle.ct_files.proofs.reading.document.Goals as goal

pub returns : goal.returns
unfolding document_of
returns c =
    let table = view c.args.table.now in
    let read = c.in_ok-evidence.evidence in
    let put : List (List ℕ) → Result DocumentValue DocumentFault = λ cites. Ok (record { evidence = read; cites = cites }) in
    let next : Evidence → Result DocumentValue DocumentFault = λ e. cites_of table >>= (λ (cites : List (List ℕ)). Ok (record { evidence = e; cites = cites })) in
    bind-at (evidence_of table) next read c.in_ok-evidence.ensures ∙ bind-at (cites_of table) put c.in_ok-cites.cites.items c.in_ok-cites.ensures

pub returns-in_err-cites : goal.returns-in_err-cites
returns-in_err-cites c =
    let table = view c.args.table.now in
    let fault = c.in_err-cites.field-0.0 in
    let p = err_from_is_err_and c.from_residual-in_err-cites.result c.from_residual-in_err-cites.ensures.1 in
    handed_on value_of c.from_residual-in_err-cites.result (document_of table) p.0 fault p.1 p.2 (λ other.
    document-no_cites table c.in_ok-evidence.evidence fault c.in_ok-evidence.ensures (c.in_err-cites.ensures other))
