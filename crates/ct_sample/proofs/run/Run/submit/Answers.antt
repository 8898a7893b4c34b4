use Rattle.std.proofs.Common.{Bool, cond, ap, ◌∙◌, ℕ}
use Rattle.ct_files.specs.Document.{document_read_of}
use Rattle.ct_sample.specs.Run.{RunValue, made_without_document, after_submission}
use Rattle.ct_sample.proofs.Applying.{bit_is, submitted_one}
use Rattle.ct_sample.proofs.run.Run.submit.Goals as goal

pub returns : goal.returns
returns c =
    let one = c.from.ensures ∙ bit_is c.in_ok-accepted.accepted ∙ ap (λ (b : Bool). cond {A = ℕ} b 1 0) c.in_ok-accepted.ensures.accepted in
    submitted_one c.self.inside.ledger.pieces c.submit_evidence.new.ledger.pieces c.self.inside.accepted c.self.inside.withdrawn c.from.result c.args.id
    c.from_vec-document.result c.args.evidence (rw c.from_vec-document.ensures c.in_ok-write_evidence.ensures.document) c.in_ok-accepted.ensures.pieces one
    ∙ ap (λ (r : RunValue). after_submission r (made_without_document r.pieces c.args.id c.args.evidence)) c.self.view_is

pub submit_evidence-requires : goal.submit_evidence-requires
submit_evidence-requires c =
    record { read = ap document_read_of c.from_vec-document.ensures ∙ c.in_ok-write_evidence.ensures.document }
