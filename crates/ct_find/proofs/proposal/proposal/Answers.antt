-- The comments, and then the submission of the document.
use Rattle.std.proofs.Common.{ℕ, List, ◌++◌, Ok, ap, ap₂, ◌∙◌}
use Rattle.ct_commands.specs.Submission.{submission_text}
use Rattle.ct_kind.specs.declared.evidence.Evidence.{Evidence}
use Rattle.ct_files.specs.Document.{without_cites}
use Rattle.ct_find.specs.Proposal.{comments}
use Rattle.ct_find.proofs.proposal.proposal.Goals as goal

pub returns : goal.returns
returns c = (
  c.in_ok-document.document.items,
  c.in_ok-document.ensures.document ∙ ap (λ (e : Evidence). Ok (without_cites e)) c.dual_evidence.ensures.evidence,
  c.in_ok-put_submission.ensures
      ∙ ap₂ (λ (a b : List ℕ). a ++ b)
      (c.in_ok-put_comments.ensures ∙ ap (λ (xs : List ℕ). xs ++ comments c.args.found.bound c.args.found.stop) c.new-text.ensures.items)
      (ap₂ submission_text (c.deref.ensures.value ∙ c.in_ok-id.ensures) c.deref-2.ensures.value),
)
