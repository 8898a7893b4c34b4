use Rattle.std.proofs.Common.{sym, ap, ◌∙◌}
use Rattle.ct_piece.specs.Supports.{supports_of}
use Rattle.ct_sample.specs.Run.{RunValue}
use Rattle.ct_sample.proofs.WithoutDocuments.{supports-without_documents}
use Rattle.ct_sample.proofs.run.Run.table.Goals as goal

pub returns : goal.returns
returns c =
    c.table.ensures.supports ∙ sym (supports-without_documents c.self.inside.ledger.pieces) ∙ ap (λ (r : RunValue). supports_of r.pieces) c.self.view_is
