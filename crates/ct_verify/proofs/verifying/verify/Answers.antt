-- The verdict that is answered is the verdict on the document.
use Rattle.ct_verify.proofs.Documents.{verdict_where_found}
use Rattle.ct_verify.proofs.verifying.verify.Goals as goal

pub returns-clause-stated : goal.returns-clause-stated
returns-clause-stated c = verdict_where_found c.args.document.now c.first_verdict.result c.first_verdict.ensures
