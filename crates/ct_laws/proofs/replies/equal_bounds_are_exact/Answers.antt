use Rattle.ct_text.specs.EntryNumbers.{named_entry}
use Rattle.ct_laws.proofs.ShownReplies.{equal_exact, exact_shown}
use Rattle.ct_laws.proofs.replies.equal_bounds_are_exact.Goals as goal

pub returns-clause-show : goal.returns-clause-show
returns-clause-show c = λ pieces numbers b h same. exact_shown pieces (named_entry numbers) b h same

pub returns-clause-entry : goal.returns-clause-entry
returns-clause-entry c = λ pieces e b h same. equal_exact pieces e b h same
