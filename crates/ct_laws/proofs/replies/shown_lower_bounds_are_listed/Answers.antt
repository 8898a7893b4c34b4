use Rattle.ct_text.specs.EntryNumbers.{named_entry}
use Rattle.ct_laws.proofs.ShownReplies.{listed_shown}
use Rattle.ct_laws.proofs.replies.shown_lower_bounds_are_listed.Goals as goal

pub returns : goal.returns
returns c = λ pieces numbers b r h k. listed_shown pieces (named_entry numbers) b r h k
