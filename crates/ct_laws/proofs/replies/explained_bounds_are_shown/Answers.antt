use Rattle.ct_text.specs.EntryNumbers.{named_entry}
use Rattle.ct_laws.proofs.ShownReplies.{explained_shown}
use Rattle.ct_laws.proofs.replies.explained_bounds_are_shown.Goals as goal

pub returns : goal.returns
returns c = λ pieces side numbers b r stand h k. explained_shown pieces side (named_entry numbers) b r stand h k
