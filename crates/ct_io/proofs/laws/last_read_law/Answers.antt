use Rattle.ct_io.proofs.FeedLemmas.{last_read-after_feed, last_read-of_line}
use Rattle.ct_io.proofs.laws.last_read_law.Goals as goal

pub returns : goal.returns
returns c = λ line after h. (last_read-after_feed line after, last_read-of_line line after h)
