use Rattle.std.proofs.Common.{rules, tests}
use Rattle.std.proofs.lemmas.Iterator.{YieldsList-from_slice}
use Rattle.std.proofs.lemmas.Iterator.Search.{position_from_yields_List}
use Rattle.ct_io.proofs.LinesLemmas.{is_feed}
use Rattle.ct_io.proofs.held.feed_place.Goals as goal

pub returns : goal.returns
returns c =
    position_from_yields_List is_feed _ _ c.position.result c.position.ensures.ran (YieldsList-from_slice c.args.bytes.now c.iter.ensures.rest)
    (λ x b q k. search (rules, tests))
