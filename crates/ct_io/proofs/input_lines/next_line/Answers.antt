use Rattle.std.proofs.Common.{◌≡◌, ◌+◌, length, sym, ◌∙◌, arith, rules, tests}
use Rattle.std.specs.List.{position}
use Rattle.std.proofs.lemmas.Iterator.{YieldsList-from_slice}
use Rattle.std.proofs.lemmas.Iterator.Search.{position_from_yields_List}
use Rattle.ct_io.proofs.FeedLemmas.{next_line-found, next_line-whole, less-follows}
use Rattle.ct_io.proofs.LinesLemmas.{is_feed}
use Rattle.ct_io.proofs.input_lines.next_line.Goals as goal

pub returns-in-Some-clause-line : goal.returns-in-Some-clause-line
returns-in-Some-clause-line c =
    let found : c.position.result ≡ position is_feed c.args.input.now =
    position_from_yields_List is_feed _ _ c.position.result c.position.ensures.ran (YieldsList-from_slice c.args.input.now c.iter.ensures.rest)
    (λ x b q k. search (rules, tests)) in
    next_line-found c.args.input.now c.in-Some.end (sym found ∙ c.in-Some.is)

pub returns-in-None-clause-line : goal.returns-in-None-clause-line
returns-in-None-clause-line c =
    let found : c.position.result ≡ position is_feed c.args.input.now =
    position_from_yields_List is_feed _ _ c.position.result c.position.ensures.ran (YieldsList-from_slice c.args.input.now c.iter.ensures.rest)
    (λ x b q k. search (rules, tests)) in
    next_line-whole c.args.input.now (sym found ∙ c.in-None.is) c.requires

pub returns-in-Some-clause-less : goal.returns-in-Some-clause-less
returns-in-Some-clause-less c = less-follows c.args.input.now _ (c.in-Some.end + 1) c.requires (omega arith)

pub returns-in-None-clause-less : goal.returns-in-None-clause-less
returns-in-None-clause-less c = less-follows c.args.input.now _ (length c.args.input.now) c.requires c.requires
