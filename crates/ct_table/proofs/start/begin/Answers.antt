use Rattle.std.proofs.Common.{[], ◌∙◌, arith}
use Rattle.std.proofs.lemmas.List.Elements.{All-nil}
use Rattle.ct_rule_parts.specs.Support.{Stands}
use Rattle.ct_table.proofs.start.begin.Goals as goal

pub close-requires-clause-closing : goal.close-requires-clause-closing
close-requires-clause-closing c = record {
  stand = All-nil Stands;
  few = omega arith;
  kept = c.in_ok-closing.ensures.kept [];
  pending = c.in_ok-closing.ensures.pending [] (All-nil Stands);
}

pub returns : goal.returns
returns c =
    let closed = c.in_ok-close.ensures.closed in
    record { kept = closed.kept; no_base = closed.base ∙ c.in_ok-closing.ensures.base; closed = closed.closed; idle = closed.idle }
