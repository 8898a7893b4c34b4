use Rattle.std.proofs.Common.{◌≡◌, replicate, take}
use Rattle.ct_text.specs.declared.document_lines.TheConstants.{LINE_FEED}
use Rattle.ct_io.proofs.held.feeds_first.Given as goal

abbrev pub invariant-loop-count : goal.invariant-loop-count
invariant-loop-count l = take l.count l.bytes ≡ replicate l.count LINE_FEED
