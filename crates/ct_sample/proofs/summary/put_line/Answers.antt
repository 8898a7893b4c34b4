use Rattle.std.proofs.Common.{[], ◌∷◌}
use Rattle.ct_text.specs.declared.document_lines.TheConstants.{LINE_FEED}
use Rattle.ct_text.specs.Number.{spaced}
use Rattle.ct_text.proofs.GrowingTexts.{puts-three}
use Rattle.ct_sample.proofs.summary.put_line.Goals as goal

pub returns : goal.returns
returns c =
    puts-three c.args.text.now.items c.args.name.now (spaced c.args.number) (LINE_FEED ∷ []) c.extend_from_slice.new.self.items
    c.put_spaced.new.text.items c.push.new.self.items c.in_ok-extend_from_slice.ensures.items c.in_ok-put_spaced.ensures.ok c.in_ok-push.ensures.items
