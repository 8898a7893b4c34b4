use Rattle.std.proofs.Common.{sym, ap, ◌∙◌}
use Rattle.ct_verify.specs.Inside.Read.{ReadingValue, in_part}
use Rattle.ct_verify.specs.Inside.Reading.{read_block}
use Rattle.ct_verify.specs.declared.part.Part.TheVariants as part
use Rattle.ct_verify.specs.Inside.Step.{On}
use Rattle.ct_verify.proofs.reading.Reading.read_block.Goals as goal

pub returns-in-More : goal.returns-in-More
returns-in-More c =
    ap (λ (r : ReadingValue). On (in_part (part.Evidence
    (record { line = c.args.block.line; id = c.args.block.id; document = c.in-More.document })) r)) c.self.view_is
    ∙ ap (read_block c.args.self.now c.args.block) (sym c.in-More.is ∙ c.in_ok-document.ensures)
