use Rattle.std.proofs.Common.{sym, ap, ◌∙◌}
use Rattle.ct_files.specs.ByKind.{has_code}
use Rattle.ct_pieces.proofs.PartLemmas.{placed, placed-coded}
use Rattle.ct_pieces.proofs.standing.has_code.Goals as goal

pub returns : goal.returns
returns c =
    let pieces = c.args.pieces.now in
    let p = c.index-pieces-place.result in
    let at = placed pieces c.args.place p c.requires.made c.requires.place c.index-pieces-place.is in
    c.kind_of.ensures.has_code ∙ ap has_code c.evidence.ensures.evidence ∙ sym (placed-coded pieces c.args.place p at)
