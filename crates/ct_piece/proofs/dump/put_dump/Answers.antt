use Rattle.std.proofs.Common.{[], ◌∷◌, length}
use Rattle.std.specs.Prelude.{codes}
use Rattle.std.specs.Fmt.{decimal}
use Rattle.std.specs.List.{flat_map}
use Rattle.std.proofs.lemmas.Result.{on_ok_weaker}
use Rattle.ct_text.proofs.GrowingTexts.{puts-five}
use Rattle.ct_piece.specs.Dump.{piece_dump}
use Rattle.ct_piece.proofs.dump.put_dump.Goals as goal

pub returns : goal.returns
returns c =
    let n = length c.args.pieces.now in
    on_ok_weaker c.put_submissions.result
    (λ put. puts-five c.args.text.now.items (codes "# dump of ") (decimal n) (codes " pieces") (10 ∷ []) (flat_map piece_dump c.args.pieces.now)
    c.extend_from_slice.new.self.items c.put_number.new.text.items c.extend_from_slice-2.new.self.items c.push.new.self.items c.put_submissions.new.text.items
    c.in_ok-extend_from_slice.ensures.items c.in_ok-put_number.ensures.ok c.in_ok-extend_from_slice-2.ensures.items c.in_ok-push.ensures.items put)
    c.put_submissions.ensures
