use Rattle.std.proofs.Common.{◌*◌, ◌/◌, ◌%◌, ◌^◌, get_or, ap, ◌∙◌, arith}
use Rattle.std.proofs.lemmas.Nat.{mod_below}
use Rattle.ct_words.specs.Word.{distance}
use Rattle.ct_words.proofs.WordLemmas.{distance-le}
use Rattle.ct_codes.proofs.RowLemmas.{sixteen}
use Rattle.ct_codes.proofs.rows.row_entry.Goals as goal

pub overflow_cast-result : goal.overflow_cast-result
overflow_cast-result c =
    let v = c.args.place / 64 % 16 in
    let u = get_or c.args.block.now (c.args.place % 64) 0 / 2 ^ (c.args.place / 1024 * 4) % 16 in
    let is = c.distance.ensures 4 (mod_below (c.args.place / 64) 16 (omega arith))
    (mod_below (get_or c.args.block.now (c.args.place % 64) 0 / 2 ^ (c.args.place / 1024 * 4)) 16 (omega arith)) in
    let most = distance-le 4 v u in
    record { fits = omega arith }

pub returns : goal.returns
returns c =
    c.distance.ensures 4 (mod_below (c.args.place / 64) 16 (omega arith))
    (mod_below (get_or c.args.block.now (c.args.place % 64) 0 / 2 ^ (c.args.place / 1024 * 4)) 16 (omega arith))
    ∙ ap (λ q. distance 4 (c.args.place / 64 % 16) (get_or c.args.block.now (c.args.place % 64) 0 / q % 16)) (sixteen (c.args.place / 1024))
