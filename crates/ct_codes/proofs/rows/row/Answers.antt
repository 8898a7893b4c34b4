use Rattle.std.proofs.Common.{◌*◌, ◌+◌, ◌%◌, ◌/◌, ℕ, ◌^◌, ap, ◌∙◌, arith}
use lib.Lanes.{chunk}
use Rattle.std.proofs.lemmas.Nat.{mod_below}
use Rattle.std.proofs.lemmas.Simd.{length-chunk}
use Rattle.ct_codes.proofs.RowLemmas.{row_is, sixteen}
use Rattle.ct_codes.proofs.rows.row.Goals as goal

pub returns-clause-distances : goal.returns-clause-distances
returns-clause-distances c = λ block long are.
    ap (λ (q : ℕ). chunk ((c.args.place * 16 + c.args.word / q % 16) * 64) 64 c.args.rows.now) (sixteen c.args.place)
    ∙ row_is c.args.rows.now block c.args.word c.args.place long are c.requires.place

pub returns-clause-size : goal.returns-clause-size
returns-clause-size c =
    let digit = c.args.word / 2 ^ (c.args.place * 4) % 16 in
    let small = mod_below (c.args.word / 2 ^ (c.args.place * 4)) 16 (omega arith) in
    let low = c.requires.place in
    let long = c.requires.rows in
    length-chunk ((c.args.place * 16 + digit) * 64) 64 c.args.rows.now (omega arith)
