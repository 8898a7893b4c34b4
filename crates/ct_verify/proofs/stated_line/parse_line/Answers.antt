use Rattle.std.proofs.Common.{sym, map, arith}
use Rattle.std.proofs.lemmas.List.{length-map}
use Rattle.ct_verify.proofs.WordLemmas.{line_of-short}
use Rattle.ct_verify.proofs.stated_line.parse_line.Goals as goal

pub returns-in_default : goal.returns-in_default
returns-in_default c =
    let same = length-map c.args.words.now (λ word. word.now) in
    let few = c.in_default.len_below in
    sym (line_of-short (map (λ word. word.now) c.args.words.now) (omega arith))
