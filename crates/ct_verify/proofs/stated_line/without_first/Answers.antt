use Rattle.std.proofs.Common.{ap, sym, ◌∙◌, ◌-◌, map, length, drop, take_all, length-drop, arith}
use Rattle.std.proofs.lemmas.List.{drop-map}
use Rattle.ct_verify.proofs.stated_line.without_first.Goals as goal

pub returns-then-count-words : goal.returns-then-count-words
returns-then-count-words c =
    let words = c.args.words.now in
    let left = length-drop c.args.count c.args.words.now in
    ap (map (λ word. word.now)) (take_all (length c.args.words.now - c.args.count) (drop c.args.count c.args.words.now) (omega arith))
    ∙ sym (drop-map (λ word. word.now) c.args.count c.args.words.now)
