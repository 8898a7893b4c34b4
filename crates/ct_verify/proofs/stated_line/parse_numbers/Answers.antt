use Rattle.std.proofs.Common.{ℕ, Bor, List, ◌++◌, drop, map, append-nil, Some, option_map, sym, ap, ◌∙◌, ◌+◌}
use Rattle.std.proofs.lemmas.List.{drop_all}
use Rattle.ct_verify.specs.Inside.StatedLine.{all_numbers}
use Rattle.ct_verify.proofs.WordLemmas.{numbers-next, numbers-push}
use Rattle.ct_verify.proofs.stated_line.parse_numbers.Goals as goal

pub returns-in_default : goal.returns-in_default
returns-in_default c =
    sym (c.loop-word.invariant
    ∙ ap (option_map (λ (more : List ℕ). c.loop-word.numbers.items ++ more))
    (numbers-next c.args.words.now c.loop-word.word-index _ _ (sym c.in_default.is ∙ c.parse_number.ensures) c.loop-word-test.true))

pub loop-word-preserved : goal.loop-word-preserved
loop-word-preserved c =
    let rest = all_numbers (map (λ word. word.now) (drop (c.loop-word.word-index + 1) c.args.words.now)) in
    c.loop-word.invariant
    ∙ ap (option_map (λ (more : List ℕ). c.loop-word.numbers.items ++ more))
    (numbers-next c.args.words.now c.loop-word.word-index _ _ (sym c.in-Some.is ∙ c.parse_number.ensures) c.loop-word-test.true)
    ∙ numbers-push c.loop-word.numbers.items c.in-Some.number rest
    ∙ ap (λ (so_far : List ℕ). option_map (λ (more : List ℕ). so_far ++ more) (all_numbers (map (λ word. word.now) (drop (c.loop-word.word-index + 1) c.args.words.now)))) (sym c.in_ok-push.ensures.items)

pub returns : goal.returns
returns c =
    ap Some (sym (append-nil c.loop-word.numbers.items))
    ∙ ap (λ (left : List (Bor (List ℕ))). option_map (λ (more : List ℕ). c.loop-word.numbers.items ++ more) (all_numbers (map (λ word. word.now) left)))
    (sym (drop_all c.loop-word.word-index c.args.words.now c.loop-word-test.false))
    ∙ sym c.loop-word.invariant
