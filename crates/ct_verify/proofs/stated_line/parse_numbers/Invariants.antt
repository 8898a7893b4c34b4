use Rattle.std.proofs.Common.{◌≡◌, ◌++◌, drop, map, option_map}
use Rattle.ct_verify.specs.Inside.StatedLine.{all_numbers}
use Rattle.ct_verify.proofs.stated_line.parse_numbers.Given as goal

-- with the numbers of the words that are left, the numbers so far are all
abbrev pub invariant-loop-word : goal.invariant-loop-word
invariant-loop-word l = all_numbers (map (λ word. word.now) l.words)
    ≡ option_map (λ more. l.numbers.items ++ more) (all_numbers (map (λ word. word.now) (drop l.word-index l.words)))
