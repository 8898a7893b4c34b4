use Rattle.std.proofs.Common.{◌≡◌, ◌%◌, ◌==◌}
use Rattle.std.specs.List.{filter}
use Rattle.ct_words.specs.Word.{weight}
use Rattle.ct_words.specs.Text.{tabulate}
use Rattle.ct_build.proofs.even.words_of_even_weight.Given as goal

abbrev pub invariant-loop-word : goal.invariant-loop-word
invariant-loop-word l = l.words.items ≡ filter (λ x. weight l.fn.n x % 2 == 0) (tabulate (λ x. x) l.word)
