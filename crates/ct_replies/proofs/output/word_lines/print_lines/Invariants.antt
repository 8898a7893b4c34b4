use Rattle.std.proofs.Common.{◌+◌, ◌*◌, ◌≡◌, take}
use Rattle.ct_replies.specs.Text.{word_lines}
use Rattle.ct_replies.proofs.output.word_lines.print_lines.Given as goal

abbrev pub invariant-loop-word : goal.invariant-loop-word
invariant-loop-word l =
    (l.at ≡ l.word-index * (l.n + 1))
    × (take l.at l.into ≡ word_lines l.n (take l.word-index l.words))
