use Rattle.std.proofs.Common.{◌+◌, ◌-◌, ◌≡◌, ◌≤◌, ◌^◌, ◌%◌, ◌/◌, drop}
use Rattle.ct_words.specs.Text.{word_text}
use Rattle.ct_replies.proofs.output.word_lines.print_text.Given as goal

abbrev pub invariant-loop-left : goal.invariant-loop-left
invariant-loop-left l =
    (l.left ≤ l.n) × (l.rest ≡ l.word / 2 ^ (l.n - l.left))
    × (drop l.left l.into ≡ word_text (l.n - l.left) (l.word % 2 ^ (l.n - l.left)))

abbrev pub decreases-loop-left : goal.decreases-loop-left
decreases-loop-left l = l.left + 1 - 8
