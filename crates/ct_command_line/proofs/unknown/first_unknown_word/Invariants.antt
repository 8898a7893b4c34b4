use Rattle.std.proofs.Common.{◌≡◌, [], drop}
use denote.Text.{Utf8}
use denote.Shadow.{shadow}
use Rattle.ct_command_line.specs.CommandLine.{bytes_of, first_unknown}
use Rattle.ct_command_line.proofs.unknown.first_unknown_word.Given as goal

abbrev pub invariant-loop-word : goal.invariant-loop-word
invariant-loop-word l =
    shadow (Utf8 l.before)
    × (first_unknown [] (bytes_of l.words) ≡ first_unknown l.before (bytes_of (drop l.word-index l.words)))
