use Rattle.std.proofs.Common.{◌≡◌, take}
use Rattle.ct_words.specs.Constructions.Translation.{selected}
use Rattle.ct_build.proofs.translation.sums_of_weight.Given as goal

abbrev pub invariant-loop-word : goal.invariant-loop-word
invariant-loop-word l = l.chosen.items ≡ selected l.part.n l.by l.w (take l.word-index l.words)
