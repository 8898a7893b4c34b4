use Rattle.std.proofs.Common.{◌≡◌, take}
use Rattle.ct_words.specs.Constructions.Shortened.{shortened}
use Rattle.ct_build.proofs.shortened.shortened_words.Given as goal

abbrev pub invariant-loop-word : goal.invariant-loop-word
invariant-loop-word l = l.rest.items ≡ shortened l.n l.places l.digits (take l.word-index l.words)
