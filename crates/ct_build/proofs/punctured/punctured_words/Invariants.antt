use Rattle.std.proofs.Common.{◌≡◌, take}
use Rattle.ct_words.specs.Constructions.Punctured.{punctured}
use Rattle.ct_build.proofs.punctured.punctured_words.Given as goal

abbrev pub invariant-loop-word : goal.invariant-loop-word
invariant-loop-word l = l.rest.items ≡ punctured l.n l.places (take l.word-index l.words)
