use Rattle.std.proofs.Common.{IsPermutation, take}
use Rattle.ct_words.specs.Constructions.Uuv.{uuv_words}
use Rattle.ct_build.proofs.parts_and_sums.words_and_sums.Given as goal

abbrev pub invariant-loop-u : goal.invariant-loop-u
invariant-loop-u l = IsPermutation (uuv_words l.n (take l.u-index l.us) l.vs) l.words.items
