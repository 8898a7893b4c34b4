-- The product so far is the factorial of j.
use Rattle.std.proofs.Common.{◌≡◌}
use Rattle.ct_words.specs.Counting.Binomials.{factorial}
use Rattle.ct_words.proofs.counts.factorial.Given as goal

abbrev pub invariant-loop-j : goal.invariant-loop-j
invariant-loop-j l = l.product ≡ factorial l.j
