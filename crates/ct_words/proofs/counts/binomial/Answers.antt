-- What is looked up is the binomial coefficient.
use Rattle.std.proofs.Common.{sym, ◌∙◌, arith}
use Rattle.ct_words.proofs.Counting.Binomials.{choose_past}
use Rattle.ct_words.proofs.PascalRows.{binomial_is}
use Rattle.ct_words.proofs.counts.binomial.Goals as goal

pub returns-then-n-k : goal.returns-then-n-k
returns-then-n-k c = sym (choose_past c.args.n c.args.k c.if-n-k.true)

pub returns : goal.returns
returns c = c.from.ensures ∙ binomial_is c.args.n c.args.k (omega arith) (omega arith)
