use Rattle.std.proofs.Common.{sym, arith}
use Rattle.ct_words.proofs.TextLemmas.{digit_before}
use Rattle.ct_words.proofs.text.digit.Goals as goal

pub returns-then-shift-ge-BITS-clause-value : goal.returns-then-shift-ge-BITS-clause-value
returns-then-shift-ge-BITS-clause-value c = sym (digit_before c.args.n c.args.word c.args.place 32 (omega arith) (omega arith))
