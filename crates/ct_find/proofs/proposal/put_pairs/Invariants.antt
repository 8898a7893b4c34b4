use Rattle.ct_find.specs.Inside.Texts.{pairs_text}
use Rattle.std.proofs.Common.{◌≡◌, ◌++◌, drop}
use Rattle.ct_find.proofs.proposal.put_pairs.Given as goal

-- with the pairs that are left the text is whole
abbrev pub invariant-loop-i : goal.invariant-loop-i
invariant-loop-i l = l.text.items ++ pairs_text (drop l.i-index l.pairs) ≡ l.fn.text.items ++ pairs_text l.pairs
