use Rattle.std.proofs.Common.{◌≡◌, ◌-◌, ◌++◌, bit_xor, map, take, drop}
use Rattle.ct_codes.proofs.choices.append_sums.Given as goal

-- the sums with the words before the place
abbrev pub invariant-loop-place : goal.invariant-loop-place
invariant-loop-place l =
    l.words.items ≡ l.fn.words.items ++ map (λ x. bit_xor x l.word) (take (l.place - l.start) (drop l.start l.fn.words.items))
