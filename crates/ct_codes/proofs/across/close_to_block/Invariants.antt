use Rattle.std.proofs.Common.{◌≡◌, ℕ, nat_lt, List, length}
use Rattle.ct_words.specs.Word.{distance}
use Rattle.ct_codes.specs.Inside.Across.{NoneAcross}
use Rattle.ct_codes.specs.Inside.Rows.{AreRows}
use Rattle.ct_codes.proofs.across.close_to_block.Given as goal

-- no word so far is close to one of the block
abbrev pub invariant-loop-place : goal.invariant-loop-place
invariant-loop-place l =
    (block : List ℕ) → length block ≡ 64 → AreRows l.rows block → NoneAcross (λ x y. nat_lt (distance 32 x y) l.d) l.words block l.place
