-- A bound that is not above the greatest one of the table.
use Rattle.std.proofs.Common.{ℕ, ◌^◌, ◌≤◌, min, List, length, arith}
use Rattle.std.proofs.Math.Nat.{pow-le-pow_right}
use Rattle.std.specs.Prelude.{Option}
use Rattle.ct_words.specs.declared.limits.TheConstants.{MAX_N, MAX_BOUND}
use Rattle.ct_words.specs.Code.{IsCode}
use Rattle.ct_words.proofs.CheckLemmas.{code_size-le}

-- no code of the table has more words than the greatest bound
pub capped_bound : (n d v : ℕ) (w : Option ℕ) → n ≤ MAX_N → ((words : List ℕ) → IsCode n d w words → length words ≤ v) → (words : List ℕ) → IsCode n d w words → length words ≤ min v MAX_BOUND
capped_bound n d v w h bound words code =
    let most = bound words code in
    let all = code_size-le n d w words code in
    let power : 2 ^ n ≤ 2 ^ MAX_N = pow-le-pow_right (omega arith) h in
    omega arith
