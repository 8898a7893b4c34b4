-- Plotkin's bound at n = 2d: the words that begin with one digit, without it, are a code one shorter.
use Rattle.std.proofs.Common.{◌≡◌, ℕ, zero, suc, ◌-◌, ◌*◌, ◌/◌, ◌≤◌, List, length, ap, ◌∙◌, arith}
use Rattle.std.proofs.Math.Nat.{div-one}
use Rattle.std.specs.Prelude.{Bool, true, false}
use Rattle.ct_words.proofs.Counting.Spread.{IsSpread}
use Rattle.ct_words.proofs.Counting.Shortened.{shortened, spread-shortened, length-halves}
use Rattle.ct_elementary.proofs.Averages.{spread_plotkin}

-- Plotkin's bound for n = 2d, where n = m + 1
spread_double_at : (m d : ℕ) → 1 ≤ d → suc m ≡ 2 * d → (cs : List (List Bool)) → IsSpread (suc m) d cs → length cs ≤ 4 * d
spread_double_at m d h e cs spread =
    let low = spread_plotkin m d (omega arith) (omega arith) (shortened 0 false cs) (spread-shortened m d 0 false cs (omega arith) spread) in
    let high = spread_plotkin m d (omega arith) (omega arith) (shortened 0 true cs) (spread-shortened m d 0 true cs (omega arith) spread) in
    let both = length-halves 0 cs in
    let gap : 2 * d - m ≡ 1 = omega arith in
    let floor : d / (2 * d - m) ≡ d = ap (λ z. d / z) gap ∙ div-one d in
    omega arith

-- Plotkin's bound for n = 2d
pub spread_double : (n d : ℕ) → 1 ≤ d → n ≡ 2 * d → (cs : List (List Bool)) → IsSpread n d cs → length cs ≤ 4 * d
spread_double zero d h e cs spread = absurd (omega arith)
spread_double (suc m) d h e cs spread = spread_double_at m d h e cs spread
