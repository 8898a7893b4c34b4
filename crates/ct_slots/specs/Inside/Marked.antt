-- The order in which the slots of a table are marked, and those that are marked on the way.
use Rattle.std.specs.Prelude.{ℕ, ◌+◌, ◌-◌, ◌*◌, ◌≤◌, List}
use Rattle.ct_words.specs.declared.limits.TheConstants.{MAX_N}
use Rattle.ct_words.specs.declared.claim.Side.{Side}
use Rattle.ct_words.specs.declared.claim.Side.TheVariants.{Lower, Upper}
use Rattle.ct_words.specs.Entry.{unrestricted, constant_weight}
use Rattle.ct_slots.specs.Worklist.{WorkValue, IsMarkedOrSettled}

-- the distance at a place among those of a side: from above they rise, from below they fall
abbrev pub distance_at : Side → ℕ → ℕ
distance_at Upper k = 3 + k
distance_at Lower k = MAX_N - k

-- so among the even ones
abbrev pub even_distance_at : Side → ℕ → ℕ
even_distance_at Upper k = 4 + 2 * k
even_distance_at Lower k = MAX_N - 2 * k

-- each entry of the distance with weight is marked on the side, or settled
abbrev pub AreMarkedWithWeight : List ℕ → WorkValue → Side → ℕ → Type 0
AreMarkedWithWeight bounds work side d =
    (n w : ℕ) → 1 ≤ n → n ≤ MAX_N → w ≤ n → IsMarkedOrSettled bounds work (side, constant_weight n d w)

-- each entry of the length without weight is marked on the side, or settled
abbrev pub AreMarkedWithoutWeight : List ℕ → WorkValue → Side → ℕ → Type 0
AreMarkedWithoutWeight bounds work side n = (d : ℕ) → 3 ≤ d → d ≤ MAX_N → IsMarkedOrSettled bounds work (side, unrestricted n d)
