-- The places of a table that hold a bound: a side of an entry.
use Rattle.std.specs.Prelude.{ℕ, ◌<◌, ◌≤◌, List, [], ◌∷◌}
use Rattle.ct_words.specs.declared.entry.Entry.{Entry}
use Rattle.ct_words.specs.declared.claim.Side.{Side}
use Rattle.ct_words.specs.declared.claim.Side.TheVariants.{Lower, Upper}
use Rattle.ct_words.specs.declared.claim.Claim.{Claim}
use Rattle.ct_words.specs.Entry.{unrestricted}

-- a side of an entry
abbrev pub Slot : Type 0
Slot = Side × Entry

-- what a claim bounds
abbrev pub slot_of : Claim → Slot
slot_of c = (c.side, c.entry)

-- the claim that the slot has the bound v
abbrev pub claim_at : Slot → ℕ → Claim
claim_at s v = record { side = s.0; entry = s.1; value = v }

-- A(n,d) from below
abbrev pub lower_at : ℕ → ℕ → Slot
lower_at n d = (Lower, unrestricted n d)

-- A(n,d) from above
abbrev pub upper_at : ℕ → ℕ → Slot
upper_at n d = (Upper, unrestricted n d)

-- a bound is no better than another: from below no greater, from above no smaller
abbrev pub IsNoBetter : Side → ℕ → ℕ → Type 0
IsNoBetter Lower u v = u ≤ v
IsNoBetter Upper u v = v ≤ u

-- a bound is better than another: from below greater, from above smaller
abbrev pub IsBetter : Side → ℕ → ℕ → Type 0
IsBetter Lower u v = v < u
IsBetter Upper u v = u < v

-- as many bounds as others, and none better than the one at its place among the others
abbrev pub AreNoBetter : Side → List ℕ → List ℕ → Type 0
AreNoBetter side [] [] = Unit {0}
AreNoBetter side (u ∷ us) (v ∷ vs) = IsNoBetter side u v × AreNoBetter side us vs
AreNoBetter side us vs = ⊥
