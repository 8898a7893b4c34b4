-- Counts of faults over several calls.
use Rattle.std.proofs.Common.{◌≡◌, ℕ, ◌+◌, ◌-◌, ◌^◌, ◌≤◌, inl, inr, arith}
use Rattle.std.specs.Prelude.{min}
use Rattle.std.proofs.lemmas.Bool.{cases_lt}
use Rattle.ct_io.specs.Faults.{Rose}

-- a count that rose, and then didn't fall, rose
pub Rose-then : (a b c : ℕ) → Rose a b → b ≤ c → Rose a c
Rose-then a b c rose kept = elim rose [ inl more ↦ inl (omega arith) | inr last ↦ inr (omega arith) ]

-- a count that didn't fall, and then rose, rose
pub Rose-after : (a b c : ℕ) → a ≤ b → Rose b c → Rose a c
Rose-after a b c kept rose = elim rose [ inl more ↦ inl (omega arith) | inr last ↦ inr last ]

-- a count that is raised by one, up to its last value, rose
pub Rose-counted : (old new : ℕ) → new ≡ min (old + 1) (2 ^ 64 - 1) → Rose old new
Rose-counted old new is = elim (cases_lt old new) [ inl more ↦ inl more | inr last ↦ inr (omega arith) ]
