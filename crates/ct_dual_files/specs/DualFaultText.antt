-- The texts of faults of duals.
use Rattle.std.specs.Prelude.{ℕ, ℤ, List, ◌∷◌, ◌++◌, codes}
use Rattle.std.specs.Fmt.{signed_decimal}
use Rattle.ct_text.specs.Number.{spaced}
use Rattle.ct_duals.specs.declared.fault.DualFault.{DualFault}
use Rattle.ct_duals.specs.declared.fault.DualFault.TheVariants as dual

-- a space (32) and a whole number
abbrev pub spaced_integer : ℤ → List ℕ
spaced_integer z = 32 ∷ signed_decimal z

-- why a dual is not accepted: the index, f there, and what is allowed there
abbrev pub dual_fault_text : DualFault → List ℕ
dual_fault_text dual.Lead = codes "lead"
dual_fault_text (dual.Above at value limit) = codes "above" ++ spaced at ++ spaced_integer value ++ spaced_integer limit
