-- Why a dual is refused: each reason by its plain condition.
use Rattle.std.specs.Prelude.{pos, ◌≤ℤ◌}
use Rattle.ct_words.specs.Numbers.{numbers_of, multiplier}
use Rattle.ct_duals.specs.declared.dual.Dual.{Dual}
use Rattle.ct_duals.specs.declared.fault.DualFault.TheVariants as dual
use Rattle.ct_duals.specs.Check.{IsLeastAbove}
use Rattle.ct_kind.specs.declared.fault.SubmitFault.{SubmitFault}
use Rattle.ct_kind.specs.declared.fault.SubmitFault.TheVariants as fault

-- evidence of kind dual, jdual, jlocal or odd is refused for this reason: c_0 is below 1; or else f is above what is allowed at the least such index
abbrev pub IsDualRefusal : Dual → SubmitFault → Type 0
IsDualRefusal d (fault.Dual dual.Lead) = multiplier d.c 0 ≤ℤ pos 0
IsDualRefusal d (fault.Dual (dual.Above at value allowed)) = IsLeastAbove (numbers_of d.entry) d at value allowed
IsDualRefusal d reason = ⊥
