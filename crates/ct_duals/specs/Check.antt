-- When a dual is accepted, and the first reason why it is not.
use Rattle.std.specs.Prelude.{◌≡◌, ℕ, zero, suc, ◌<◌, Bool, ◌&&◌, if◌then◌else◌, IsTrue, ℤ, pos, int_lt, ◌≤ℤ◌, ◌<ℤ◌, Option, Some, None}
use Rattle.ct_words.specs.Pairs.{first_of}
use Rattle.ct_duals.specs.declared.dual.Dual.{Dual}
use Rattle.ct_duals.specs.declared.fault.DualFault.{DualFault}
use Rattle.ct_duals.specs.declared.fault.DualFault.TheVariants.{Lead, Above}
use Rattle.ct_words.specs.Numbers.{multiplier, combination}
use Rattle.ct_duals.specs.Dual.{degree_of, allowed, is_in_range}

-- what f gives at the least number below the bound where it gives something
abbrev pub first_below : {X : Type 0} → (ℕ → Option X) → ℕ → Option X
first_below f zero = None
first_below f (suc k) = first_of (first_below f k) (f k)

-- c_0 is 0
abbrev pub lead_fault : Dual → Option DualFault
lead_fault d = if int_lt (multiplier d.c 0) (pos 1) then Some Lead else None

-- i is in the range, and f(i) is above what is allowed there
abbrev pub is_above : (ℕ → ℕ → ℤ) → Dual → ℕ → Bool
is_above number d i = is_in_range d.entry d.even i && int_lt (allowed d.y i) (combination number d.c i)

-- the fault at i, where f(i) is above
abbrev pub fault_at : (ℕ → ℕ → ℤ) → Dual → ℕ → Option DualFault
fault_at number d i = if is_above number d i then Some (Above i (combination number d.c i) (allowed d.y i)) else None

-- the fault at the least i where f(i) is above
abbrev pub above_fault : (ℕ → ℕ → ℤ) → Dual → Option DualFault
above_fault number d = first_below (fault_at number d) (suc (degree_of d.entry))

-- the first reason why the dual is not accepted: lead, above, in this order; none where it is
unfoldable pub dual_fault : (ℕ → ℕ → ℤ) → Dual → Option DualFault
dual_fault number d = first_of (lead_fault d) (above_fault number d)

-- f is at most what is allowed at each index of the range
abbrev pub IsBelow : (ℕ → ℕ → ℤ) → Dual → Type 0
IsBelow number d = (i : ℕ) → IsTrue (is_in_range d.entry d.even i) → combination number d.c i ≤ℤ allowed d.y i

-- c_0 is at least 1, and `at` is the least index of the range where f, with the value there, is above what is allowed there
pub record IsLeastAbove (number : ℕ → ℕ → ℤ) (d : Dual) (at : ℕ) (value limit : ℤ) : Type 0 where
  pub lead : pos 1 ≤ℤ multiplier d.c 0
  pub in_range : IsTrue (is_in_range d.entry d.even at)
  pub value_is : value ≡ combination number d.c at
  pub limit_is : limit ≡ allowed d.y at
  pub above : limit <ℤ value
  pub least : (i : ℕ) → i < at → IsTrue (is_in_range d.entry d.even i) → combination number d.c i ≤ℤ allowed d.y i
