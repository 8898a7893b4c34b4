-- Evidence of kind dual, jdual or odd.
use Rattle.std.proofs.Common.{◌≡◌, ℕ, List, Option, Some, None, option_map, refl, ap}
use Rattle.ct_duals.specs.declared.dual.Dual.{Dual}
use Rattle.ct_duals.specs.declared.fault.DualFault.{DualFault}
use Rattle.ct_duals.specs.Dual.{AllowsNone, IsDual}
use Rattle.ct_duals.specs.Bound.{AcceptedValue, IsAccepted}
use Rattle.ct_duals.specs.Check.{dual_fault}
use Rattle.ct_duals.proofs.Faults.{below-from_none, none-from_below, accepted-from_none}
use Rattle.ct_words.specs.Numbers.{numbers_of}
use Rattle.ct_words.specs.declared.entry.Entry.{Entry}
use Rattle.ct_rule_parts.specs.declared.support.Support.{Support}
use Rattle.ct_rule_parts.specs.declared.support.Support.TheVariants.{Bound, Odd, Local, Size}
use Rattle.ct_rule_parts.specs.Support.{Stands}
use Rattle.ct_kind.specs.Named.{NamedCode}
use Rattle.ct_dual_files.specs.DualKind.{with_at_zero, support_by, dual_kind, dual_support, odd_support, local_support, IsDualChecked}
use Rattle.ct_kind.specs.declared.fault.SubmitFault.TheVariants as fault
use Rattle.ct_kind.proofs.Stating.{option_map-none, StatesWell, SaysSame}

-- what an accepted dual gives stands, where that stands that is given by it
support_stands : (given : AcceptedValue → Support) (d : Dual) → (IsAccepted (with_at_zero d) → Stands (given (with_at_zero d))) → IsDual d → (o : Option DualFault)
    → dual_fault (numbers_of d.entry) d ≡ o → Stands (support_by given o d)
support_stands given d stands form None none = stands (accepted-from_none d form none)
support_stands given d stands form (Some reason) is = tt

-- nor is it a size
pub gives_no_size : (d : Dual) (o : Option DualFault) (e : Entry) (size : ℕ) → dual_support o d ≡ Size e size → ⊥
gives_no_size d None e size h = absurd cc
gives_no_size d (Some reason) e size h = absurd cc

pub odd_gives_no_size : (d : Dual) (m : ℕ) (o : Option DualFault) (e : Entry) (size : ℕ) → odd_support m o d ≡ Size e size → ⊥
odd_gives_no_size d m None e size h = absurd cc
odd_gives_no_size d m (Some reason) e size h = absurd cc

pub local_gives_no_size : (d : Dual) (o : Option DualFault) (e : Entry) (size : ℕ) → local_support o d ≡ Size e size → ⊥
local_gives_no_size d None e size h = absurd cc
local_gives_no_size d (Some reason) e size h = absurd cc

-- a dual against which there is no reason is one, whatever the word of its kind and what it gives
kind_states : (given : AcceptedValue → Support) (known : List NamedCode) (text : List ℕ) (d : Dual) → (IsAccepted (with_at_zero d) → Stands (given (with_at_zero d)))
    → IsDual d → (dual_kind given text d).reason known ≡ None → StatesWell (dual_kind given text d) known (IsDualChecked d)
kind_states given known text d stands form own =
    record {
      entry = form.entry;
      checked = below-from_none (numbers_of d.entry) d (option_map-none fault.Dual _ own);
      coded = refl;
      code = tt;
      size = λ yes. absurd cc;
      partition = tt;
      stands = support_stands given d stands form (dual_fault (numbers_of d.entry) d) refl;
    }

pub dual_states : (known : List NamedCode) (text : List ℕ) (d : Dual) → IsDual d → AllowsNone d.entry.w d.y → (dual_kind Bound text d).reason known ≡ None
    → StatesWell (dual_kind Bound text d) known (IsDualChecked d)
dual_states known text d form plain own = kind_states Bound known text d (λ accepted. (accepted, plain)) form own

pub odd_states : (known : List NamedCode) (text : List ℕ) (d : Dual) (m : ℕ) → IsDual d → (dual_kind (λ accepted. Odd accepted m) text d).reason known ≡ None
    → StatesWell (dual_kind (λ accepted. Odd accepted m) text d) known (IsDualChecked d)
odd_states known text d m form own = kind_states (λ accepted. Odd accepted m) known text d (λ accepted. accepted) form own

pub local_states : (known : List NamedCode) (text : List ℕ) (d : Dual) → IsDual d → (dual_kind Local text d).reason known ≡ None
    → StatesWell (dual_kind Local text d) known (IsDualChecked d)
local_states known text d form own = kind_states Local known text d (λ accepted. accepted) form own

-- a dual has no reason against it
pub dual_accepted : (d : Dual) → IsDualChecked d → option_map fault.Dual (dual_fault (numbers_of d.entry) d) ≡ None
dual_accepted d checked = ap (option_map fault.Dual) (none-from_below (numbers_of d.entry) d checked.0 checked.1)

-- it is the same over all codes
pub dual_same : (given : AcceptedValue → Support) (text : List ℕ) (d : Dual) (left right : List NamedCode) → SaysSame (dual_kind given text d) left right
dual_same given text d left right = record { reason = refl; words = refl; size = refl }
