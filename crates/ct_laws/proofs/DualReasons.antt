-- Why a dual is refused.
use Rattle.std.proofs.Common.{◌≡◌, List, ℕ, Option, Some, refl, ap, subst}
use Rattle.ct_words.specs.Numbers.{numbers_of}
use Rattle.ct_duals.specs.declared.dual.Dual.{Dual}
use Rattle.ct_duals.specs.declared.fault.DualFault.{DualFault}
use Rattle.ct_duals.specs.declared.fault.DualFault.TheVariants as dual
use Rattle.ct_duals.specs.Bound.{AcceptedValue}
use Rattle.ct_duals.specs.Check.{dual_fault}
use Rattle.ct_duals.proofs.Faults.{lead-means, lead-from, above-means, above-from, below-from_none, none-from_below}
use Rattle.ct_rule_parts.specs.declared.support.Support.{Support}
use Rattle.ct_rule_parts.specs.declared.support.Support.TheVariants.{Nothing, Bound, Odd, Local}
use Rattle.ct_kind.specs.Named.{NamedCode}
use Rattle.ct_kind.specs.declared.fault.SubmitFault.{SubmitFault}
use Rattle.ct_kind.specs.declared.fault.SubmitFault.TheVariants as fault
use Rattle.ct_laws.proofs.Says.{Says, says-also, says-map}
use Rattle.ct_dual_files.specs.DualKind.{with_at_zero, support_by, dual_kind, IsDualChecked}
use Rattle.ct_laws.specs.DualRefusal.{IsDualRefusal}

says-dual : (d : Dual) → Says (dual_fault (numbers_of d.entry) d) (IsDualChecked d) (λ (f : DualFault). IsDualRefusal d (fault.Dual f))
says-dual d = record {
  clear = below-from_none (numbers_of d.entry) d;
  clears = λ right. none-from_below (numbers_of d.entry) d right.0 right.1;
  told = told;
  tells = tells;
} where
  told : (f : DualFault) → dual_fault (numbers_of d.entry) d ≡ Some f → IsDualRefusal d (fault.Dual f)
  told dual.Lead some = lead-means (numbers_of d.entry) d some
  told (dual.Above at value allowed) some = above-means (numbers_of d.entry) d at value allowed some

  tells : (f : DualFault) → IsDualRefusal d (fault.Dual f) → dual_fault (numbers_of d.entry) d ≡ Some f
  tells dual.Lead h = lead-from (numbers_of d.entry) d h
  tells (dual.Above at value allowed) h = above-from (numbers_of d.entry) d at value allowed h

dual-back : (d : Dual) (reason : SubmitFault) → IsDualRefusal d reason → (f : DualFault) × ◌≡◌ {A = SubmitFault} (fault.Dual f) reason × IsDualRefusal d (fault.Dual f)
dual-back d (fault.Dual f) h = (f, refl, h)
dual-back d reason h = absurd h

-- evidence of kind dual, jdual, odd or jlocal
pub dual-reasons : (known : List NamedCode) (text : List ℕ) (d : Dual) → Says ((dual_kind Bound text d).reason known) (IsDualChecked d) (IsDualRefusal d)
dual-reasons known text d =
    says-also (says-map fault.Dual (dual_fault (numbers_of d.entry) d) (says-dual d)) (λ right. right) (λ right. right)
    (λ reason h. subst (IsDualRefusal d) h.1 h.2) (dual-back d)

pub odd-reasons : (known : List NamedCode) (text : List ℕ) (d : Dual) (m : ℕ) → Says ((dual_kind (λ accepted. Odd accepted m) text d).reason known) (IsDualChecked d) (IsDualRefusal d)
odd-reasons known text d m = dual-reasons known text d

pub local-reasons : (known : List NamedCode) (text : List ℕ) (d : Dual) → Says ((dual_kind Local text d).reason known) (IsDualChecked d) (IsDualRefusal d)
local-reasons known text d = dual-reasons known text d

-- what a dual gives that is accepted, and one that is refused
given : (by : AcceptedValue → Support) (d : Dual) → IsDualChecked d → support_by by (dual_fault (numbers_of d.entry) d) d ≡ by (with_at_zero d)
given by d checked = ap (λ (o : Option DualFault). support_by by o d) ((says-dual d).clears checked)

given_nothing : (by : AcceptedValue → Support) (d : Dual) (reason : SubmitFault) → IsDualRefusal d reason
    → support_by by (dual_fault (numbers_of d.entry) d) d ≡ Nothing
given_nothing by d reason refused =
    let (f, is, wrong) = dual-back d reason refused in
    ap (λ (o : Option DualFault). support_by by o d) ((says-dual d).tells f wrong)

-- with an odd number of words it gives that so many may be excluded, or nothing
pub odd_gives : (text : List ℕ) (d : Dual) (m : ℕ) (size : Option ℕ) → IsDualChecked d → (dual_kind (λ accepted. Odd accepted m) text d).gives size ≡ Odd (with_at_zero d) m
odd_gives text d m size checked = given (λ accepted. Odd accepted m) d checked

pub odd_gives_nothing : (text : List ℕ) (d : Dual) (m : ℕ) (reason : SubmitFault) (size : Option ℕ) → IsDualRefusal d reason
    → (dual_kind (λ accepted. Odd accepted m) text d).gives size ≡ Nothing
odd_gives_nothing text d m reason size refused = given_nothing (λ accepted. Odd accepted m) d reason refused

-- of kind jlocal it gives its local bound, or nothing
pub local_gives : (text : List ℕ) (d : Dual) (size : Option ℕ) → IsDualChecked d → (dual_kind Local text d).gives size ≡ Local (with_at_zero d)
local_gives text d size checked = given Local d checked

pub local_gives_nothing : (text : List ℕ) (d : Dual) (reason : SubmitFault) (size : Option ℕ) → IsDualRefusal d reason
    → (dual_kind Local text d).gives size ≡ Nothing
local_gives_nothing text d reason size refused = given_nothing Local d reason refused
