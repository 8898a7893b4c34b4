use Rattle.std.proofs.Common.{◌≡◌, ◌∙◌, sym, subst, ap₂, ℕ, ◌*◌, ◌%◌, ◌^◌, ◌≤◌, List, Fits, w32, length, arith}
use Rattle.std.proofs.Math.Nat.{mod-eq_of_lt}
use Rattle.ct_words.specs.declared.fault.TheConstants.{MAX_COSET_WORK}
use Rattle.ct_words.specs.Code.{IsTrueLower}
use Rattle.ct_words.specs.Coset.{choice_count, coset_work, CosetValue}
use Rattle.ct_codes.proofs.CosetLemmas.{choice_count-le, choice_count-lower}
use Rattle.ct_codes.proofs.coset.CosetCode.size.Goals as goal

-- the shift loses no digit
size_is : (basis representatives : List ℕ) (r k : ℕ) → 1 ≤ length representatives → coset_work basis representatives ≤ MAX_COSET_WORK
    → r ≡ length representatives → k ≡ length basis → r * 2 ^ k % 18446744073709551616 ≡ choice_count basis representatives
size_is basis representatives r k some little r_is k_is =
    let few = choice_count-le basis representatives some in
    ap₂ (λ a b. a * 2 ^ b % 18446744073709551616) r_is k_is ∙ mod-eq_of_lt (omega arith)

size-fits : (basis representatives : List ℕ) (r k : ℕ) → 1 ≤ length representatives → coset_work basis representatives ≤ MAX_COSET_WORK
    → r ≡ length representatives → k ≡ length basis → Fits w32 (r * 2 ^ k % 18446744073709551616)
size-fits basis representatives r k some little r_is k_is =
    let same = size_is basis representatives r k some little r_is k_is in
    let few = choice_count-le basis representatives some in
    omega arith

pub returns-clause-lower : goal.returns-clause-lower
returns-clause-lower c =
    let inside = c.self.inside in
    let value : CosetValue = record { entry = inside.entry; basis = inside.basis.items; representatives = inside.representatives.items } in
    let r_is : c.len.result ≡ length inside.representatives.items = omega arith in
    let k_is : c.len-2.result ≡ length inside.basis.items = omega arith in
    let same = size_is inside.basis.items inside.representatives.items c.len.result c.len-2.result c.self.invariant.representative_size.0
    c.self.invariant.work r_is k_is in
    subst (λ (v : CosetValue). IsTrueLower v.entry (c.len.result * 2 ^ c.len-2.result % 18446744073709551616)) c.self.view_is
    (subst (IsTrueLower inside.entry) (sym same) (choice_count-lower value c.self.invariant))

pub overflow_cast-result : goal.overflow_cast-result
overflow_cast-result c =
    let inside = c.self.inside in
    let r_is : c.len.result ≡ length inside.representatives.items = omega arith in
    let k_is : c.len-2.result ≡ length inside.basis.items = omega arith in
    size-fits inside.basis.items inside.representatives.items c.len.result c.len-2.result c.self.invariant.representative_size.0 c.self.invariant.work r_is k_is
