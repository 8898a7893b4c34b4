use Rattle.std.proofs.Common.{◌≡◌, ℕ, ◌+◌, ◌*◌, ◌<◌, ◌≤◌, ◌^◌, bit_xor, List, length, get_or, sym, subst, arith, pow_pos}
use Rattle.std.specs.Int.Bits.{xor_self}
use Rattle.std.proofs.Math.Facts.{Fits-lt-pow}
use Rattle.std.proofs.Math.Nat.{mul-le-mul_right}
use Rattle.std.proofs.lemmas.List.Elements.{All-from_get_or}
use Rattle.ct_words.specs.declared.limits.TheConstants.{MAX_N}
use Rattle.ct_words.specs.declared.fault.TheConstants.{MAX_REPRESENTATIVES}
use Rattle.ct_words.specs.Coset.{choice_count}
use Rattle.ct_codes.specs.Inside.First.{NonePasses, IsFirst}
use Rattle.ct_codes.specs.Inside.Span.{AreParts, is_close_sum, is_close_choice}
use Rattle.ct_codes.proofs.BlockLemmas.{steps_long, span-small, none_of_row, first_of_row, none_passes-join, first-join}
use Rattle.ct_codes.proofs.coset_search.close_to.Goals as goal

pub overflow_mul-span : goal.overflow_mul-span
overflow_mul-span c =
    let small = span-small c.args.rows.now c.args.block.now c.args.steps.now c.args.basis.now c.requires.parts in
    record { fits = omega arith }

-- the number of a choice
row-small : (rows block steps basis : List ℕ) (b r : ℕ) → AreParts rows block steps basis → b < r → r ≤ MAX_REPRESENTATIVES → b * (length steps * 64) ≤ MAX_REPRESENTATIVES * 2 ^ MAX_N
row-small rows block steps basis b r parts within few =
    let small = span-small rows block steps basis parts in
    let most : b * (length steps * 64) ≤ MAX_REPRESENTATIVES * (length steps * 64) = mul-le-mul_right (length steps * 64) (omega arith) in
    omega arith

pub overflow_mul-result : goal.overflow_mul-result
overflow_mul-result c =
    let small = row-small c.args.rows.now c.args.block.now c.args.steps.now c.args.basis.now c.args.place (length c.args.representatives.now)
    c.requires.parts c.requires.place c.requires.representatives in
    record { fits = omega arith }

pub overflow_add-result : goal.overflow_add-result
overflow_add-result c =
    let small = row-small c.args.rows.now c.args.block.now c.args.steps.now c.args.basis.now c.args.place (length c.args.representatives.now)
    c.requires.parts c.requires.place c.requires.representatives in
    let few = span-small c.args.rows.now c.args.block.now c.args.steps.now c.args.basis.now c.requires.parts in
    let long = steps_long c.args.rows.now c.args.block.now c.args.steps.now c.args.basis.now c.requires.parts in
    let within = c.in-Some.ensures.within in
    record { fits = omega arith }

pub overflow_mul-result-in-Some-first_close_sum : goal.overflow_mul-result-in-Some-first_close_sum
overflow_mul-result-in-Some-first_close_sum c =
    let small = row-small c.args.rows.now c.args.block.now c.args.steps.now c.args.basis.now c.loop-other.other (length c.args.representatives.now)
    c.requires.parts c.loop-other-test.true c.requires.representatives in
    record { fits = omega arith }

pub overflow_add-result-in-Some-first_close_sum : goal.overflow_add-result-in-Some-first_close_sum
overflow_add-result-in-Some-first_close_sum c =
    let small = row-small c.args.rows.now c.args.block.now c.args.steps.now c.args.basis.now c.loop-other.other (length c.args.representatives.now)
    c.requires.parts c.loop-other-test.true c.requires.representatives in
    let few = span-small c.args.rows.now c.args.block.now c.args.steps.now c.args.basis.now c.requires.parts in
    let long = steps_long c.args.rows.now c.args.block.now c.args.steps.now c.args.basis.now c.requires.parts in
    let within = c.in-Some-first_close_sum.ensures.within in
    record { fits = omega arith }

-- the sum of a representative with itself
own_first : (d : ℕ) (basis representatives : List ℕ) (a s : ℕ) → IsFirst (is_close_sum d basis 0) 1 (2 ^ length basis) s
    → IsFirst (is_close_sum d basis (bit_xor (get_or representatives a 0) (get_or representatives a 0))) 1 (2 ^ length basis) s
own_first d basis representatives a s first =
    subst (λ z. IsFirst (is_close_sum d basis z) 1 (2 ^ length basis) s) (sym (xor_self (get_or representatives a 0))) first

own_none : (d : ℕ) (basis representatives : List ℕ) (a : ℕ) → NonePasses (is_close_sum d basis 0) 1 (2 ^ length basis)
    → NonePasses (is_close_sum d basis (bit_xor (get_or representatives a 0) (get_or representatives a 0))) 1 (2 ^ length basis)
own_none d basis representatives a none =
    subst (λ z. NonePasses (is_close_sum d basis z) 1 (2 ^ length basis)) (sym (xor_self (get_or representatives a 0))) none

pub returns-in-Some : goal.returns-in-Some
returns-in-Some c =
    let basis = c.args.basis.now in
    let representatives = c.args.representatives.now in
    let a = c.args.place in
    let s = c.in-Some.choice in
    let basis_below = All-from_get_or (λ x. x < 2 ^ 32) basis 0 (λ k i. Fits-lt-pow (c.type_inv.basis k)) in
    let below = All-from_get_or (λ x. x < 2 ^ 32) representatives 0 (λ k i. Fits-lt-pow (c.type_inv.representatives k)) in
    subst (λ (q : ℕ). IsFirst (is_close_choice c.args.d basis representatives a) (a * 2 ^ length basis + 1) (choice_count basis representatives) (a * q + s))
    (sym (steps_long c.args.rows.now c.args.block.now c.args.steps.now basis c.requires.parts))
    (first_of_row c.args.d basis representatives a a 1 s basis_below below c.requires.place c.requires.place
    (own_first c.args.d basis representatives a s c.in-Some.ensures))

pub loop-other-init : goal.loop-other-init
loop-other-init c =
    let basis = c.args.basis.now in
    let representatives = c.args.representatives.now in
    let basis_below = All-from_get_or (λ x. x < 2 ^ 32) basis 0 (λ k i. Fits-lt-pow (c.type_inv.basis k)) in
    let below = All-from_get_or (λ x. x < 2 ^ 32) representatives 0 (λ k i. Fits-lt-pow (c.type_inv.representatives k)) in
    none_of_row c.args.d basis representatives c.args.place c.args.place 1 basis_below below c.requires.place c.requires.place
    (own_none c.args.d basis representatives c.args.place c.in_default.ensures)

pub returns-in-Some-first_close_sum : goal.returns-in-Some-first_close_sum
returns-in-Some-first_close_sum c =
    let basis = c.args.basis.now in
    let representatives = c.args.representatives.now in
    let a = c.args.place in
    let b = c.loop-other.other in
    let s = c.in-Some-first_close_sum.choice in
    let test = is_close_choice c.args.d basis representatives a in
    let span = 2 ^ length basis in
    let basis_below = All-from_get_or (λ x. x < 2 ^ 32) basis 0 (λ k i. Fits-lt-pow (c.type_inv.basis k)) in
    let below = All-from_get_or (λ x. x < 2 ^ 32) representatives 0 (λ k i. Fits-lt-pow (c.type_inv.representatives k)) in
    let later = c.loop-other.auto.other in
    let more : (a + 1) * span ≤ b * span = mul-le-mul_right span (omega arith) in
    let some = pow_pos (length basis) in
    let start : b * span + 0 ≡ b * span = omega arith in
    let row = first_of_row c.args.d basis representatives a b 0 s basis_below below c.requires.place c.loop-other-test.true c.in-Some-first_close_sum.ensures in
    subst (λ (q : ℕ). IsFirst test (a * span + 1) (choice_count basis representatives) (b * q + s))
    (sym (steps_long c.args.rows.now c.args.block.now c.args.steps.now basis c.requires.parts))
    (first-join test (a * span + 1) (b * span) (choice_count basis representatives) (b * span + s) (omega arith) c.loop-other.invariant
    (subst (λ (q : ℕ). IsFirst test q (choice_count basis representatives) (b * span + s)) start row))

pub loop-other-preserved : goal.loop-other-preserved
loop-other-preserved c =
    let basis = c.args.basis.now in
    let representatives = c.args.representatives.now in
    let a = c.args.place in
    let b = c.loop-other.other in
    let test = is_close_choice c.args.d basis representatives a in
    let span = 2 ^ length basis in
    let basis_below = All-from_get_or (λ x. x < 2 ^ 32) basis 0 (λ k i. Fits-lt-pow (c.type_inv.basis k)) in
    let below = All-from_get_or (λ x. x < 2 ^ 32) representatives 0 (λ k i. Fits-lt-pow (c.type_inv.representatives k)) in
    let start : b * span + 0 ≡ b * span = omega arith in
    let row = none_of_row c.args.d basis representatives a b 0 basis_below below c.requires.place c.loop-other-test.true c.in_default-first_close_sum.ensures in
    none_passes-join test (a * span + 1) (b * span) ((b + 1) * span) c.loop-other.invariant
    (subst (λ (q : ℕ). NonePasses test q ((b + 1) * span)) start row)
