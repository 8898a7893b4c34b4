use Rattle.std.proofs.Common.{◌≡◌, ◌∙◌, sym, subst, ap, ap₂, ℕ, ◌+◌, ◌-◌, ◌*◌, ◌<◌, ◌≤◌, ◌^◌, nat_lt, List, length, get_or, Some, refl, arith}
use Rattle.std.proofs.Math.Facts.{Fits-lt-pow}
use Rattle.std.proofs.Math.Nat.{mul-le-mul_right}
use Rattle.std.proofs.lemmas.List.Elements.{All-from_get_or}
use Rattle.ct_words.specs.declared.limits.TheConstants.{MAX_N}
use Rattle.ct_words.specs.Word.{distance}
use Rattle.ct_words.specs.declared.fault.TheConstants.{MAX_REPRESENTATIVES}
use Rattle.ct_words.specs.Coset.{coset_list}
use Rattle.ct_codes.specs.Inside.First.{NonePasses, IsFirst}
use Rattle.ct_codes.specs.Inside.Span.{AreParts, is_close_choice}
use Rattle.ct_words.proofs.PairLemmas.{close_any_length}
use Rattle.ct_codes.proofs.ShiftedPairs.{shifted-none_before, shifted-row_found, shifted-end}
use Rattle.ct_codes.proofs.SpanLemmas.{length-coset_list, coset_list-lt}
use Rattle.ct_codes.proofs.CosetLemmas.{row-within, rows-of_choices}
use Rattle.ct_codes.proofs.BlockLemmas.{steps_long, span-small, position-first, position-none}
use Rattle.ct_codes.proofs.coset_search.in_blocks.Goals as goal

-- the number of a representative alone
row-small : (rows block steps basis : List ℕ) (b r : ℕ) → AreParts rows block steps basis → b < r → r ≤ MAX_REPRESENTATIVES → b * length steps * 64 ≤ MAX_REPRESENTATIVES * 2 ^ MAX_N
row-small rows block steps basis b r parts within few =
    let small = span-small rows block steps basis parts in
    let most : b * (length steps * 64) ≤ MAX_REPRESENTATIVES * (length steps * 64) = mul-le-mul_right (length steps * 64) (omega arith) in
    omega arith

pub overflow_mul-result : goal.overflow_mul-result
overflow_mul-result c =
    let small = row-small c.args.rows.now c.args.block.now c.args.steps.now c.args.basis.now c.loop-place.place (length c.args.representatives.now)
    c.requires.parts c.loop-place-test.true c.requires.representatives in
    record { fits = omega arith }

pub overflow_mul-result-in-Some : goal.overflow_mul-result-in-Some
overflow_mul-result-in-Some c =
    let small = row-small c.args.rows.now c.args.block.now c.args.steps.now c.args.basis.now c.loop-place.place (length c.args.representatives.now)
    c.requires.parts c.loop-place-test.true c.requires.representatives in
    record { fits = omega arith }

-- the place of a representative alone
first-is : (rows block steps basis : List ℕ) (b : ℕ) → AreParts rows block steps basis → b * length steps * 64 ≡ b * 2 ^ length basis
first-is rows block steps basis b parts =
    let regroup : b * length steps * 64 ≡ b * (length steps * 64) = omega arith in
    regroup ∙ ap (λ q. b * q) (steps_long rows block steps basis parts)

pub returns-in-Some-clause-least : goal.returns-in-Some-clause-least
returns-in-Some-clause-least c = λ n below.
    let close = λ (x y : ℕ). nat_lt (distance 32 x y) c.args.d in
    let basis = c.args.basis.now in
    let representatives = c.args.representatives.now in
    let words = coset_list basis representatives in
    let first = c.loop-place.place * 2 ^ length basis in
    let basis_fits = All-from_get_or (λ x. x < 2 ^ 32) basis 0 (λ k i. Fits-lt-pow (c.type_inv.basis k)) in
    let representatives_fit = All-from_get_or (λ x. x < 2 ^ 32) representatives 0 (λ k i. Fits-lt-pow (c.type_inv.representatives k)) in
    let fits = coset_list-lt 32 basis representatives basis_fits representatives_fit in
    let within = row-within words basis representatives c.loop-place.place (2 ^ length basis) refl refl c.loop-place-test.true in
    let found : IsFirst (is_close_choice c.args.d basis representatives c.loop-place.place) (first + 1) (length words) c.in-Some.other =
    subst (λ (q : ℕ). IsFirst (is_close_choice c.args.d basis representatives c.loop-place.place) (first + 1) q c.in-Some.other)
    (sym (length-coset_list basis representatives)) c.in-Some.ensures in
    let from = found.from in
    let more : c.in-Some.other ≡ first + 1 + (c.in-Some.other - (first + 1)) = omega arith in
    ap₂ (λ (i j : ℕ). Some (i, j)) (first-is c.args.rows.now c.args.block.now c.args.steps.now basis c.loop-place.place c.requires.parts) more
    ∙ sym (shifted-row_found close words first (c.in-Some.other - (first + 1)) within (position-first (close (get_or words first 0)) words first c.in-Some.other found))
    ∙ shifted-none_before close words first c.loop-place.invariant
    ∙ close_any_length 32 n c.args.d words fits below

pub returns-in-Some-clause-places : goal.returns-in-Some-clause-places
returns-in-Some-clause-places c =
    let from = c.in-Some.ensures.from in
    let first = first-is c.args.rows.now c.args.block.now c.args.steps.now c.args.basis.now c.loop-place.place c.requires.parts in
    (omega arith, c.in-Some.ensures.within)

pub loop-place-preserved : goal.loop-place-preserved
loop-place-preserved c =
    let basis = c.args.basis.now in
    let representatives = c.args.representatives.now in
    let words = coset_list basis representatives in
    let first = c.loop-place.place * 2 ^ length basis in
    let close = λ (x y : ℕ). nat_lt (distance 32 x y) c.args.d in
    let basis_fits = All-from_get_or (λ x. x < 2 ^ 32) basis 0 (λ k i. Fits-lt-pow (c.type_inv.basis k)) in
    let representatives_fit = All-from_get_or (λ x. x < 2 ^ 32) representatives 0 (λ k i. Fits-lt-pow (c.type_inv.representatives k)) in
    let fits = coset_list-lt 32 basis representatives basis_fits representatives_fit in
    let none : NonePasses (is_close_choice c.args.d basis representatives c.loop-place.place) (first + 1) (length words) =
    subst (λ (q : ℕ). NonePasses (is_close_choice c.args.d basis representatives c.loop-place.place) (first + 1) q)
    (sym (length-coset_list basis representatives)) c.in_default.ensures in
    rows-of_choices 32 c.args.d words basis representatives c.loop-place.place (2 ^ length basis) refl refl
    fits c.loop-place-test.true c.loop-place.invariant (position-none (close (get_or words first 0)) words first none)

pub returns-clause-least : goal.returns-clause-least
returns-clause-least c = λ n below.
    let close = λ (x y : ℕ). nat_lt (distance 32 x y) c.args.d in
    let basis = c.args.basis.now in
    let representatives = c.args.representatives.now in
    let words = coset_list basis representatives in
    let basis_fits = All-from_get_or (λ x. x < 2 ^ 32) basis 0 (λ k i. Fits-lt-pow (c.type_inv.basis k)) in
    let representatives_fit = All-from_get_or (λ x. x < 2 ^ 32) representatives 0 (λ k i. Fits-lt-pow (c.type_inv.representatives k)) in
    let fits = coset_list-lt 32 basis representatives basis_fits representatives_fit in
    let end = c.loop-place-test.false in
    let within = c.loop-place.auto.place-end in
    let all : c.loop-place.place ≡ length representatives = omega arith in
    let rows = ap (λ a. a * 2 ^ length basis) all in
    let size = length-coset_list basis representatives in
    sym (shifted-end close words (c.loop-place.place * 2 ^ length basis) (omega arith))
    ∙ shifted-none_before close words (c.loop-place.place * 2 ^ length basis) c.loop-place.invariant
    ∙ close_any_length 32 n c.args.d words fits below
