-- A quotient by a positive number fits; and where both are no wider than entries, so does that of the entries.
use Rattle.std.proofs.Common.{◌≡◌, false, ◌<◌, ap, ap₂, sym, subst, ◌∙◌, arith}
use Rattle.std.specs.Prelude.{ℤ, pos, ◌≤ℤ◌, int_div}
use Rattle.std.proofs.lemmas.Bool.{ltb-false}
use Rattle.std.proofs.lemmas.Int.{ints, to_z-of_z, quot_fits, fits_signed_from_abs}
use mir.Val.{SFits, to_z, of_z}
use mir.Syntax.{w64, w128}
use Rattle.ct_finder.specs.Pivot.{is_wide}
use Rattle.ct_finder.proofs.arithmetic.quotient.Goals as goal
use Rattle.ct_finder.proofs.arithmetic.quotient.Goals.{then-z-eq0-via-then-z-eq0, then-z-eq0-via-else-z-eq0+then-divisor-eq1}

quotient_fits : (z d : ℤ) → SFits w128 z → pos 1 ≤ℤ d → SFits w128 (int_div z d)
quotient_fits z d f some = quot_fits w128 z d f (omega (arith, ints))

narrow_fits : (z d : ℤ) → SFits w64 z → pos 1 ≤ℤ d → SFits w64 (int_div z d)
narrow_fits z d f some = quot_fits w64 z d f (omega (arith, ints))

positive_bits : (d : ℤ) → SFits w128 d → pos 1 ≤ℤ d → 0 < of_z w128 d
positive_bits d f some = omega (arith, ints)

narrow_bits : (d : ℤ) → SFits w64 d → pos 1 ≤ℤ d → 0 < of_z w64 d
narrow_bits d f some = omega (arith, ints)

narrow : (z : ℤ) → is_wide z ≡ false → SFits w64 z
narrow z h = let few = ltb-false _ _ h in fits_signed_from_abs w64 z (omega (arith, few))

-- both as they are read, from wide numbers and from narrow ones
wide_read : (z d : ℤ) → SFits w128 z → SFits w128 d → int_div (to_z w128 (of_z w128 z)) (to_z w128 (of_z w128 d)) ≡ int_div z d
wide_read z d f g = ap₂ int_div (to_z-of_z w128 z f) (to_z-of_z w128 d g)

narrow_read : (z : ℤ) → SFits w128 z → SFits w64 z → to_z w64 (of_z w64 (to_z w128 (of_z w128 z))) ≡ z
narrow_read z f g = ap (λ x. to_z w64 (of_z w64 x)) (to_z-of_z w128 z f) ∙ to_z-of_z w64 z g

-- by 1, and of 0
by_one : (z d : ℤ) → SFits w128 d → pos 1 ≤ℤ d → of_z w128 d ≡ 1 → int_div z d ≡ z
by_one z d f some one = let is : d ≡ pos 1 = omega (arith, ints) in rw is (whole z)
  where
    whole : (z : ℤ) → int_div z (pos 1) ≡ z
    whole z = omega (arith, ints)

of_none : (z d : ℤ) → SFits w128 z → pos 1 ≤ℤ d → of_z w128 z ≡ 0 → int_div z d ≡ z
of_none z d f some none = let is : z ≡ pos 0 = omega (arith, ints) in rw is (nothing d some)
  where
    nothing : (d : ℤ) → pos 1 ≤ℤ d → int_div (pos 0) d ≡ pos 0
    nothing d some = grind (arith, ints)

pub returns-then-z-eq0 : goal.returns-then-z-eq0
returns-then-z-eq0 c =
    let z = c.args.z in
    let d = c.args.divisor in
    let same : int_div z d ≡ z = elim c.then-z-eq0.branch [
      | then-z-eq0-via-then-z-eq0 w ↦ of_none z d c.ranges.z c.requires w.if-z-eq0.true
      | then-z-eq0-via-else-z-eq0+then-divisor-eq1 w ↦ by_one z d c.ranges.divisor c.requires w.if-divisor-eq1.true
    ] in
    to_z-of_z w128 z c.ranges.z ∙ sym same

pub nonzero_div-result : goal.nonzero_div-result
nonzero_div-result c =
    let fits = quotient_fits c.args.z c.args.divisor c.ranges.z c.requires in (
      positive_bits c.args.divisor c.ranges.divisor c.requires,
      subst (λ x. SFits w128 x) (sym (wide_read c.args.z c.args.divisor c.ranges.z c.ranges.divisor)) fits,
    )

pub returns-then-is_wide : goal.returns-then-is_wide
returns-then-is_wide c =
    ap (λ x. to_z w128 (of_z w128 x)) (wide_read c.args.z c.args.divisor c.ranges.z c.ranges.divisor)
    ∙ to_z-of_z w128 (int_div c.args.z c.args.divisor) (quotient_fits c.args.z c.args.divisor c.ranges.z c.requires)

pub overflow_cast-z : goal.overflow_cast-z
overflow_cast-z c = narrow _ (sym c.is_wide.ensures ∙ c.if-is_wide.false)

pub overflow_cast-divisor : goal.overflow_cast-divisor
overflow_cast-divisor c = narrow _ (sym c.is_wide-else-is_wide.ensures ∙ c.if-is_wide-2.false)

pub nonzero_div-z : goal.nonzero_div-z
nonzero_div-z c =
    let z = c.args.z in
    let d = c.args.divisor in
    let fz = subst (λ x. SFits w64 x) (to_z-of_z w128 z c.ranges.z) (narrow _ (sym c.is_wide.ensures ∙ c.if-is_wide.false)) in
    let fd = subst (λ x. SFits w64 x) (to_z-of_z w128 d c.ranges.divisor) (narrow _ (sym c.is_wide-else-is_wide.ensures ∙ c.if-is_wide-2.false)) in
    let read = ap₂ int_div (narrow_read z c.ranges.z fz) (narrow_read d c.ranges.divisor fd) in (
      subst (λ x. 0 < of_z w64 x) (sym (to_z-of_z w128 d c.ranges.divisor)) (narrow_bits d fd c.requires),
      subst (λ x. SFits w64 x) (sym read) (narrow_fits z d fz c.requires),
    )

pub returns : goal.returns
returns c =
    let z = c.args.z in
    let d = c.args.divisor in
    let fz = subst (λ x. SFits w64 x) (to_z-of_z w128 z c.ranges.z) (narrow _ (sym c.is_wide.ensures ∙ c.if-is_wide.false)) in
    let fd = subst (λ x. SFits w64 x) (to_z-of_z w128 d c.ranges.divisor) (narrow _ (sym c.is_wide-else-is_wide.ensures ∙ c.if-is_wide-2.false)) in
    let read = ap₂ int_div (narrow_read z c.ranges.z fz) (narrow_read d c.ranges.divisor fd) in
    let all : SFits w128 c.from.result = record { sfits = c.from.type_inv } in
    to_z-of_z w128 c.from.result all ∙ c.from.ensures ∙ ap (λ x. to_z w64 (of_z w64 x)) read ∙ to_z-of_z w64 (int_div z d) (narrow_fits z d fz c.requires)
