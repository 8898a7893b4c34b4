-- One more entry.
use Rattle.ct_finder.specs.Inside.Pivot.{crossed}
use Rattle.std.proofs.Common.{rules, ◌≡◌, ◌-◌, ◌<◌, ◌^◌, true, false, length, get_or, map, sym, ap, subst, ◌∙◌, arith, take_all}
use Rattle.std.specs.Prelude.{ℤ, pos, ◌≤ℤ◌, ◌*ℤ◌, ◌-ℤ◌, int_div, find, Some, unsigned_abs}
use Rattle.std.proofs.lemmas.Int.{to_z-of_z, fits_signed_from_abs}
use Rattle.std.proofs.lemmas.Bool.{ltb-false}
use Rattle.std.proofs.lemmas.List.{length-map, get_or-map}
use Rattle.std.proofs.lemmas.List.Elements.{All-set}
use mir.Val.{SFits}
use mir.Syntax.{w64, w128}
use Rattle.ct_finder.specs.Pivot.{is_wide}
use Rattle.ct_finder.proofs.Written.{written-more, written-end, written-at, find-more, find-here}
use Rattle.ct_finder.proofs.CrossedRows.{length-crossed, crossed-at}
use Rattle.ct_finder.proofs.row.divide_crossed.Goals as goal

not_wide : (z : ℤ) → is_wide z ≡ false → SFits w64 z
not_wide z h = fits_signed_from_abs w64 z (omega (arith, ltb-false (2 ^ 63 - 1) (unsigned_abs z) h))

pub loop-j-preserved : goal.loop-j-preserved
loop-j-preserved c =
    let row = c.args.row.now in
    let now = c.loop-j.row in
    let pivot = c.args.pivot.now in
    let j = c.loop-j.j in
    let xs = crossed c.args.p c.args.r pivot row in
    let targets = map (λ (z : ℤ). int_div z c.args.divisor) xs in
    let fp : SFits w64 c.args.p = c.ranges.p in
    let fr : SFits w64 c.args.r = c.ranges.r in
    let fd : SFits w128 c.args.divisor = c.ranges.divisor in
    let fx : SFits w64 (get_or now j (pos 0)) = search rules in
    let fy : SFits w64 (get_or pivot j (pos 0)) = search rules in
    let fc : SFits w128 c.cross.result = record { sfits = c.cross.type_inv } in
    let fq : SFits w128 c.quotient-entry.result = record { sfits = c.quotient-entry.type_inv } in
    let within : j < length row = omega arith in
    let count = length-crossed c.args.p c.args.r pivot row c.requires.width in
    let was = simp to_z-of_z at c.loop-j.invariant.0 in
    let none = simp to_z-of_z at c.loop-j.invariant.1 in
    let many : length targets ≡ length xs = length-map xs (λ (z : ℤ). int_div z c.args.divisor) in
    let same : get_or now j (pos 0) ≡ get_or row j (pos 0) = written-at targets row now j (pos 0) was in
    let crossed_is : c.cross.result ≡ get_or xs j (pos 0) =
    (simp to_z-of_z at c.cross.ensures.value) ∙ ap (λ z. (c.args.p *ℤ z) -ℤ (c.args.r *ℤ get_or pivot j (pos 0))) same
    ∙ sym (crossed-at c.args.p c.args.r pivot row j c.requires.width within) in
    let entry_is : c.quotient-entry.result ≡ get_or targets j (pos 0) =
    (simp to_z-of_z at c.quotient-entry.ensures) ∙ ap (λ z. int_div z c.args.divisor) crossed_is
    ∙ sym (get_or-map (λ (z : ℤ). int_div z c.args.divisor) xs j (pos 0) (pos 0) (omega arith)) in
    let wide_is : c.is_wide.result ≡ is_wide c.quotient-entry.result = simp to_z-of_z at c.is_wide.ensures in
    let narrow : is_wide c.quotient-entry.result ≡ false = sym wide_is ∙ c.if-is_wide.false in
    let ft : SFits w64 c.quotient-entry.result = not_wide c.quotient-entry.result narrow in
    let next = written-more targets row now j c.quotient-entry.result (pos 0) (omega arith) (omega arith) entry_is was in
    let still = find-more is_wide targets j (pos 0) (omega arith) none (sym (ap is_wide entry_is) ∙ narrow) in
    simp to_z-of_z (next, still, All-set (λ (z : ℤ). is_wide z ≡ false) now j c.quotient-entry.result narrow c.loop-j.invariant.2)

pub returns-then-is_wide-clause-wide : goal.returns-then-is_wide-clause-wide
returns-then-is_wide-clause-wide c =
    let row = c.args.row.now in
    let now = c.loop-j.row in
    let pivot = c.args.pivot.now in
    let j = c.loop-j.j in
    let xs = crossed c.args.p c.args.r pivot row in
    let targets = map (λ (z : ℤ). int_div z c.args.divisor) xs in
    let fp : SFits w64 c.args.p = c.ranges.p in
    let fr : SFits w64 c.args.r = c.ranges.r in
    let fd : SFits w128 c.args.divisor = c.ranges.divisor in
    let fx : SFits w64 (get_or now j (pos 0)) = search rules in
    let fy : SFits w64 (get_or pivot j (pos 0)) = search rules in
    let fc : SFits w128 c.cross.result = record { sfits = c.cross.type_inv } in
    let fq : SFits w128 c.quotient-entry.result = record { sfits = c.quotient-entry.type_inv } in
    let within : j < length row = omega arith in
    let count = length-crossed c.args.p c.args.r pivot row c.requires.width in
    let was = simp to_z-of_z at c.loop-j.invariant.0 in
    let none = simp to_z-of_z at c.loop-j.invariant.1 in
    let many : length targets ≡ length xs = length-map xs (λ (z : ℤ). int_div z c.args.divisor) in
    let same : get_or now j (pos 0) ≡ get_or row j (pos 0) = written-at targets row now j (pos 0) was in
    let crossed_is : c.cross.result ≡ get_or xs j (pos 0) =
    (simp to_z-of_z at c.cross.ensures.value) ∙ ap (λ z. (c.args.p *ℤ z) -ℤ (c.args.r *ℤ get_or pivot j (pos 0))) same
    ∙ sym (crossed-at c.args.p c.args.r pivot row j c.requires.width within) in
    let entry_is : c.quotient-entry.result ≡ get_or targets j (pos 0) =
    (simp to_z-of_z at c.quotient-entry.ensures) ∙ ap (λ z. int_div z c.args.divisor) crossed_is
    ∙ sym (get_or-map (λ (z : ℤ). int_div z c.args.divisor) xs j (pos 0) (pos 0) (omega arith)) in
    let wide_is : c.is_wide.result ≡ is_wide c.quotient-entry.result = simp to_z-of_z at c.is_wide.ensures in
    let wide : is_wide (get_or targets j (pos 0)) ≡ true = sym (ap is_wide entry_is) ∙ sym wide_is ∙ c.if-is_wide.true in
    let found = find-here is_wide targets j (pos 0) (omega arith) none wide in
    simp to_z-of_z (ap Some entry_is ∙ sym found)

pub returns-clause-wide : goal.returns-clause-wide
returns-clause-wide c =
    let row = c.args.row.now in
    let pivot = c.args.pivot.now in
    let j = c.loop-j.j in
    let xs = crossed c.args.p c.args.r pivot row in
    let targets = map (λ (z : ℤ). int_div z c.args.divisor) xs in
    let fp : SFits w64 c.args.p = c.ranges.p in
    let fr : SFits w64 c.args.r = c.ranges.r in
    let fd : SFits w128 c.args.divisor = c.ranges.divisor in
    let count = length-crossed c.args.p c.args.r pivot row c.requires.width in
    let was = simp to_z-of_z at c.loop-j.invariant.0 in
    let none = simp to_z-of_z at c.loop-j.invariant.1 in
    let many : length targets ≡ length xs = length-map xs (λ (z : ℤ). int_div z c.args.divisor) in
    sym (ap (find is_wide) (sym (take_all j targets (omega arith))) ∙ none)

pub returns-clause-row : goal.returns-clause-row
returns-clause-row c = λ _.
    let row = c.args.row.now in
    let pivot = c.args.pivot.now in
    let j = c.loop-j.j in
    let xs = crossed c.args.p c.args.r pivot row in
    let targets = map (λ (z : ℤ). int_div z c.args.divisor) xs in
    let fp : SFits w64 c.args.p = c.ranges.p in
    let fr : SFits w64 c.args.r = c.ranges.r in
    let fd : SFits w128 c.args.divisor = c.ranges.divisor in
    let count = length-crossed c.args.p c.args.r pivot row c.requires.width in
    let was = simp to_z-of_z at c.loop-j.invariant.0 in
    let none = simp to_z-of_z at c.loop-j.invariant.1 in
    let many : length targets ≡ length xs = length-map xs (λ (z : ℤ). int_div z c.args.divisor) in
    written-end targets row c.loop-j.row j (omega arith) (omega arith) was

pub quotient-entry-requires : goal.quotient-entry-requires
quotient-entry-requires c = subst (λ (z : ℤ). pos 1 ≤ℤ z) (sym (to_z-of_z w128 c.args.divisor c.ranges.divisor)) c.requires.divisor

pub overflow_cast-row : goal.overflow_cast-row
overflow_cast-row c =
    let fits : SFits w128 c.quotient-entry.result = record { sfits = c.quotient-entry.type_inv } in
    let same = to_z-of_z w128 c.quotient-entry.result fits in
    subst (SFits w64) (sym same) (not_wide c.quotient-entry.result (ap is_wide (sym same) ∙ sym c.is_wide.ensures ∙ c.if-is_wide.false))
