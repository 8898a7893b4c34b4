-- One more entry.
use Rattle.ct_finder.specs.Inside.Pivot.{crossed}
use Rattle.std.proofs.Common.{rules, ◌≡◌, ◌+◌, ◌<◌, ◌^◌, drop, get_or, length, sym, ap, ◌∙◌, arith}
use Rattle.std.specs.Prelude.{fold, pos, unsigned_abs}
use Rattle.std.proofs.lemmas.Int.{to_z-of_z}
use Rattle.std.proofs.lemmas.List.{drop_all}
use mir.Val.{SFits}
use mir.Syntax.{w64, w128}
use Rattle.ct_finder.specs.Divisor.{gcd, gcd_of}
use Rattle.ct_finder.proofs.Divisors.{gcd_of-fold}
use Rattle.ct_finder.proofs.CrossedRows.{length-crossed, crossed-at, with_entry, divisor-more, divisor-one}
use Rattle.ct_finder.proofs.row.gcd_of_crossed.Goals as goal

pub loop-j-init : goal.loop-j-init
loop-j-init c =
    let fp : SFits w64 c.args.p = c.ranges.p in
    let fr : SFits w64 c.args.r = c.ranges.r in
    (simp to_z-of_z (sym (gcd_of-fold (crossed c.args.p c.args.r c.args.pivot.now c.args.row.now))), omega arith)

pub loop-j-preserved : goal.loop-j-preserved
loop-j-preserved c =
    let row = c.args.row.now in
    let pivot = c.args.pivot.now in
    let j = c.loop-j.j in
    let xs = crossed c.args.p c.args.r pivot row in
    let fp : SFits w64 c.args.p = c.ranges.p in
    let fr : SFits w64 c.args.r = c.ranges.r in
    let fx : SFits w64 (get_or row j (pos 0)) = search rules in
    let fy : SFits w64 (get_or pivot j (pos 0)) = search rules in
    let fc : SFits w128 c.cross.result = record { sfits = c.cross.type_inv } in
    let within : j < length row = c.loop-j-test.true in
    let count = length-crossed c.args.p c.args.r pivot row c.requires.width in
    let entry_is : c.cross.result ≡ get_or xs j (pos 0) = (simp to_z-of_z at c.cross.ensures.value) ∙ sym (crossed-at c.args.p c.args.r pivot row j c.requires.width within) in
    let size_is : c.unsigned_abs.result ≡ unsigned_abs (get_or xs j (pos 0)) = (simp to_z-of_z at c.unsigned_abs.ensures.value) ∙ ap unsigned_abs entry_is in
    let next : c.gcd-divisor.result ≡ with_entry c.loop-j.divisor (get_or xs j (pos 0)) = c.gcd-divisor.ensures.value ∙ ap (λ m. gcd m c.loop-j.divisor) size_is in
    let was = simp to_z-of_z at c.loop-j.invariant.0 in
    let small : c.unsigned_abs.result < 2 ^ 127 = omega (arith, c.cross.ensures.small, simp to_z-of_z at c.unsigned_abs.ensures.value) in (
      simp to_z-of_z (ap (λ h. fold with_entry h (drop (j + 1) xs)) next ∙ divisor-more xs c.loop-j.divisor (gcd_of xs) j (omega arith) was),
      c.gcd-divisor.ensures.small small c.loop-j.invariant.1,
    )

pub returns-then-divisor-eq1-clause-value : goal.returns-then-divisor-eq1-clause-value
returns-then-divisor-eq1-clause-value c =
    let row = c.args.row.now in
    let pivot = c.args.pivot.now in
    let j = c.loop-j.j in
    let xs = crossed c.args.p c.args.r pivot row in
    let fp : SFits w64 c.args.p = c.ranges.p in
    let fr : SFits w64 c.args.r = c.ranges.r in
    let fx : SFits w64 (get_or row j (pos 0)) = search rules in
    let fy : SFits w64 (get_or pivot j (pos 0)) = search rules in
    let fc : SFits w128 c.cross.result = record { sfits = c.cross.type_inv } in
    let within : j < length row = c.loop-j-test.true in
    let count = length-crossed c.args.p c.args.r pivot row c.requires.width in
    let entry_is : c.cross.result ≡ get_or xs j (pos 0) = (simp to_z-of_z at c.cross.ensures.value) ∙ sym (crossed-at c.args.p c.args.r pivot row j c.requires.width within) in
    let size_is : c.unsigned_abs.result ≡ unsigned_abs (get_or xs j (pos 0)) = (simp to_z-of_z at c.unsigned_abs.ensures.value) ∙ ap unsigned_abs entry_is in
    let next : c.gcd-divisor.result ≡ with_entry c.loop-j.divisor (get_or xs j (pos 0)) = c.gcd-divisor.ensures.value ∙ ap (λ m. gcd m c.loop-j.divisor) size_is in
    let was = simp to_z-of_z at c.loop-j.invariant.0 in
    let one : with_entry c.loop-j.divisor (get_or xs j (pos 0)) ≡ 1 = sym next ∙ c.if-divisor-eq1.true in
    sym (sym (divisor-more xs c.loop-j.divisor (gcd_of xs) j (omega arith) was)
    ∙ ap (λ h. fold with_entry h (drop (j + 1) xs)) one ∙ divisor-one (drop (j + 1) xs))

pub returns-clause-value : goal.returns-clause-value
returns-clause-value c =
    let row = c.args.row.now in
    let pivot = c.args.pivot.now in
    let j = c.loop-j.j in
    let xs = crossed c.args.p c.args.r pivot row in
    let fp : SFits w64 c.args.p = c.ranges.p in
    let fr : SFits w64 c.args.r = c.ranges.r in
    let count = length-crossed c.args.p c.args.r pivot row c.requires.width in
    let was = simp to_z-of_z at c.loop-j.invariant.0 in
    ap (fold with_entry c.loop-j.divisor) (sym (drop_all j xs (omega arith))) ∙ was
