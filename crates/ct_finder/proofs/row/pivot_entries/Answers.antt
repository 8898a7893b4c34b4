-- The row is divided by its divisor.
use Rattle.ct_finder.specs.Inside.Pivot.{crossed}
use Rattle.std.proofs.Common.{rules, ◌≡◌, List, get_or, map, sym, ap, subst, ◌∙◌, arith}
use Rattle.std.specs.Prelude.{ℤ, pos, ◌≤ℤ◌, int_div, find}
use Rattle.std.proofs.lemmas.Int.{ints, to_z-of_z}
use mir.Val.{SFits, to_z, of_z}
use mir.Syntax.{w64, w128}
use Rattle.ct_finder.specs.Divisor.{divisor}
use Rattle.ct_finder.specs.Pivot.{is_wide}
use Rattle.ct_finder.proofs.Divisors.{divisor-some}
use Rattle.ct_finder.proofs.row.pivot_entries.Goals as goal

-- the divisor of a row is positive
positive-divisor : (row : List ℤ) → pos 1 ≤ℤ pos (divisor row)
positive-divisor row = let some = divisor-some row in omega (arith, ints)

pub returns-clause-wide : goal.returns-clause-wide
returns-clause-wide c =
    let row = c.args.row.now in
    let pivot = c.args.pivot.now in
    let e = c.args.e in
    let fp : SFits w64 (get_or pivot e (pos 0)) = search rules in
    let fr : SFits w64 (get_or row e (pos 0)) = search rules in
    let fd : SFits w128 c.divisor_of_crossed-divisor.result = record { sfits = c.divisor_of_crossed-divisor.type_inv } in
    let xs = crossed (get_or pivot e (pos 0)) (get_or row e (pos 0)) pivot row in
    let divisor_is : c.divisor_of_crossed-divisor.result ≡ pos (divisor xs) = simp to_z-of_z at c.divisor_of_crossed-divisor.ensures in
    (simp to_z-of_z at c.divide_crossed.ensures.wide) ∙ ap (λ g. find is_wide (map (λ z. int_div z g) xs)) divisor_is

pub returns-clause-row : goal.returns-clause-row
returns-clause-row c = λ none.
    let row = c.args.row.now in
    let pivot = c.args.pivot.now in
    let e = c.args.e in
    let fp : SFits w64 (get_or pivot e (pos 0)) = search rules in
    let fr : SFits w64 (get_or row e (pos 0)) = search rules in
    let fd : SFits w128 c.divisor_of_crossed-divisor.result = record { sfits = c.divisor_of_crossed-divisor.type_inv } in
    let xs = crossed (get_or pivot e (pos 0)) (get_or row e (pos 0)) pivot row in
    let divisor_is : c.divisor_of_crossed-divisor.result ≡ pos (divisor xs) = simp to_z-of_z at c.divisor_of_crossed-divisor.ensures in
    (simp to_z-of_z at c.divide_crossed.ensures.row) none ∙ ap (λ g. map (λ z. int_div z g) xs) divisor_is

pub divide_crossed-requires-clause-divisor : goal.divide_crossed-requires-clause-divisor
divide_crossed-requires-clause-divisor c =
    let fits : SFits w128 c.divisor_of_crossed-divisor.result = record { sfits = c.divisor_of_crossed-divisor.type_inv } in
    subst (λ (z : ℤ). pos 1 ≤ℤ z) (sym (to_z-of_z w128 c.divisor_of_crossed-divisor.result fits ∙ c.divisor_of_crossed-divisor.ensures))
    (positive-divisor
    (crossed (to_z w64 (of_z w64 (get_or c.args.pivot.now c.args.e (pos 0)))) (to_z w64 (of_z w64 (get_or c.args.row.now c.args.e (pos 0)))) c.args.pivot.now
    c.args.row.now))
