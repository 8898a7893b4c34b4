-- The scale is that of the primal, and so are the numbers, of which there are few.
use Rattle.std.proofs.Common.{rules, ◌≤◌, ◌≡◌, length, sym, ap, ap₂, ◌∙◌, subst, ℕ, List}
use Rattle.std.specs.Prelude.{ℤ, pos, ◌+ℤ◌, ◌≤ℤ◌, All}
use Rattle.std.proofs.lemmas.Int.{to_z-of_z}
use mir.Val.{SFits, to_z, of_z}
use mir.Syntax.{w64, w128}
use Rattle.ct_words.specs.declared.limits.TheConstants.{MAX_N}
use Rattle.ct_words.specs.Counting.Sums.{total}
use Rattle.ct_duals.proofs.DualBound.{few_indices}
use Rattle.ct_primal.specs.Primal.{PrimalValue}
use Rattle.ct_primal.proofs.primal_check.whole.Goals as goal
use Rattle.ct_primal.proofs.primal_check.whole.Goals.{After-deref}

-- the pairs that are passed are those of the primal
pairs_are : (c : After-deref) → c.deref.result.now ≡ c.args.primal.now.a
pairs_are c = c.deref.ensures.value ∙ ap (λ (v : PrimalValue). v.a) c.primal.view_is

-- and the scale is that of the primal
scale_is : (c : After-deref) → to_z w64 (of_z w64 c.primal.inside.q) ≡ c.args.primal.now.q
scale_is c =
    let fits : SFits w64 c.primal.inside.q = search rules in
    to_z-of_z w64 c.primal.inside.q fits ∙ ap (λ (v : PrimalValue). v.q) c.primal.view_is

pub add_numbers-requires-clause-first : goal.add_numbers-requires-clause-first
add_numbers-requires-clause-first c = subst (λ z. pos 1 ≤ℤ z) (sym (scale_is c)) c.requires.scale

pub add_numbers-requires-clause-numbers : goal.add_numbers-requires-clause-numbers
add_numbers-requires-clause-numbers c =
    let natural : All (λ (u : ℕ × ℤ). pos 0 ≤ℤ u.1) c.args.primal.now.a = λ k d l. (c.requires.form.numbers k d l).1 in
    subst (λ pairs. All (λ (u : ℕ × ℤ). pos 0 ≤ℤ u.1) pairs) (sym (pairs_are c)) natural

pub add_numbers-requires-clause-few : goal.add_numbers-requires-clause-few
add_numbers-requires-clause-few c =
    let p = c.args.primal.now in
    let form = c.requires.form in
    subst (λ pairs. length pairs ≤ MAX_N) (sym (pairs_are c)) (few_indices p.entry p.even p.a form.entry form.ascending form.numbers)

pub returns : goal.returns
returns c =
    let before = (goal.at.returns c).After-deref in
    let result = c.add_numbers.result in
    let all : SFits w128 result = record { sfits = c.add_numbers.type_inv } in
    let is = to_z-of_z w128 result all in
    let sums = ap₂ (λ z (us : List (ℕ × ℤ)). z +ℤ total (λ u. u.1) us) (scale_is before) (pairs_are before) in
    record { value = is ∙ c.add_numbers.ensures.value ∙ sums; some = subst (λ z. pos 1 ≤ℤ z) (sym is) c.add_numbers.ensures.some }
