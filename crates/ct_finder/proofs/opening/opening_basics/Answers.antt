use Rattle.std.proofs.Common.{◌≡◌, ℕ, suc, ◌+◌, List, [], ◌∷◌, ◌++◌, map, length, sym, ap, ap₂, ◌∙◌, arith}
use Rattle.std.specs.List.{range_with_len}
use Rattle.std.proofs.lemmas.List.FromFn.{map-range_with_len_more}
use Rattle.ct_finder.specs.Column.{columns, place_of_column}
use Rattle.ct_finder.specs.Column.Column.{S}
use Rattle.ct_finder.proofs.OpeningLemmas.{same_number}
use Rattle.ct_finder.proofs.Places.{place-s}
use Rattle.ct_finder.proofs.opening.opening_basics.Goals as goal

pub loop-before-preserved : goal.loop-before-preserved
loop-before-preserved c =
    let range = c.args.range.now in
    let before = c.loop-before.before in
    let place : ℕ → ℕ = λ (k : ℕ). place_of_column (S k) (columns range c.args.degree) in
    let here = place-s range c.args.degree (suc before) (omega arith) (omega arith) in
    let same : length range + 1 + before ≡ place (suc before) = omega arith in
    c.in_ok-push.ensures.items ∙ ap₂ (λ (bs : List ℕ) (b : ℕ). bs ++ b ∷ []) c.loop-before.invariant same
    ∙ sym (map-range_with_len_more place 1 before (suc before) (omega arith))

pub returns : goal.returns
returns c =
    c.loop-before.invariant
    ∙ ap (λ n. map (λ k. place_of_column (S k) (columns c.args.range.now c.args.degree)) (range_with_len 1 n))
    (same_number c.loop-before.before c.args.degree c.loop-before.auto.before-end c.loop-before-test.false)
