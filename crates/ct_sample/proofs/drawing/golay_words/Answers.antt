use Rattle.std.proofs.Common.{◌≡◌, ◌+◌, ◌-◌, ◌*◌, ◌%◌, ◌^◌, ◌<◌, ◌≤◌, ℕ, List, [], ◌∷◌, ◌++◌, add-one, sym, ap, ap₂, ◌∙◌, arith}
use Rattle.std.proofs.Math.Nat.{mod-eq_of_lt, pow-le-pow_right}
use Rattle.ct_sample.specs.Drawn.{golay_words}
use Rattle.ct_sample.proofs.drawing.golay_words.Goals as goal

-- a shift of the first digits loses none
shifted : (place : ℕ) → 2787 * 2 ^ (12 - place) % 2 ^ 32 ≡ 2787 * 2 ^ (12 - place)
shifted place =
    let some : 0 < 2 = omega arith in
    let least : 12 - place ≤ 12 = omega arith in
    let power : 2 ^ (12 - place) ≤ 2 ^ 12 = pow-le-pow_right some least in
    mod-eq_of_lt (omega (arith, power))

-- two numbers, neither of which is more than the other
same_number : (n m : ℕ) → n ≤ m → m ≤ n → n ≡ m
same_number n m no_more no_less = omega arith

pub loop-place-preserved : goal.loop-place-preserved
loop-place-preserved c =
    c.in_ok-push.ensures.items
    ∙ ap₂ (λ (words : List ℕ) (word : ℕ). words ++ (word + 1) ∷ []) c.loop-place.invariant (shifted c.loop-place.place)
    ∙ ap golay_words (sym (add-one c.loop-place.place))

pub returns : goal.returns
returns c =
    c.loop-place.invariant ∙ ap golay_words (same_number c.loop-place.place c.args.count c.loop-place.auto.place-end c.loop-place-test.false)
