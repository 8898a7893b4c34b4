-- What is looked up is the size of the ball: a radius above the length adds nothing.
use Rattle.std.proofs.Common.{◌≡◌, ℕ, suc, ◌+◌, ◌-◌, min, sym, ap, ◌∙◌, arith, inl, inr}
use Rattle.std.proofs.lemmas.Bool.{cases_lt}
use Rattle.ct_words.specs.Counting.Sums.{sum_below}
use Rattle.ct_words.specs.Counting.Binomials.{choose, volume}
use Rattle.ct_words.proofs.Counting.Binomials.{choose_past}
use Rattle.ct_words.proofs.Counting.Sums.{sum_below-past}
use Rattle.ct_words.proofs.PascalRows.{ball_is}
use Rattle.ct_words.proofs.counts.ball.Goals as goal

-- a radius above the length adds nothing
capped : (n e k : ℕ) → k ≡ min e n → volume n k ≡ volume n e
capped n e k h =
    elim (cases_lt n e) [
      | inl above ↦
          let k_is : k ≡ n = omega arith in
          let e_is : suc n + (e - n) ≡ suc e = omega arith in
          ap (volume n) k_is
          ∙ sym (sum_below-past (choose n) (suc n) (e - n) (λ j l. choose_past n j (omega arith)))
          ∙ ap (sum_below (choose n)) e_is
      | inr within ↦ let k_is : k ≡ e = omega arith in ap (volume n) k_is
    ]

pub returns : goal.returns
returns c =
    let radius = c.min.ensures in
    c.from.ensures ∙ ball_is c.args.n c.min.result (omega arith) (omega arith) ∙ capped c.args.n c.args.e c.min.result radius
