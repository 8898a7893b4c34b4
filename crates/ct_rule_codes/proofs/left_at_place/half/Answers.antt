use Rattle.std.proofs.Common.{◌≡◌, ℕ, ◌<◌, ◌≤◌, [], ◌∷◌, length, sym, ap, subst, ◌∙◌, arith}
use Rattle.std.specs.Int.{div_ceil}
use Rattle.ct_words.specs.Constructions.Shortened.{shortened}
use Rattle.ct_rule_codes.proofs.LeftWords.{other_half}
use Rattle.ct_rule_codes.proofs.left_at_place.half.Goals as goal
use Rattle.ct_rule_codes.proofs.left_at_place.half.Goals.{then-count_at-size, else-count_at-size}

pub first_left-requires-clause-enough : goal.first_left-requires-clause-enough
first_left-requires-clause-enough c =
    let part = c.args.part.now in
    let enough = λ (a : ℕ). c.div_ceil-size.result ≤ length (shortened part.n (0 ∷ []) (a ∷ []) part.words) in
    let count = c.count_at.ensures in
    let size : c.div_ceil-size.result ≡ div_ceil (length part.words) 2 = c.div_ceil-size.ensures ∙ ap (λ words. div_ceil (length words) 2) c.words.ensures.value in
    elim c.if-count_at-size.branch [
      | then-count_at-size w ↦ subst enough (sym w.digit-is) (omega (arith, w.if-count_at-size.true))
      | else-count_at-size w ↦
          let fewer = w.if-count_at-size.false in
          let less : length (shortened part.n (0 ∷ []) (0 ∷ []) part.words) < div_ceil (length part.words) 2 = omega arith in
          subst enough (sym w.digit-is) (rw size (other_half part.n part.words less))
    ]
