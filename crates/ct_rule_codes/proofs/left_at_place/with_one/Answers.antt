use Rattle.std.proofs.Common.{◌*◌, ◌≤◌, [], ◌∷◌, length, sym, ap₂, subst, ◌∙◌, arith, rules}
use Rattle.std.specs.Int.{div_ceil}
use Rattle.ct_words.specs.Constructions.Shortened.{shortened}
use Rattle.ct_build.proofs.Sound.{weight_within}
use Rattle.ct_johnson.proofs.DigitPlaces.{place_of_ones}
use Rattle.ct_rule_codes.proofs.LeftWords.{few_digits, each_weight}
use Rattle.ct_rule_codes.proofs.left_at_place.with_one.Goals as goal

pub overflow_mul-w : goal.overflow_mul-w
overflow_mul-w c =
    let part = c.args.part.now in
    let few = few_digits part c.args.w c.words.ensures.sound (weight_within part c.words.ensures.sound c.args.w c.requires.weight) in
    rw c.words.ensures.value (search rules)

pub place_with-place-requires : goal.place_with-place-requires
place_with-place-requires c =
    let part = c.args.part.now in
    let w = c.args.w in
    let size = c.div_ceil-size.ensures ∙ ap₂ (λ words n. div_ceil (w * length words) n) c.words.ensures.value c.n.ensures.value in
    let found = place_of_ones part.n w part.words (let long = c.requires.long in omega arith) (each_weight part w c.words.ensures.sound c.requires.weight) in
    (found.0, found.1, subst (λ k. k ≤ length (shortened part.n (found.0 ∷ []) (1 ∷ []) part.words)) (sym size) found.2)
