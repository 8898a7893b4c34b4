use Rattle.std.proofs.Common.{◌-◌, ◌*◌, ◌≤◌, [], ◌∷◌, length, sym, subst, ◌∙◌, arith, rules}
use Rattle.std.specs.Int.{div_ceil}
use Rattle.ct_words.specs.Constructions.Shortened.{shortened}
use Rattle.ct_johnson.proofs.DigitPlaces.{place_of_zeros}
use Rattle.ct_rule_codes.proofs.LeftWords.{few_digits, each_weight}
use Rattle.ct_rule_codes.proofs.left_at_place.with_zero.Goals as goal

pub overflow_mul-zeros : goal.overflow_mul-zeros
overflow_mul-zeros c =
    let part = c.args.part.now in
    let few = few_digits part (part.n - c.args.w) c.words.ensures.sound (omega arith) in
    rw (c.n.ensures.value, c.words.ensures.value) (search rules)

pub place_with-place-requires : goal.place_with-place-requires
place_with-place-requires c =
    let part = c.args.part.now in
    let w = c.args.w in
    let size = c.div_ceil-size.ensures ∙ (λ i. div_ceil ((c.n.ensures.value i - w) * length (c.words.ensures.value i)) (c.n-2.ensures.value i)) in
    let found = place_of_zeros part.n w part.words (let long = c.requires.long in omega arith) (each_weight part w c.words.ensures.sound c.requires.weight) in
    (found.0, found.1, subst (λ k. k ≤ length (shortened part.n (found.0 ∷ []) (0 ∷ []) part.words)) (sym size) found.2)
