use Rattle.std.proofs.Common.{◌+◌, ◌%◌, ◌^◌, ◌≤◌, ◌++◌, map, sym, ap, ap₂, ◌∙◌, arith}
use Rattle.std.proofs.Math.Nat.{pow-le-pow_right}
use Rattle.ct_words.specs.Counting.Binomials.{choose}
use Rattle.ct_words.specs.declared.limits.TheConstants.{MAX_N}
use Rattle.ct_sum_classes.specs.Inside.Listing.{words_of_sum}
use Rattle.ct_sum_classes.proofs.ListingLemmas.{words_of_sum-class}
use Rattle.ct_sum_classes.proofs.class_listing.words_of_class.Goals as goal

pub append_words-requires-clause-beginning : goal.append_words-requires-clause-beginning
append_words-requires-clause-beginning c =
    let whole : 2 ^ c.args.n ≤ 2 ^ MAX_N = pow-le-pow_right (omega arith) c.requires.length.1 in
    omega arith

pub returns : goal.returns
returns c =
    let n = c.args.n in
    let excess = c.difference_modulo.result in
    let least = ap₂ (λ s m. (excess + s % m) % n) (sym c.binomial.ensures) (sym c.from.ensures) in
    c.in_ok-append_words.ensures
    ∙ ap (λ xs. xs ++ map (λ x. 0 + x) (words_of_sum n n c.args.w (choose c.args.w 2 + excess))) c.in_ok-words.ensures.items
    ∙ words_of_sum-class n c.args.w c.args.r excess (least ∙ c.difference_modulo.ensures.difference)
