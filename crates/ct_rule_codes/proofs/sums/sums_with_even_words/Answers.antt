use Rattle.std.proofs.Common.{◌≡◌, ℕ, ◌-◌, ◌*◌, ◌^◌, List, length, Result, Ok, Err, IfOk, ap, ◌∙◌}
use Rattle.std.specs.Prelude.{IsPermutation}
use Rattle.std.proofs.lemmas.List.Sorted.{length_permutation}
use Rattle.ct_words.specs.Code.{CodeValue}
use Rattle.ct_words.specs.Constructions.Uuv.{uuv_words}
use Rattle.ct_words.proofs.Constructions.UuvCodes.{length-uuv_words}
use Rattle.ct_rule_codes.proofs.sums.sums_with_even_words.Goals as goal

-- as many words as pairs
count : {E : Type 0} (n : ℕ) (us vs : List ℕ) (k : ℕ) (answer : Result CodeValue E) → length us ≡ k
    → IfOk answer (λ (c : CodeValue). IsPermutation (uuv_words n us vs) c.words) → IfOk answer (λ (c : CodeValue). length c.words ≡ k * length vs)
count n us vs k (Ok c) size moved =
    length_permutation (uuv_words n us vs) c.words moved ∙ length-uuv_words n us vs ∙ ap (λ i. i * length vs) size
count n us vs k (Err fault) size moved = tt

pub returns-clause-size : goal.returns-clause-size
returns-clause-size c =
    let part = c.args.part.now in
    count c.in_ok-even.even.n c.in_ok-even.even.words part.words (2 ^ (part.n - 1)) c.uuv.result
    (c.in_ok-even.ensures.size ∙ ap (λ n. 2 ^ (n - 1)) c.n.ensures.value) c.uuv.ensures.words
