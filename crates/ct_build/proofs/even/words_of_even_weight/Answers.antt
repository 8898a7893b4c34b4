use Rattle.std.proofs.Common.{◌≡◌, ◌%◌, ◌^◌, ◌<◌, ◌==◌, ◌++◌, [], ◌∷◌, ap, sym, ◌∙◌, arith}
use Rattle.std.specs.List.{filter}
use Rattle.std.proofs.lemmas.Nat.{one_shl}
use Rattle.ct_words.specs.Word.{weight}
use Rattle.ct_words.specs.Text.{tabulate}
use Rattle.ct_words.proofs.Constructions.EvenLemmas.{even_words-more_yes, even_words-more_no}
use Rattle.ct_build.proofs.even.words_of_even_weight.Goals as goal
use Rattle.ct_build.proofs.even.words_of_even_weight.Goals.{then-weight-eq0+in_ok-push, else-weight-eq0}

pub loop-word-preserved : goal.loop-word-preserved
loop-word-preserved c =
    let n = c.args.n in
    let word = c.loop-word.word in
    let all = one_shl n 32 (let few = c.requires.room in omega arith) in
    let below : word < 2 ^ n = let within = c.loop-word-test.true in omega arith in
    let parity_is = ap (λ k. k % 2) (sym (c.weight.ensures n below)) in
    elim c.if-weight-eq0.branch [
      | then-weight-eq0+in_ok-push w ↦
          ap (λ v. v.items) w.words-is ∙ w.in_ok-push.ensures.items ∙ ap (λ z. z ++ word ∷ []) c.loop-word.invariant
          ∙ sym (even_words-more_yes n word (parity_is ∙ w.if-weight-eq0.true))
      | else-weight-eq0 w ↦
          ap (λ v. v.items) w.words-is ∙ c.loop-word.invariant
          ∙ sym (even_words-more_no n word (λ even. w.if-weight-eq0.false (sym parity_is ∙ even)))
    ]

pub returns : goal.returns
returns c =
    let n = c.args.n in
    let all = one_shl n 32 (let few = c.requires.room in omega arith) in
    let past = c.loop-word-test.false in
    let to = c.loop-word.auto.word-end in
    let end : c.loop-word.word ≡ 2 ^ n = omega (arith, all, past, to) in
    c.loop-word.invariant ∙ ap (λ m. filter (λ x. weight n x % 2 == 0) (tabulate (λ x. x) m)) end
