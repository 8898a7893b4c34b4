use Rattle.std.proofs.Common.{◌≡◌, ◌≢◌, ℕ, ◌^◌, ◌<◌, bit_xor, length, get_or, ◌++◌, [], ◌∷◌, ap, sym, ◌∙◌, subst}
use Rattle.std.specs.Prelude.{⊤}
use Rattle.std.proofs.lemmas.List.{take_all}
use Rattle.std.proofs.lemmas.Nat.{xor_lt}
use Rattle.std.proofs.lemmas.Result.{MatchResult-from_err}
use Rattle.ct_words.specs.Word.{weight}
use Rattle.ct_words.specs.Code.{CodeValue, IsSoundCode}
use Rattle.ct_words.specs.Constructions.Translation.{selected}
use Rattle.ct_words.proofs.Constructions.TranslationLemmas.{selected-more_yes, selected-more_no, selected-some}
use Rattle.ct_build.proofs.translation.sums_of_weight.Goals as goal
use Rattle.ct_build.proofs.translation.sums_of_weight.Goals.{then-weight-w+in_ok-push, else-weight-w}

-- a sum of a word of a code and a word is a word of the code's length
sum_below : (code : CodeValue) (by i : ℕ) → IsSoundCode code → by < 2 ^ code.n → i < length code.words
    → bit_xor (get_or code.words i 0) by < 2 ^ code.n
sum_below code by i sound below within = xor_lt code.n (get_or code.words i 0) by (sound.code.lengths i 0 within) below

pub returns-in_err-push-clause-some : goal.returns-in_err-push-clause-some
returns-in_err-push-clause-some c =
    let part = c.args.part.now in
    let i = c.loop-word.word-index in
    let within = subst (λ ws. i < length ws) c.words-words.ensures.value c.loop-word-test.true in
    let word_is = ap (λ ws. get_or ws i 0) c.words-words.ensures.value in
    let below = sum_below part c.args.by i c.words-words.ensures.sound c.requires within in
    let is = sym (c.weight.ensures part.n (subst (λ x. bit_xor x c.args.by < 2 ^ part.n) (sym word_is) below)) ∙ c.if-weight-w.true in
    MatchResult-from_err c.from_residual.result (λ _. ⊤) (λ _. selected part.n c.args.by c.args.w part.words ≢ []) c.from_residual.ensures.0
    (λ _. selected-some part.n c.args.by c.args.w part.words i within (subst (λ x. weight part.n (bit_xor x c.args.by) ≡ c.args.w) word_is is))

pub loop-word-preserved : goal.loop-word-preserved
loop-word-preserved c =
    let part = c.args.part.now in
    let words = c.words-words.result.now in
    let i = c.loop-word.word-index in
    let within = subst (λ ws. i < length ws) c.words-words.ensures.value c.loop-word-test.true in
    let word_is = ap (λ ws. get_or ws i 0) c.words-words.ensures.value in
    let below = sum_below part c.args.by i c.words-words.ensures.sound c.requires within in
    let is = sym (c.weight.ensures part.n (subst (λ x. bit_xor x c.args.by < 2 ^ part.n) (sym word_is) below)) in
    elim c.if-weight-w.branch [
      | then-weight-w+in_ok-push w ↦
          ap (λ v. v.items) w.chosen-is ∙ w.in_ok-push.ensures.items
          ∙ ap (λ z. z ++ bit_xor (get_or words i 0) c.args.by ∷ []) c.loop-word.invariant
          ∙ sym (selected-more_yes part.n c.args.by c.args.w words i c.loop-word-test.true (is ∙ w.if-weight-w.true))
      | else-weight-w w ↦
          ap (λ v. v.items) w.chosen-is ∙ c.loop-word.invariant
          ∙ sym (selected-more_no part.n c.args.by c.args.w words i c.loop-word-test.true (λ e. w.if-weight-w.false (sym is ∙ e)))
    ]

pub returns-clause-words : goal.returns-clause-words
returns-clause-words c =
    let all = take_all c.loop-word.word-index c.words-words.result.now c.loop-word-test.false in
    c.loop-word.invariant ∙ ap (selected c.args.part.now.n c.args.by c.args.w) (all ∙ c.words-words.ensures.value)
