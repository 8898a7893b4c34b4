-- One more word; each fits, since it is shorter than the numbers are.
use Rattle.std.proofs.Common.{ℕ, ◌+◌, ◌*◌, ◌^◌, ◌<◌, List, map, length, get_or, refl, ap, sym, ◌∙◌, subst, arith}
use Rattle.std.proofs.lemmas.List.{take_all}
use Rattle.ct_words.specs.Constructions.Joined.{followed_by}
use Rattle.ct_build.proofs.WordByWord.{mapped_more, appended_fits}
use Rattle.ct_build.proofs.append.followed_by_digit.Goals as goal
use Rattle.ct_build.proofs.append.followed_by_digit.Goals.{In-loop-word}

appended : (c : In-loop-word) → get_or c.words-words.result.now c.loop-word.word-index 0 * 2 + c.args.digit < 2 ^ 32
appended c =
    let words_are = c.words-words.ensures.value in
    let i = c.loop-word.word-index in
    let within = subst (λ (ws : List ℕ). i < length ws) words_are c.loop-word-test.true in
    subst (λ (ws : List ℕ). get_or ws i 0 * 2 + c.args.digit < 2 ^ 32) (sym words_are)
    (appended_fits c.args.part.now i c.args.digit c.words-words.ensures.sound c.requires.short within c.requires.digit)

pub overflow_mul-word : goal.overflow_mul-word
overflow_mul-word c = let all = appended ((goal.at.overflow_mul-word c).In-loop-word) in record { fits = omega (arith, all) }

pub overflow_add-word : goal.overflow_add-word
overflow_add-word c = record { fits = appended ((goal.at.overflow_add-word c).In-loop-word) }

pub loop-word-preserved : goal.loop-word-preserved
loop-word-preserved c =
    mapped_more (λ x. followed_by 1 x c.args.digit) c.words-words.result.now c.loop-word.longer.items c.push.new.self.items c.loop-word.word-index
    (get_or c.words-words.result.now c.loop-word.word-index 0 * 2 + c.args.digit) c.loop-word-test.true c.loop-word.invariant c.in_ok-push.ensures.items refl

pub returns : goal.returns
returns c =
    let f : ℕ → ℕ = λ x. followed_by 1 x c.args.digit in
    let all = take_all c.loop-word.word-index c.words-words.result.now c.loop-word-test.false in
    c.loop-word.invariant ∙ ap (map f) (all ∙ c.words-words.ensures.value)
