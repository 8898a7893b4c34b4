-- One more word; each fits, since it is shorter than the numbers are.
use Rattle.std.proofs.Common.{ℕ, ◌+◌, ◌*◌, ◌%◌, ◌^◌, ◌<◌, List, map, length, get_or, ap, sym, ◌∙◌, subst, arith}
use Rattle.std.proofs.lemmas.List.{take_all}
use Rattle.ct_words.specs.Word.{weight}
use Rattle.ct_words.specs.Constructions.Joined.{followed_by}
use Rattle.ct_build.proofs.WordByWord.{mapped_more, appended_fits}
use Rattle.ct_build.proofs.append.followed_by_parity.Goals as goal
use Rattle.ct_build.proofs.append.followed_by_parity.Goals.{In-loop-word}

appended : (c : In-loop-word) (a : ℕ) → a < 2 → get_or c.words-words.result.now c.loop-word.word-index 0 * 2 + a < 2 ^ 32
appended c a digit =
    let words_are = c.words-words.ensures.value in
    let i = c.loop-word.word-index in
    let within = subst (λ (ws : List ℕ). i < length ws) words_are c.loop-word-test.true in
    subst (λ (ws : List ℕ). get_or ws i 0 * 2 + a < 2 ^ 32) (sym words_are)
    (appended_fits c.args.part.now i a c.words-words.ensures.sound c.requires within digit)

pub overflow_mul-word : goal.overflow_mul-word
overflow_mul-word c = let all = appended ((goal.at.overflow_mul-word c).In-loop-word) 0 (omega arith) in record { fits = omega (arith, all) }

pub overflow_add-word : goal.overflow_add-word
overflow_add-word c = record { fits = appended ((goal.at.overflow_add-word c).In-loop-word) (c.weight.result % 2) (omega arith) }

pub loop-word-preserved : goal.loop-word-preserved
loop-word-preserved c =
    let part = c.args.part.now in
    let words = c.words-words.result.now in
    let i = c.loop-word.word-index in
    let x = get_or words i 0 in
    let words_are = c.words-words.ensures.value in
    let within = subst (λ (ws : List ℕ). i < length ws) words_are c.loop-word-test.true in
    let below = subst (λ (ws : List ℕ). get_or ws i 0 < 2 ^ part.n) (sym words_are) (c.words-words.ensures.sound.code.lengths i 0 within) in
    mapped_more (λ y. followed_by 1 y (weight part.n y % 2)) words c.loop-word.longer.items c.push.new.self.items i (x * 2 + c.weight.result % 2)
    c.loop-word-test.true c.loop-word.invariant c.in_ok-push.ensures.items (ap (λ (k : ℕ). x * 2 + k % 2) (c.weight.ensures part.n below))

pub returns : goal.returns
returns c =
    let n = c.args.part.now.n in
    let f : ℕ → ℕ = λ x. followed_by 1 x (weight n x % 2) in
    let all = take_all c.loop-word.word-index c.words-words.result.now c.loop-word-test.false in
    c.loop-word.invariant ∙ ap (map f) (all ∙ c.words-words.ensures.value)
