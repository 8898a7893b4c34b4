use Rattle.std.proofs.Common.{arith, ◌≡◌, ◌≤◌, ◌+◌, ◌*◌, ◌∙◌, sym, ap, ap₂, List, ℕ, ◌++◌, ◌∷◌, [], length, length-append, take, take_all}
use Rattle.std.proofs.lemmas.Slice.{take-put_mid}
use Rattle.std.proofs.Math.Nat.{mul-le-mul_right}
use Rattle.ct_words.specs.Text.{word_text}
use Rattle.ct_words.proofs.TextLemmas.{length-word_text}
use Rattle.ct_replies.specs.Text.{ended, word_lines}
use Rattle.ct_io.proofs.BufferedLemmas.{part_more}
use Rattle.ct_replies.proofs.output.word_lines.print_lines.Goals as goal

pub loop-word-preserved : goal.loop-word-preserved
loop-word-preserved c =
    let i = c.loop-word.word-index in
    let n = c.args.n in
    let line_of = λ (x : ℕ). ended (word_text n x) in
    let count = c.loop-word.invariant.0 in
    let before = mul-le-mul_right (n + 1) c.loop-word.auto.word-index-end in
    let room = c.requires.room in
    let size = c.loop-word.auto.into in
    let here : c.loop-word.at ≤ length c.loop-word.into = omega (arith, count, before, room, size) in
    let long : length c.print_line.new.into ≡ n + 1 =
    ap length c.print_line.ensures ∙ length-append (word_text n _) (10 ∷ []) ∙ ap (λ k. k + 1) (length-word_text n _) in (
      omega (arith, count),
      take-put_mid c.loop-word.at _ c.loop-word.into c.print_line.new.into (c.loop-word.at + (n + 1)) (omega (arith, long)) here
          ∙ ap₂ (λ (xs ys : List ℕ). xs ++ ys) c.loop-word.invariant.1 c.print_line.ensures
          ∙ part_more line_of c.args.words.now i _ c.loop-word-test.true,
    )

pub returns-clause-lines : goal.returns-clause-lines
returns-clause-lines c =
    let i = c.loop-word.word-index in
    let n = c.args.n in
    let words = c.args.words.now in
    let none_left = c.loop-word-test.false in
    let within = c.loop-word.auto.word-index-end in
    let all : length words ≡ i = omega (arith, none_left, within) in
    ap (λ (k : ℕ). take (k * (n + 1)) c.loop-word.into) all ∙ ap (λ (k : ℕ). take k c.loop-word.into) (sym c.loop-word.invariant.0)
    ∙ c.loop-word.invariant.1 ∙ ap (λ (rest : List ℕ). word_lines n rest) (take_all i words none_left)
