use Rattle.std.proofs.Common.{arith, ℕ, ◌+◌, ◌-◌, ◌++◌, ◌^◌, ◌<◌, ◌≡◌, List, sym, subst, ap, ◌∙◌, take, drop, take_all}
use Rattle.std.proofs.lemmas.Result.{err_from_is_err_and}
use Rattle.std.proofs.lemmas.List.Elements.{All-take, All-drop}
use Rattle.ct_words.specs.Text.{word_text}
use Rattle.ct_io.specs.Buffered.{Puts, Stops}
use Rattle.ct_io.proofs.BufferedLemmas.{puts_then, stops_sooner, stops_then}
use Rattle.ct_replies.specs.Text.{ended, word_lines}
use Rattle.ct_replies.proofs.Outputs.{some_more, some_all}
use Rattle.ct_replies.proofs.output.code.put_words.Goals as goal

pub returns-in_err-put_lines : goal.returns-in_err-put_lines
returns-in_err-put_lines g c =
    let start = c.loop-start.start in
    let words = c.args.words.now in
    let line_of = λ (x : ℕ). ended (word_text c.args.n x) in
    let count = c.min-end.result - start in
    let before = word_lines c.args.n (take start words) in
    let some = word_lines c.args.n (take count (drop start words)) in
    let rest = word_lines c.args.n (drop count (drop start words)) in
    let stops = subst (Stops _ _) (sym (some_all line_of words start count))
    (stops_then _ _ _ before (some ++ rest) c.loop-start.invariant.0 (stops_sooner _ _ some rest c.in_err-put_lines.ensures.put)) in
    let p = err_from_is_err_and c.from_residual.result c.from_residual.ensures.1 in
    rw p.1 stops

pub loop-start-preserved : goal.loop-start-preserved
loop-start-preserved g c =
    let start = c.loop-start.start in
    let words = c.args.words.now in
    let line_of = λ (x : ℕ). ended (word_text c.args.n x) in
    let end = c.min-end.result in
    let least = c.min-end.ensures in
    let more = c.loop-start-test.true in
    let there : start + (end - start) ≡ end = omega (arith, least, more) in (
      subst (Puts _ _)
          (some_more line_of words start (end - start) ∙ ap (λ (k : ℕ). word_lines c.args.n (take k words)) there)
          (puts_then _ _ _ _ _ c.loop-start.invariant.0 c.in_ok-put_lines.ensures.put),
      omega (arith, least),
    )

pub put_lines-requires-clause-words : goal.put_lines-requires-clause-words
put_lines-requires-clause-words g c =
    let start = c.loop-start.start in
    let words = c.args.words.now in
    All-take (λ (x : ℕ). x < 2 ^ c.args.n) (c.min-end.result - start) (drop start words) (All-drop (λ (x : ℕ). x < 2 ^ c.args.n) start words c.requires.words)

pub returns : goal.returns
returns g c =
    subst (Puts _ _) (ap (λ (words : List ℕ). word_lines c.args.n words) (take_all c.loop-start.start c.args.words.now c.loop-start-test.false))
    c.loop-start.invariant.0
