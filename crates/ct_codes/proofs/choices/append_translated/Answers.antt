use Rattle.std.proofs.Common.{◌≡◌, ◌∙◌, ap, ℕ, ◌+◌, ◌<◌, ◌^◌, bit_xor, List, [], ◌∷◌, ◌++◌, length, map, drop, get_or, append_assoc, arith}
use Rattle.std.proofs.Math.Seq.{drop-append_seam}
use Rattle.ct_words.specs.Text.{tabulate}
use Rattle.ct_words.specs.Coset.{span_word}
use Rattle.ct_codes.proofs.SpanLemmas.{translated-none, translated-doubled}
use Rattle.ct_codes.proofs.choices.append_translated.Goals as goal

pub loop-basis_word-init : goal.loop-basis_word-init
loop-basis_word-init c =
    c.in_ok-push.ensures.items ∙ ap (λ x. c.args.words.now.items ++ x ∷ []) (translated-none c.args.basis.now c.args.word)

-- the words that stand after those that stood before, and their sums with one basis word more
doubled : (old : List ℕ) (basis : List ℕ) (x i start : ℕ) → i < length basis → start ≡ length old
    → (old ++ tabulate (λ s. bit_xor x (span_word basis s)) (2 ^ i))
    ++ map (λ y. bit_xor y (get_or basis i 0)) (drop start (old ++ tabulate (λ s. bit_xor x (span_word basis s)) (2 ^ i)))
    ≡ old ++ tabulate (λ s. bit_xor x (span_word basis s)) (2 ^ (i + 1))
doubled old basis x i start within start_is =
    let sums = tabulate (λ s. bit_xor x (span_word basis s)) (2 ^ i) in
    let f = λ (y : ℕ). bit_xor y (get_or basis i 0) in
    ap (λ q. (old ++ sums) ++ map f (drop q (old ++ sums))) start_is
    ∙ ap (λ ys. (old ++ sums) ++ map f ys) (drop-append_seam old sums)
    ∙ append_assoc old sums (map f sums) ∙ ap (λ ys. old ++ ys) (translated-doubled basis x i within)

pub loop-basis_word-preserved : goal.loop-basis_word-preserved
loop-basis_word-preserved c =
    let old = c.args.words.now.items in
    let basis = c.args.basis.now in
    let i = c.loop-basis_word.basis_word-index in
    let start_is : c.len-start.result ≡ length old = omega arith in
    c.in_ok-append_sums.ensures
    ∙ ap (λ xs. xs ++ map (λ y. bit_xor y (get_or basis i 0)) (drop c.len-start.result xs)) c.loop-basis_word.invariant
    ∙ doubled old basis c.args.word i c.len-start.result c.loop-basis_word-test.true start_is

pub returns : goal.returns
returns c =
    let basis = c.args.basis.now in
    let all : c.loop-basis_word.basis_word-index ≡ length c.args.basis.now = omega arith in
    c.loop-basis_word.invariant ∙ ap (λ i. c.args.words.now.items ++ tabulate (λ s. bit_xor c.args.word (span_word basis s)) (2 ^ i)) all
