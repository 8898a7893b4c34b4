use Rattle.std.proofs.Common.{◌≡◌, ℕ, ◌*◌, List, length, min, sym, ap₂, subst, ◌∙◌, arith, mul-le-mul_right, IsPermutation}
use Rattle.std.proofs.lemmas.List.Sorted.{length_permutation, IsPermutation-trans}
use Rattle.std.specs.Prelude.{None}
use Rattle.ct_words.specs.Code.{IsCode, CodeValue}
use Rattle.ct_words.proofs.CheckLemmas.{IsCode-permutation}
use Rattle.ct_words.specs.Constructions.Uuv.{uuv_words}
use Rattle.ct_words.proofs.Constructions.UuvCodes.{length-uuv_words, IsCode-uuv}
use Rattle.ct_build.proofs.Sound.{words_within}
use Rattle.ct_build.proofs.parts_and_sums.uuv.Goals as goal

-- the words of the two codes, as they were read
read : {n m : ℕ} {us us' vs vs' words : List ℕ} → n ≡ m → us ≡ us' → vs ≡ vs' → IsPermutation (uuv_words n us vs) words
    → IsPermutation (uuv_words m us' vs') words
read {words = words} same first second h = subst (λ ws. IsPermutation ws words) (λ i. uuv_words (same i) (first i) (second i)) h

pub words_and_sums-requires-clause-first : goal.words_and_sums-requires-clause-first
words_and_sums-requires-clause-first c =
    words_within c.args.part.now c.n-n.result c.words.result.now c.n-n.ensures.sound c.n-n.ensures.value c.words.ensures.value

pub words_and_sums-requires-clause-second : goal.words_and_sums-requires-clause-second
words_and_sums-requires-clause-second c =
    words_within c.args.other.now c.n-n.result c.words-2.result.now c.words-2.ensures.sound (c.n-n.ensures.value ∙ c.requires.lengths) c.words-2.ensures.value

pub code_of-requires-clause-some : goal.code_of-requires-clause-some
code_of-requires-clause-some c =
    let a = c.args.part.now in
    let b = c.args.other.now in
    let same = length_permutation _ c.in_ok-words.words.items
    (read c.n-n.ensures.value c.words.ensures.value c.words-2.ensures.value c.in_ok-words.ensures) in
    let count = length-uuv_words a.n a.words b.words in
    let product = mul-le-mul_right {m = 1} {n = length a.words} (length b.words) c.n-n.ensures.sound.some in
    let second = c.d-2.ensures.sound.some in
    omega arith

pub returns-clause-words : goal.returns-clause-words
returns-clause-words c =
    IsPermutation-trans _ c.in_ok-words.words.items c.code_of.result.words
    (read c.n-n.ensures.value c.words.ensures.value c.words-2.ensures.value c.in_ok-words.ensures) c.code_of.ensures.words

pub code_of-requires-clause-code : goal.code_of-requires-clause-code
code_of-requires-clause-code c =
    let a = c.args.part.now in
    let b = c.args.other.now in
    let second : IsCode a.n b.d b.w b.words = subst (λ m. IsCode m b.d b.w b.words) (sym c.requires.lengths) c.d-2.ensures.sound.code in
    let d_is : min (2 * a.d) b.d ≡ c.min-d.result =
    ap₂ (λ i j. min (2 * i) j) (sym c.d.ensures.value) (sym c.d-2.ensures.value) ∙ sym c.min-d.ensures in
    let words_are : uuv_words a.n a.words b.words ≡ uuv_words c.n-n.result c.words.result.now c.words-2.result.now =
    (λ i. uuv_words (sym c.n-n.ensures.value i) (sym c.words.ensures.value i) (sym c.words-2.ensures.value i)) in
    let Q : CodeValue → Type 0 = λ v. IsCode v.n v.d v.w v.words in
    let code = subst Q (λ i. record { n = 2 * (sym c.n-n.ensures.value i); d = d_is i; w = None; words = words_are i })
    (IsCode-uuv a.n a.d a.w a.words b.d b.w b.words c.d.ensures.sound.code second) in
    IsCode-permutation (2 * c.n-n.result) c.min-d.result None _ c.in_ok-words.words.items c.in_ok-words.ensures code
