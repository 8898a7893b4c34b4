use Rattle.std.proofs.Common.{arith, ◌≤◌, ◌^◌, length, ap, ◌∙◌, lit≤}
use Rattle.std.proofs.Math.Nat.{pow-le-pow_right}
use Rattle.std.proofs.lemmas.List.Sorted.{length_permutation}
use Rattle.ct_words.specs.declared.limits.TheConstants.{MAX_BOUND}
use Rattle.ct_words.proofs.CheckLemmas.{code_size-le}
use Rattle.ct_word_files.proofs.words_kind.checked_size.Goals as goal

pub overflow_cast-result : goal.overflow_cast-result
overflow_cast-result c =
    let size = code_size-le _ _ _ _ c.words.ensures.sound.code in
    let cap : 2 ^ c.in_ok-code.code.n ≤ MAX_BOUND = pow-le-pow_right (lit≤ tt) c.words.ensures.sound.length_in_range.1 in
    let same = ap length c.words.ensures.value in
    omega (arith, size, cap, same)

pub returns-clause-size : goal.returns-clause-size
returns-clause-size c = ap length c.words.ensures.value ∙ length_permutation _ _ c.in_ok-code.ensures.words

pub check_words-requires-clause-words : goal.check_words-requires-clause-words
check_words-requires-clause-words c = c.requires.words
