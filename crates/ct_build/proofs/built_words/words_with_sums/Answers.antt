use Rattle.std.proofs.Common.{ℕ, ◌≢◌, ◌^◌, ◌<◌, List, [], All, Option, IfOk, sym, ap, subst, ◌∙◌, option_copied, IsPermutation}
use Rattle.std.proofs.lemmas.List.Sorted.{IsPermutation-refl}
use Rattle.ct_words.specs.Code.{CodeValue}
use Rattle.ct_words.specs.Constructions.Uuv.{uuv_words}
use Rattle.ct_build.specs.declared.step.Step.TheVariants.{Uuv}
use Rattle.ct_build.specs.Build.{built}
use Rattle.ct_build.proofs.BuildFaults.{IfErr-anyway, uuv_some}
use Rattle.ct_build.proofs.Sound.{words_within}
use Rattle.ct_build.proofs.built_words.words_with_sums.Goals as goal

pub words_and_sums-requires-clause-first : goal.words_and_sums-requires-clause-first
words_and_sums-requires-clause-first c =
    words_within c.args.part.now c.n.result c.words.result.now c.n.ensures.sound c.n.ensures.value c.words.ensures.value

pub words_and_sums-requires-clause-second : goal.words_and_sums-requires-clause-second
words_and_sums-requires-clause-second c =
    let o = c.in-Some.other.now in
    let same = c.requires.lengths o (ap option_copied c.in-Some.is) ∙ sym c.n.ensures.value in
    subst (λ (xs : List ℕ). All (λ x. x < 2 ^ c.n.result) xs) (sym c.words-in-Some.ensures.value)
    (subst (λ m. All (λ x. x < 2 ^ m) o.words) same c.words-in-Some.ensures.sound.code.lengths)

pub returns-in-Some-clause-words : goal.returns-in-Some-clause-words
unfolding built
returns-in-Some-clause-words c = λ e.
    let made = λ (p : Option CodeValue). built Uuv e c.args.part.now p in
    subst (λ (ws : List ℕ). IfOk c.words_and_sums.result (λ v. IsPermutation ws v.items))
    ((λ i. uuv_words (c.n.ensures.value i) (c.words.ensures.value i) (c.words-in-Some.ensures.value i)) ∙ ap made (sym (ap option_copied c.in-Some.is)))
    c.words_and_sums.ensures

pub returns-in-Some-clause-some : goal.returns-in-Some-clause-some
returns-in-Some-clause-some c = λ e.
    let other = option_copied c.args.other in
    IfErr-anyway c.words_and_sums.result (λ _. built Uuv e c.args.part.now other ≢ [])
    (λ _. uuv_some e c.args.part.now c.in-Some.other.now other (ap option_copied c.in-Some.is) c.n.ensures.sound.some c.words-in-Some.ensures.sound.some)

pub returns-in-None-clause-words : goal.returns-in-None-clause-words
unfolding built
returns-in-None-clause-words c = λ e.
    let made = λ (p : Option CodeValue). built Uuv e c.args.part.now p in
    subst (λ (ws : List ℕ). IsPermutation ws c.new.result.items) (c.new.ensures.items ∙ ap made (sym (ap option_copied c.in-None.is)))
    (IsPermutation-refl c.new.result.items)
