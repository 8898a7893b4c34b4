use Rattle.std.proofs.Common.{ℕ, ◌≢◌, ◌-◌, ◌^◌, ◌<◌, List, [], All, Option, sym, ap, subst, ◌∙◌, arith, option_copied, IsPermutation}
use Rattle.std.proofs.lemmas.List.Sorted.{IsPermutation-refl}
use Rattle.ct_words.specs.Code.{CodeValue}
use Rattle.ct_words.specs.Constructions.Juxtaposed.{juxtaposed}
use Rattle.ct_words.proofs.Constructions.JoinedLemmas.{words_wider}
use Rattle.ct_build.specs.declared.step.Step.TheVariants.{Juxtapose}
use Rattle.ct_build.specs.Build.{built}
use Rattle.ct_build.proofs.BuildFaults.{IfErr-anyway, as_made, juxtapose_some}
use Rattle.ct_build.proofs.Sound.{words_within}
use Rattle.ct_build.proofs.built_words.words_side_by_side.Goals as goal

pub joined_words-requires-clause-first : goal.joined_words-requires-clause-first
joined_words-requires-clause-first c =
    let room = c.requires c.in-Some.other.now (ap option_copied c.in-Some.is) in
    let length_is = c.n.ensures.value in
    subst (λ (xs : List ℕ). All (λ x. x < 2 ^ (32 - c.n.result)) xs) (sym c.words.ensures.value)
    (words_wider c.args.part.now.n (32 - c.n.result) c.args.part.now.words (omega arith) c.words.ensures.sound.code.lengths)

pub joined_words-requires-clause-second : goal.joined_words-requires-clause-second
joined_words-requires-clause-second c =
    words_within c.in-Some.other.now c.n.result c.words-in-Some.result.now c.n.ensures.sound c.n.ensures.value c.words-in-Some.ensures.value

pub returns-in-Some-clause-words : goal.returns-in-Some-clause-words
unfolding built
returns-in-Some-clause-words c = λ e.
    let made = λ (p : Option CodeValue). built Juxtapose e c.args.part.now p in
    as_made c.joined_words.result _ (made (option_copied c.args.other))
    ((λ i. juxtaposed (c.n.ensures.value i) (c.words.ensures.value i) (c.words-in-Some.ensures.value i)) ∙ ap made (sym (ap option_copied c.in-Some.is)))
    c.joined_words.ensures

pub returns-in-Some-clause-some : goal.returns-in-Some-clause-some
returns-in-Some-clause-some c = λ e.
    let other = option_copied c.args.other in
    IfErr-anyway c.joined_words.result (λ _. built Juxtapose e c.args.part.now other ≢ [])
    (λ _. juxtapose_some e c.args.part.now c.in-Some.other.now other (ap option_copied c.in-Some.is) c.words.ensures.sound.some c.n.ensures.sound.some)

pub returns-in-None-clause-words : goal.returns-in-None-clause-words
unfolding built
returns-in-None-clause-words c = λ e.
    let made = λ (p : Option CodeValue). built Juxtapose e c.args.part.now p in
    subst (λ (ws : List ℕ). IsPermutation ws c.new.result.items) (c.new.ensures.items ∙ ap made (sym (ap option_copied c.in-None.is)))
    (IsPermutation-refl c.new.result.items)
