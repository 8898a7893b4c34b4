use Rattle.std.proofs.Common.{refl, sym, ap, ap₂, ◌∙◌, ◌-◌, List, ℕ, subst, IsPermutation, arith}
use Rattle.std.specs.Option.{option_map}
use Rattle.ct_words.specs.Code.{CodeValue, IsSoundCode}
use Rattle.ct_words.specs.Constructions.Translation.{translated, complemented, all_ones}
use Rattle.ct_words.proofs.Constructions.TranslationLemmas.{sound-complemented}
use Rattle.ct_build.proofs.Sound.{IsSoundCode-same, weight_within}
use Rattle.ct_build.proofs.translation.complement.Goals as goal
use Rattle.ct_build.proofs.translation.complement.Goals.{After-complement_weight}

pub complement_weight-requires : goal.complement_weight-requires
complement_weight-requires c = λ k is.
    let few = weight_within c.args.part.now c.n-n.ensures.sound k (sym c.w.ensures.value ∙ is) in
    let same = c.n-n.ensures.value in
    omega arith

moved : (c : After-complement_weight) → IsPermutation (complemented c.args.part.now.n c.args.part.now.words) c.in_ok-words.words.items
moved c =
    let part = c.args.part.now in
    let by_is = c.all_ones.ensures ∙ ap all_ones c.n-n.ensures.value in
    subst (λ by. IsPermutation (translated by part.words) c.in_ok-words.words.items) by_is
    (subst (λ (ws : List ℕ). IsPermutation (translated c.all_ones.result ws) c.in_ok-words.words.items) c.words.ensures.value c.in_ok-words.ensures.permutation)

sound : (c : After-complement_weight)
    → IsSoundCode (record { n = c.n-n.result; d = c.d.result; w = c.complement_weight.result; words = c.in_ok-words.words.items })
sound c =
    let part = c.args.part.now in
    IsSoundCode-same (record { n = part.n; d = part.d; w = option_map (λ k. part.n - k) part.w; words = c.in_ok-words.words.items }) _ _ _ _
    c.n-n.ensures.value c.d.ensures.value
    (c.complement_weight.ensures ∙ ap₂ (λ m o. option_map (λ k. m - k) o) c.n-n.ensures.value c.w.ensures.value) refl
    (sound-complemented part c.in_ok-words.words.items c.n-n.ensures.sound (moved c) c.in_ok-words.ensures.sorted)

pub from_sorted-requires : goal.from_sorted-requires
from_sorted-requires c = record { code = sound ((goal.at.from_sorted-requires c).After-complement_weight) }

pub returns-clause-words : goal.returns-clause-words
returns-clause-words c =
    subst (λ (v : CodeValue). IsPermutation (complemented c.args.part.now.n c.args.part.now.words) v.words) (sym c.from_sorted.ensures.value)
    (moved ((goal.at.returns-clause-words c).After-complement_weight))

pub returns-clause-n : goal.returns-clause-n
returns-clause-n c = ap (λ (v : CodeValue). v.n) c.from_sorted.ensures.value ∙ c.n-n.ensures.value

pub returns-clause-d : goal.returns-clause-d
returns-clause-d c = ap (λ (v : CodeValue). v.d) c.from_sorted.ensures.value ∙ c.d.ensures.value

pub returns-clause-w : goal.returns-clause-w
returns-clause-w c =
    ap (λ (v : CodeValue). v.w) c.from_sorted.ensures.value ∙ c.complement_weight.ensures
    ∙ ap₂ (λ m o. option_map (λ k. m - k) o) c.n-n.ensures.value c.w.ensures.value

pub returns-clause-sound : goal.returns-clause-sound
returns-clause-sound c = subst IsSoundCode (sym c.from_sorted.ensures.value) (sound ((goal.at.returns-clause-sound c).After-complement_weight))
