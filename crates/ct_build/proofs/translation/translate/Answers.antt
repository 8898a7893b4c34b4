use Rattle.std.proofs.Common.{refl, sym, ap, ◌∙◌, None, List, ℕ, subst, IsPermutation}
use Rattle.ct_words.specs.Code.{CodeValue, IsSoundCode}
use Rattle.ct_words.specs.Constructions.Translation.{translated}
use Rattle.ct_words.proofs.Constructions.TranslationLemmas.{sound-translated}
use Rattle.ct_build.proofs.Sound.{IsSoundCode-same}
use Rattle.ct_build.proofs.translation.translate.Goals as goal
use Rattle.ct_build.proofs.translation.translate.Goals.{After-d}

moved : (c : After-d) → IsPermutation (translated c.args.by c.args.part.now.words) c.in_ok-words.words.items
moved c = subst (λ (ws : List ℕ). IsPermutation (translated c.args.by ws) c.in_ok-words.words.items) c.words.ensures.value c.in_ok-words.ensures.permutation

sound : (c : After-d) → IsSoundCode (record { n = c.n.result; d = c.d.result; w = None; words = c.in_ok-words.words.items })
sound c =
    let part = c.args.part.now in
    IsSoundCode-same (record { n = part.n; d = part.d; w = None; words = c.in_ok-words.words.items }) _ _ _ _
    c.n.ensures.value c.d.ensures.value refl refl
    (sound-translated part c.args.by c.in_ok-words.words.items c.n.ensures.sound c.requires (moved c) c.in_ok-words.ensures.sorted)

pub from_sorted-requires : goal.from_sorted-requires
from_sorted-requires c = record { code = sound ((goal.at.from_sorted-requires c).After-d) }

pub returns-clause-words : goal.returns-clause-words
returns-clause-words c =
    subst (λ (v : CodeValue). IsPermutation (translated c.args.by c.args.part.now.words) v.words) (sym c.from_sorted.ensures.value)
    (moved ((goal.at.returns-clause-words c).After-d))

pub returns-clause-n : goal.returns-clause-n
returns-clause-n c = ap (λ (v : CodeValue). v.n) c.from_sorted.ensures.value ∙ c.n.ensures.value

pub returns-clause-d : goal.returns-clause-d
returns-clause-d c = ap (λ (v : CodeValue). v.d) c.from_sorted.ensures.value ∙ c.d.ensures.value

pub returns-clause-sound : goal.returns-clause-sound
returns-clause-sound c = subst IsSoundCode (sym c.from_sorted.ensures.value) (sound ((goal.at.returns-clause-sound c).After-d))
