use Rattle.std.proofs.Common.{sym, subst, ap, ◌∙◌, ◌+◌}
use Rattle.std.specs.Option.{option_map}
use Rattle.ct_words.specs.Code.{CodeValue, IsSoundCode}
use Rattle.ct_words.specs.Constructions.Append.{one_appended}
use Rattle.ct_words.proofs.Constructions.AppendLemmas.{sound-one_appended}
use Rattle.ct_build.proofs.Sound.{IsSoundCode-same, weight_limit}
use Rattle.ct_build.proofs.append.append_one.Goals as goal
use Rattle.ct_build.proofs.append.append_one.Goals.{After-one_heavier}

pub one_heavier-requires : goal.one_heavier-requires
one_heavier-requires c = λ k is. weight_limit c.args.part.now c.n.ensures.sound k (sym c.w.ensures.value ∙ is)

sound : (c : After-one_heavier)
    → IsSoundCode (record { n = c.n.result + 1; d = c.d.result; w = c.one_heavier.result; words = c.in_ok-words.words.items })
sound c =
    let part = c.args.part.now in
    IsSoundCode-same (record { n = part.n + 1; d = part.d; w = option_map (λ k. k + 1) part.w; words = one_appended part.words }) _ _ _ _
    (ap (λ k. k + 1) c.n.ensures.value) c.d.ensures.value (c.one_heavier.ensures ∙ ap (option_map (λ k. k + 1)) c.w.ensures.value) c.in_ok-words.ensures
    (sound-one_appended part c.n.ensures.sound c.requires)

pub from_sorted-requires : goal.from_sorted-requires
from_sorted-requires c = record { code = sound ((goal.at.from_sorted-requires c).After-one_heavier) }

pub returns-clause-n : goal.returns-clause-n
returns-clause-n c = ap (λ (v : CodeValue). v.n) c.from_sorted.ensures.value ∙ ap (λ k. k + 1) c.n.ensures.value

pub returns-clause-d : goal.returns-clause-d
returns-clause-d c = ap (λ (v : CodeValue). v.d) c.from_sorted.ensures.value ∙ c.d.ensures.value

pub returns-clause-sound : goal.returns-clause-sound
returns-clause-sound c = subst IsSoundCode (sym c.from_sorted.ensures.value) (sound ((goal.at.returns-clause-sound c).After-one_heavier))
