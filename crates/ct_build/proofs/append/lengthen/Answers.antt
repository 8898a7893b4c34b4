use Rattle.std.proofs.Common.{ap, sym, subst, ◌∙◌, ◌+◌}
use Rattle.ct_words.specs.Code.{CodeValue, IsSoundCode}
use Rattle.ct_words.specs.Constructions.Append.{lengthened}
use Rattle.ct_words.proofs.Constructions.AppendLemmas.{sound-lengthened}
use Rattle.ct_build.proofs.Sound.{IsSoundCode-same}
use Rattle.ct_build.proofs.append.lengthen.Goals as goal
use Rattle.ct_build.proofs.append.lengthen.Goals.{After-w}

sound : (c : After-w) → IsSoundCode (record { n = c.n.result + 1; d = c.d.result; w = c.w.result; words = c.in_ok-words.words.items })
sound c =
    let part = c.args.part.now in
    IsSoundCode-same (record { n = part.n + 1; d = part.d; w = part.w; words = lengthened part.words }) _ _ _ _
    (ap (λ k. k + 1) c.n.ensures.value) c.d.ensures.value c.w.ensures.value c.in_ok-words.ensures
    (sound-lengthened part c.n.ensures.sound c.requires)

pub from_sorted-requires : goal.from_sorted-requires
from_sorted-requires c = record { code = sound ((goal.at.from_sorted-requires c).After-w) }

pub returns-clause-n : goal.returns-clause-n
returns-clause-n c = ap (λ (v : CodeValue). v.n) c.from_sorted.ensures.value ∙ ap (λ k. k + 1) c.n.ensures.value

pub returns-clause-d : goal.returns-clause-d
returns-clause-d c = ap (λ (v : CodeValue). v.d) c.from_sorted.ensures.value ∙ c.d.ensures.value

pub returns-clause-sound : goal.returns-clause-sound
returns-clause-sound c = subst IsSoundCode (sym c.from_sorted.ensures.value) (sound ((goal.at.returns-clause-sound c).After-w))
