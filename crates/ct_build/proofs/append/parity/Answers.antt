use Rattle.std.proofs.Common.{sym, subst, ap, ◌∙◌, ◌+◌}
use Rattle.std.specs.Option.{option_map}
use Rattle.ct_words.specs.Code.{CodeValue, IsSoundCode}
use Rattle.ct_words.specs.Constructions.Even.{even_from}
use Rattle.ct_words.specs.Constructions.Append.{with_parity}
use Rattle.ct_words.proofs.Constructions.AppendLemmas.{sound-with_parity}
use Rattle.ct_build.proofs.Sound.{IsSoundCode-same, weight_limit}
use Rattle.ct_build.proofs.append.parity.Goals as goal
use Rattle.ct_build.proofs.append.parity.Goals.{After-even_weight}

pub even_weight-requires : goal.even_weight-requires
even_weight-requires c = λ k is. weight_limit c.args.part.now c.n.ensures.sound k (sym c.w.ensures.value ∙ is)

sound : (c : After-even_weight)
    → IsSoundCode (record { n = c.n.result + 1; d = c.even_from.result; w = c.even_weight.result; words = c.in_ok-words.words.items })
sound c =
    let part = c.args.part.now in
    IsSoundCode-same (record { n = part.n + 1; d = even_from part.d; w = option_map even_from part.w; words = with_parity part.n part.words }) _ _ _ _
    (ap (λ k. k + 1) c.n.ensures.value) (c.even_from.ensures ∙ ap even_from c.d.ensures.value)
    (c.even_weight.ensures ∙ ap (option_map even_from) c.w.ensures.value) c.in_ok-words.ensures (sound-with_parity part c.n.ensures.sound c.requires)

pub from_sorted-requires : goal.from_sorted-requires
from_sorted-requires c = record { code = sound ((goal.at.from_sorted-requires c).After-even_weight) }

pub returns-clause-n : goal.returns-clause-n
returns-clause-n c = ap (λ (v : CodeValue). v.n) c.from_sorted.ensures.value ∙ ap (λ k. k + 1) c.n.ensures.value

pub returns-clause-d : goal.returns-clause-d
returns-clause-d c = ap (λ (v : CodeValue). v.d) c.from_sorted.ensures.value ∙ c.even_from.ensures ∙ ap even_from c.d.ensures.value

pub returns-clause-sound : goal.returns-clause-sound
returns-clause-sound c = subst IsSoundCode (sym c.from_sorted.ensures.value) (sound ((goal.at.returns-clause-sound c).After-even_weight))
