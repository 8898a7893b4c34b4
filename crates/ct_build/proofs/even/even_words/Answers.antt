use Rattle.std.proofs.Common.{refl, sym, subst, ap, ◌∙◌, None, length}
use Rattle.ct_words.specs.Code.{IsSoundCode}
use Rattle.ct_words.specs.Constructions.Even.{even_words}
use Rattle.ct_words.proofs.Constructions.EvenLemmas.{sound-even_words, length-even_words}
use Rattle.ct_build.proofs.Sound.{IsSoundCode-same}
use Rattle.ct_build.proofs.even.even_words.Goals as goal
use Rattle.ct_build.proofs.even.even_words.Goals.{In_ok-words}

sound : (c : In_ok-words) → IsSoundCode (record { n = c.args.n; d = 2; w = None; words = c.in_ok-words.words.items })
sound c =
    IsSoundCode-same (record { n = c.args.n; d = 2; w = None; words = even_words c.args.n }) _ _ _ _ refl refl refl c.in_ok-words.ensures
    (sound-even_words c.args.n c.requires.some c.requires.room)

pub from_sorted-requires : goal.from_sorted-requires
from_sorted-requires c = record { code = sound ((goal.at.from_sorted-requires c).In_ok-words) }

pub returns-clause-size : goal.returns-clause-size
returns-clause-size c =
    ap (λ v. length v.words) c.from_sorted.ensures.value ∙ ap length c.in_ok-words.ensures ∙ length-even_words c.args.n c.requires.some

pub returns-clause-sound : goal.returns-clause-sound
returns-clause-sound c = subst IsSoundCode (sym c.from_sorted.ensures.value) (sound ((goal.at.returns-clause-sound c).In_ok-words))
