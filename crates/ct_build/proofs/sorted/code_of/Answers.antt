use Rattle.std.proofs.Common.{sym, subst, IsPermutation}
use Rattle.ct_words.specs.Code.{CodeValue, IsSoundCode}
use Rattle.ct_words.proofs.Constructions.SortedCodes.{sound_from_sort}
use Rattle.ct_build.proofs.sorted.code_of.Goals as goal
use Rattle.ct_build.proofs.sorted.code_of.Goals.{After-in_order}

sound : (c : After-in_order) → IsSoundCode (record { n = c.args.n; d = c.args.d; w = c.args.w; words = c.in_order.result.items })
sound c =
    sound_from_sort c.args.n c.args.d c.args.w c.args.words.items c.in_order.result.items c.requires.length c.requires.distance c.requires.some c.requires.code
    c.in_order.ensures.permutation c.in_order.ensures.sorted

pub from_sorted-requires : goal.from_sorted-requires
from_sorted-requires c = record { code = sound ((goal.at.from_sorted-requires c).After-in_order) }

pub returns-clause-sound : goal.returns-clause-sound
returns-clause-sound c = subst IsSoundCode (sym c.from_sorted.ensures.value) (sound ((goal.at.returns-clause-sound c).After-in_order))

pub returns-clause-words : goal.returns-clause-words
returns-clause-words c =
    subst (λ (v : CodeValue). IsPermutation c.args.words.items v.words) (sym c.from_sorted.ensures.value) c.in_order.ensures.permutation
