use Rattle.std.proofs.Common.{ℕ, List, subst, ◌∙◌, refl}
use Rattle.std.specs.List.Sorted.{IsPermutation}
use Rattle.ct_words.proofs.CheckLemmas.{code_from_no_fault, sound_from_code}
use Rattle.ct_kind.proofs.CodeAt.{code_at_is}
use Rattle.ct_word_files.proofs.words_kind.code.Goals as goal

pub from_sorted-requires : goal.from_sorted-requires
from_sorted-requires c =
    let whole = code_from_no_fault c.args.entry c.args.words.now c.requires.words c.requires.faultless in
    let moved = subst (λ (listed : List ℕ). IsPermutation listed c.sort_unstable.new.self.items) c.in_ok-words.ensures.items c.sort_unstable.ensures.permutation in
    record { code = sound_from_code c.args.entry c.args.words.now c.sort_unstable.new.self.items c.requires.entry whole.0 whole.2 moved c.sort_unstable.ensures.sorted }

pub returns : goal.returns
returns c =
    let whole = code_from_no_fault c.args.entry c.args.words.now c.requires.words c.requires.faultless in
    let moved = subst (λ (listed : List ℕ). IsPermutation listed c.sort_unstable.new.self.items) c.in_ok-words.ensures.items c.sort_unstable.ensures.permutation in
    let sound = sound_from_code c.args.entry c.args.words.now c.sort_unstable.new.self.items c.requires.entry whole.0 whole.2 moved c.sort_unstable.ensures.sorted in
    c.from_sorted.ensures.value
    ∙ code_at_is c.args.entry c.args.words.now (record { n = c.args.entry.n; d = c.args.entry.d; w = c.args.entry.w; words = c.sort_unstable.new.self.items }) refl refl refl moved sound
