use Rattle.std.proofs.Common.{ℕ, ◌+◌, ◌/◌, ◌%◌, List, ap, ◌∙◌}
use Rattle.ct_words.specs.Entry.{constant_weight}
use Rattle.ct_kind.specs.declared.evidence.Evidence.TheVariants.{Words}
use Rattle.ct_sample.proofs.DrawnClasses.{class_some}
use Rattle.ct_sample.proofs.DrawnSound.{class_numbers}
use Rattle.ct_sample.proofs.drawing.drawn_words.Goals as goal

pub sum_class_list-requires-clause-some : goal.sum_class_list-requires-clause-some
sum_class_list-requires-clause-some c =
    let h = c.args.h in
    let k = class_numbers h in
    class_some (8 + h / 4 % 9) (3 + h / 64 % 2) (h / 256 % (8 + h / 4 % 9)) k.from k.to k.low k.high k.below

pub returns : goal.returns
returns c =
    let h = c.args.h in
    ap (λ (words : List ℕ). Words (constant_weight (8 + h / 4 % 9) 4 (3 + h / 64 % 2)) words)
    (c.from_vec.ensures ∙ c.into_words-words.ensures.value ∙ c.in_ok-sum_class_list.ensures.words)
