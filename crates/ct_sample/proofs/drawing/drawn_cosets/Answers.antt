use Rattle.std.proofs.Common.{ℕ, ◌+◌, ◌/◌, ◌%◌, List, ap, ◌∙◌}
use Rattle.ct_words.specs.Entry.{unrestricted}
use Rattle.ct_kind.specs.declared.evidence.Evidence.TheVariants.{Cosets}
use Rattle.ct_sample.specs.Drawn.{golay_words}
use Rattle.ct_sample.proofs.drawing.drawn_cosets.Goals as goal

pub returns : goal.returns
returns c =
    let entry = unrestricted 24 8 in
    let basis = c.from_vec.ensures ∙ c.in_ok-basis.ensures in
    let representatives = c.from_vec-2.ensures ∙ c.in_ok-representatives.ensures.items in
    ap (λ (words : List ℕ). Cosets entry words c.from_vec-2.result) basis
    ∙ ap (λ (words : List ℕ). Cosets entry (golay_words (1 + c.args.h / 4 % 8)) words) representatives
