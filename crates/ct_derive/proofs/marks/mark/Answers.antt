use Rattle.std.proofs.Common.{List, ℕ, sym, ◌∙◌}
use Rattle.std.proofs.lemmas.List.{at_drop_more, at_drop_all}
use Rattle.ct_derive.specs.Pruning.{with_marks}
use Rattle.ct_derive.proofs.marks.mark.Goals as goal

pub loop-place-preserved : goal.loop-place-preserved
loop-place-preserved c =
    c.loop-place.invariant
    ∙ at_drop_more (λ (places : List ℕ). with_marks places c.loop-place.marks) c.args.places.now c.loop-place.place-index 0
    c.loop-place-test.true

pub returns : goal.returns
returns c =
    sym (c.loop-place.invariant
    ∙ at_drop_all (λ (places : List ℕ). with_marks places c.loop-place.marks) c.args.places.now c.loop-place.place-index
    c.loop-place-test.false)
