use Rattle.std.proofs.Common.{◌≡◌, ap, ◌∙◌, arith}
use Rattle.ct_sum_classes.specs.Inside.Sizes.{size_of}
use Rattle.ct_sum_classes.proofs.class_sizes.sizes_up_to.Goals as goal

pub returns : goal.returns
returns c = λ k few r within.
    let all : c.loop-element.element ≡ c.args.n = omega arith in
    c.loop-element.invariant k few r within ∙ ap (λ m. size_of c.args.n m k r) all
