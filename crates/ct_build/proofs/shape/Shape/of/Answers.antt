use Rattle.std.proofs.Common.{sym, ◌∙◌, arith}
use Rattle.ct_build.proofs.Sound.{weight_limit}
use Rattle.ct_build.proofs.shape.Shape.of.Goals as goal

pub returns-clause-limits : goal.returns-clause-limits
returns-clause-limits c =
    let n = c.n.ensures.value in
    let d = c.d.ensures.value in
    let lengths = c.n.ensures.sound.length_in_range.1 in
    let distances = c.n.ensures.sound.distance_in_range.1 in
    record {
      length_to = omega arith;
      distance_to = omega arith;
      weight_to = λ k is. weight_limit c.args.code.now c.n.ensures.sound k (sym c.w.ensures.value ∙ is);
    }
