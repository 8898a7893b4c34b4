use Rattle.std.proofs.Common.{ℕ, [], length, get_or, length-set, ◌∙◌, arith}
use Rattle.ct_sum_classes.specs.declared.largest_class.LargestClass.{LargestClass}
use Rattle.ct_sum_classes.specs.SumClass.{largest_class, sum_class}
use Rattle.ct_sum_classes.proofs.LargestLemmas.{largest_in_row, size_in_row, known_more}
use Rattle.ct_sum_classes.proofs.largest_class.largest_sum_classes.Goals as goal

pub loop-w-preserved : goal.loop-w-preserved
loop-w-preserved c =
    let n = c.args.n in
    let w = c.loop-w.w in
    let row = get_or c.sizes_up_to-table.result w [] in
    let room = c.loop-w.invariant.0 in
    let some = c.requires.0 in
    let sizes = c.sizes_up_to-table.ensures w (omega arith) in
    let class : ℕ → LargestClass =
    λ k. record { residue = largest_class n k; size = length (sum_class n k (largest_class n k)) } in
    let residue = c.largest_of.ensures.residue ∙ largest_in_row n w row some sizes in
    let size = c.largest_of.ensures.size ∙ size_in_row n w row some sizes in (
      length-set {A = LargestClass} _ _ _ ∙ room,
      known_more class c.loop-w.classes w c.largest_of.result (omega arith) c.loop-w.invariant.1
          (λ i. record { residue = residue i; size = size i }),
    )
