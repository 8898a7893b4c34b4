use Rattle.std.proofs.Common.{◌^◌, ◌<◌, option_map, ap, sym, ◌∙◌}
use Rattle.std.proofs.Math.Facts.{Fits-lt-pow}
use Rattle.std.proofs.lemmas.List.Elements.{All-from_get_or}
use Rattle.ct_classes.specs.declared.fault.PartitionFault.TheVariants.{Weight}
use Rattle.ct_partitions.specs.Check.{partition_weight_fault}
use Rattle.ct_partitions.proofs.PairFaults.{other_weight_any_length}
use Rattle.ct_partitions.proofs.check.weight_fault.Goals as goal

pub returns-in_err-place : goal.returns-in_err-place
returns-in_err-place c = λ n below.
    let words = c.args.words.now in
    let fits = All-from_get_or (λ x. x < 2 ^ 32) words 0 (λ k h. Fits-lt-pow (c.type_inv.words k)) in
    c.from_residual-in_err-place.ensures
    ∙ sym (ap (λ v. partition_weight_fault n v words) c.in_ok-w.was
    ∙ ap (option_map Weight) (sym (other_weight_any_length n c.in_ok-w.w words below fits) ∙ sym c.first_of_other_weight.ensures
    ∙ c.in_err-place.was))

pub returns : goal.returns
returns c = λ n below.
    let words = c.args.words.now in
    let fits = All-from_get_or (λ x. x < 2 ^ 32) words 0 (λ k h. Fits-lt-pow (c.type_inv.words k)) in
    sym (ap (λ v. partition_weight_fault n v words) c.in_ok-w.was
    ∙ ap (option_map Weight) (sym (other_weight_any_length n c.in_ok-w.w words below fits) ∙ sym c.first_of_other_weight.ensures
    ∙ c.in_ok-place.was))
