use Rattle.std.proofs.Common.{ℕ, List, Result, Ok, sym, ap, ◌∙◌}
use Rattle.ct_classes.specs.Partition.{word_lists}
use Rattle.ct_kind.specs.declared.evidence.Evidence.TheVariants.{Partition}
use Rattle.ct_fields.specs.Steps.{◌>>=◌, ◌>>◌}
use Rattle.ct_fields.specs.declared.fault.DocumentFault.{DocumentFault}
use Rattle.ct_partition_files.specs.Lists.{class_count}
use Rattle.ct_partition_files.proofs.partition.partition_of_lists.Goals as goal

pub returns : goal.returns
returns c =
    let entry = c.args.entry in
    let between = c.args.between in
    let classes = c.in_ok-classes.classes.items in
    let right = sym (c.in_ok-class_count.ensures ∙ ap (λ cs. class_count (word_lists cs)) c.deref.ensures.value) in
    ap (λ (read : Result (List (List ℕ)) DocumentFault). read >>= (λ cs. class_count cs >> Ok (Partition entry between cs))) c.in_ok-classes.ensures
    ∙ ap (λ (counted : Result (Unit {0}) DocumentFault). counted >> Ok (Partition entry between (word_lists classes))) right
    ∙ ap (λ (cs : List (List ℕ)). Ok (Partition entry between cs)) (sym c.from_vec-classes.ensures)
