use Rattle.std.proofs.Common.{ℕ, ◌+◌, List, [], ◌∷◌, ◌++◌, ap, ◌∙◌}
use Rattle.std.proofs.lemmas.Result.{IfOk-from_err}
use Rattle.ct_classes.specs.Partition.{PartitionValue}
use Rattle.ct_partition_files.proofs.product_kind.put_pair.Goals as goal

pub returns-clause-parts : goal.returns-clause-parts
returns-clause-parts c =
    c.in_ok-push-3.ensures.items ∙ ap (λ (ps : List PartitionValue). ps ++ c.args.y ∷ []) c.in_ok-push-2.ensures.items

pub returns-clause-places : goal.returns-clause-places
returns-clause-places c =
    c.in_ok-push.ensures.items ∙ ap (λ (k : ℕ). c.args.places.now.items ++ (k, k + 1) ∷ []) (c.len-place.ensures ∙ c.args.parts.now.ok.0)

pub returns-in_err-push-2-clause-parts : goal.returns-in_err-push-2-clause-parts
returns-in_err-push-2-clause-parts c = IfOk-from_err c.from_residual-in_err-push-2.result _ c.from_residual-in_err-push-2.ensures.0

pub returns-in_err-push-2-clause-places : goal.returns-in_err-push-2-clause-places
returns-in_err-push-2-clause-places c = IfOk-from_err c.from_residual-in_err-push-2.result _ c.from_residual-in_err-push-2.ensures.0

pub returns-in_err-push-3-clause-parts : goal.returns-in_err-push-3-clause-parts
returns-in_err-push-3-clause-parts c = IfOk-from_err c.from_residual-in_err-push-3.result _ c.from_residual-in_err-push-3.ensures.0

pub returns-in_err-push-3-clause-places : goal.returns-in_err-push-3-clause-places
returns-in_err-push-3-clause-places c = IfOk-from_err c.from_residual-in_err-push-3.result _ c.from_residual-in_err-push-3.ensures.0
