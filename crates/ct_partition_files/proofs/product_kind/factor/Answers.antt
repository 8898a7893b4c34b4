use Rattle.std.proofs.Common.{◌≡◌, Option, Some, None, sym, ap, subst, ◌∙◌}
use Rattle.std.specs.Prelude.{IfSome, IsSome}
use Rattle.std.proofs.lemmas.Result.{IfOk-weaker}
use Rattle.ct_classes.specs.Partition.{PartitionValue, IsSoundPartition}
use Rattle.ct_kind.specs.Named.{partition_named}
use Rattle.ct_kind.proofs.NamedLemmas.{partition-sound}
use Rattle.ct_partition_files.proofs.product_kind.factor.Goals as goal

-- where something is known to be there, it is not missing
there-not_none : {X : Type 0} (o : Option X) → IsSome o → o ≡ None → ⊥
there-not_none None there none = absurd cc
there-not_none (Some x) there none = absurd cc

pub unreachable-requires : goal.unreachable-requires
unreachable-requires g c =
    there-not_none (partition_named c.args.id (g.P.Partitions.known c.args.pieces.now)) c.requires.there (sym c.partition.ensures ∙ c.in_default.is)

pub copied-requires : goal.copied-requires
copied-requires g c =
    let sound = partition-sound c.args.id (g.P.Partitions.known c.args.pieces.now) c.are_sound.ensures in
    subst (λ (o : Option PartitionValue). IfSome o IsSoundPartition) (sym c.partition.ensures ∙ c.in-Some.is) sound

pub returns : goal.returns
returns g c =
    IfOk-weaker c.copied.result _ _ (λ (p : PartitionValue) same. sym c.partition.ensures ∙ c.in-Some.is ∙ ap Some (sym same)) c.copied.ensures
