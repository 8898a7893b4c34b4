-- What holds of an evidence that is known to be of its kind.
use Rattle.std.proofs.Common.{◌≡◌, Result, Ok, Err, IfOk, sym, subst}
use Rattle.toml.specs.Data.{Members}
use Rattle.ct_kind.specs.declared.evidence.Evidence.{Evidence}
use Rattle.ct_files.specs.Evidence.{IsSound}
use Rattle.ct_files.specs.Inside.Written.{evidence_table, HasIds}

-- it has the forms and ranges of its kind
pub sound-at : (given known : Evidence) → given ≡ known → IsSound given → IsSound known
sound-at given known is sound = subst IsSound is sound

-- its table is that of its kind
pub table-at : {T E : Type 0} (view : T → Members) (given known : Evidence) (r : Result T E) → given ≡ known → IfOk r (λ t. view t ≡ evidence_table known)
    → IfOk r (λ t. view t ≡ evidence_table given)
table-at view given known r is told = subst (λ (e : Evidence). IfOk r (λ t. view t ≡ evidence_table e)) (sym is) told

-- its names of pieces are ids
pub ids-at : {T E : Type 0} (given known : Evidence) (r : Result T E) → given ≡ known → HasIds known → IfOk r (λ t. HasIds given)
ids-at given known (Ok t) is ids = subst HasIds (sym is) ids
ids-at given known (Err e) is ids = tt
