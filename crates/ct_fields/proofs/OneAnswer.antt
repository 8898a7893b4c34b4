-- A reading has one answer: a value or a fault; and the fault of a step is that of the whole.
use Rattle.std.proofs.Common.{◌≡◌, ◌≢◌, Result, Ok, Err, sym, ap, subst, ◌∙◌}
use Rattle.ct_fields.specs.Reads.{Reads}
use Rattle.ct_fields.specs.declared.fault.DocumentFault.{DocumentFault}
use Rattle.ct_fields.specs.declared.fault.DocumentFault.TheVariants.{Memory}

-- a value is no fault
pub value_no_fault : {A : Type 0} (x : A) (fault : DocumentFault) → ◌≡◌ {A = Result A DocumentFault} (Ok x) (Err fault) → ⊥
value_no_fault x fault e = cc

-- and is one value
pub same_value : {A : Type 0} (x y : A) → ◌≡◌ {A = Result A DocumentFault} (Ok x) (Ok y) → x ≡ y
same_value x y e = cc

-- the fault of a step is handed on as it is
pub handed_on : {X Y : Type 0} (view : X → Y) (r : Result X DocumentFault) (read : Result Y DocumentFault) (y fault : DocumentFault) → r ≡ Err y → y ≡ fault
    → (fault ≢ Memory → read ≡ Err fault) → Reads view r read
handed_on {X} view r read y fault is same told = subst (λ (answer : Result X DocumentFault). Reads view answer read) (sym (is ∙ ap Err same)) told
