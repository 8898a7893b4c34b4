-- What a step of a reading answers, where it gives what is found, or else its fault.
use Rattle.std.proofs.Common.{◌≡◌, Option, Some, None, option_map, is_some, Result, ok_or, is_ok, refl, sym, ap, subst}
use Rattle.ct_fields.specs.Reads.{Reads}
use Rattle.ct_fields.specs.declared.fault.DocumentFault.{DocumentFault}

-- what is found is what is read
pub found-reads : {X Y : Type 0} (view : X → Y) (found : Option X) (read : Option Y) (fault : DocumentFault) → option_map view found ≡ read
    → Reads view (ok_or found fault) (ok_or read fault)
found-reads view None read fault is = λ _. ap (λ o. ok_or o fault) (sym is)
found-reads view (Some x) read fault is = ap (λ o. ok_or o fault) (sym is)

-- where the step is to read that
pub reads-found : {X Y : Type 0} (view : X → Y) (result : Result X DocumentFault) (found : Option X) (read : Option Y) (fault : DocumentFault)
    (all : Result Y DocumentFault) → result ≡ ok_or found fault → option_map view found ≡ read → ok_or read fault ≡ all → Reads view result all
reads-found {X} {Y} view result found read fault all result-is is all-is =
    subst (λ (r : Result X DocumentFault). Reads view r all) (sym result-is)
    (subst (λ (r : Result Y DocumentFault). Reads view (ok_or found fault) r) all-is (found-reads view found read fault is))

-- something is found exactly where a step gives something
pub is_found : {X : Type 0} (found : Option X) (fault : DocumentFault) → is_some found ≡ is_ok (ok_or found fault)
is_found None fault = refl
is_found (Some x) fault = refl
