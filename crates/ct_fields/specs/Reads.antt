-- What a step of the reading answers.
use Rattle.std.specs.Prelude.{◌≡◌, ◌≢◌, ℕ, List, map, Result, Ok, Err}
use Rattle.std.specs.Borrow.{Bor}
use Rattle.ct_fields.specs.declared.fault.DocumentFault.{DocumentFault}
use Rattle.ct_fields.specs.declared.fault.DocumentFault.TheVariants.{Memory}

-- the answer, seen by view, is what is read, unless memory ran out
abbrev pub Reads : {X Y : Type 0} → (X → Y) → Result X DocumentFault → Result Y DocumentFault → Type 0
Reads view (Ok x) read = read ≡ Ok (view x)
Reads view (Err fault) read = fault ≢ Memory → read ≡ Err fault

-- the texts to which the references lead
abbrev pub texts_behind : List (Bor (List ℕ)) → List (List ℕ)
texts_behind references = map (λ r. r.now) references
