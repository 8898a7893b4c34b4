-- Inside a line reader: how one read's bytes come to those held.
use Rattle.std.specs.Prelude.{◌≡◌, ◌≢◌, ◌≤◌, ℕ, List, ◌++◌, length, max, Option, Result, Err, IfOk, OnErr}
use Rattle.std.specs.Io.KnownBytes.{Consumes, IsAtEnd, Keeps}
use Rattle.ct_io.specs.declared.line_fault.LineFault.{LineFault}
use Rattle.ct_io.specs.declared.line_fault.LineFault.TheVariants.{ReadFault, TooLong}
use Rattle.ct_io.specs.Faults.{Rose}
use Rattle.ct_io.specs.Inside.Buffer.{Buffer}

-- the bytes held grow by n bytes that were left, and by none only at the end
abbrev pub FillsBy : List ℕ → List ℕ → Option (List ℕ) → Option (List ℕ) → ℕ → Type 0
FillsBy old new before after n =
    (bytes : List ℕ) × Consumes before after bytes × (new ≡ old ++ bytes) × (length bytes ≡ n) × (n ≡ 0 → IsAtEnd after)

-- what a read of a piece comes to: how the bytes held grow, that none is lost at a fault, what the memory keeps, and when each fault comes
pub record Fills (old new : Buffer) (piece : ℕ) (before after : Option (List ℕ)) (faults faults' : ℕ) (result : Result ℕ LineFault) : Type 0 where
  pub read : IfOk result (FillsBy old.bytes new.bytes before after)
  pub within : IfOk result (λ n. n ≤ piece)
  pub same : OnErr result (new.bytes ≡ old.bytes)
  pub kept : new.kept ≤ max old.kept (length new.bytes)
  pub all_kept : length new.bytes ≤ new.kept
  pub untaken : OnErr result (Keeps before after)
  pub failed : result ≡ Err ReadFault → Rose faults faults'
  pub short : (t : ℕ) → result ≢ Err (TooLong t)
  pub counted : faults ≤ faults'
