-- What a call of a line reader comes to, clause by clause.
use Rattle.std.specs.Prelude.{◌≡◌, ◌≢◌, ℕ, ◌+◌, ◌<◌, ◌≤◌, ◌⊎◌, true, false, List, [], length, max, Option, Some, None, Err, OnOk, OnErr, IfErr}
use Rattle.std.specs.Io.KnownBytes.{IsAtEnd, Keeps}
use Rattle.ct_io.specs.Lines.{IsLine}
use Rattle.ct_io.specs.declared.TheConstants.{MAX_INPUT, MAX_READ}
use Rattle.ct_io.specs.declared.line_fault.LineFault.{LineFault}
use Rattle.ct_io.specs.declared.line_fault.LineFault.TheVariants.{ReadFault, TooLong, Memory}
use Rattle.ct_io.specs.Faults.{Rose}
use Rattle.ct_io.specs.Reader.{Answer, Reader, IfLine, IfNoLine, IsLineThenRead, LosesFirstLine, LosesLine, NeedsNoRead, Takes, given_size, input_of, lasting_fault}

-- the input and its lines, the bytes that were taken, the memory, and the faults
pub record GivesNext {S : Type 0} (left : S → Option (List ℕ)) (count : S → ℕ) (old new : Reader) (before after : S) (result : Answer) : Type 0 where
  pub line : IfLine result (LosesLine (input_of old (left before)) (input_of new (left after)))
  pub lines : IfLine result (LosesFirstLine (input_of old (left before)) (input_of new (left after)))
  pub none : IfNoLine result (IsAtEnd (input_of old (left before)) × IsAtEnd (input_of new (left after)))
  pub kept : OnErr result (Keeps (input_of old (left before)) (input_of new (left after)))
  pub taken : Takes old new (left before) (left after) result
  pub end : old.ended ≡ false → new.ended ≡ true → IsAtEnd (left after)
  pub read_to_end : IfNoLine result ((new.held ≡ []) × (new.ended ≡ true))
  pub ended : old.ended ≡ true → new.ended ≡ true
  pub unread : NeedsNoRead old.held old.ended → (new.taken ≡ old.taken) × (after ≡ before)
  pub little : IfLine result (λ _. length new.held ≤ max (length old.held) MAX_READ)
  pub all_kept : length new.held ≤ new.kept
  pub dropped : new.kept ≤ max old.kept (length new.held + given_size result)
  pub read_fault : result ≡ Err ReadFault → (old.fault ≡ Some ReadFault) ⊎ Rose (count before) (count after)
  pub too_long : (t : ℕ) → result ≡ Err (TooLong t) → (t ≡ new.taken) × (MAX_INPUT < t)
  pub within : OnOk result (new.taken ≤ MAX_INPUT)
  pub one_read_past : new.taken ≤ MAX_INPUT + MAX_READ
  pub no_line_held : result ≡ Err ReadFault → IsLine new.held
  pub last_read : (t : ℕ) → result ≡ Err (TooLong t) → IsLineThenRead new.held
  pub unended : IfErr result (λ fault. fault ≢ Memory → new.ended ≡ false)
  pub above_limit : MAX_INPUT < new.taken → result ≡ Err (TooLong new.taken)
  pub remembered : new.fault ≡ lasting_fault result
  pub no_lasting_memory : result ≡ Err Memory → new.fault ≡ None
  pub few_at_memory : result ≡ Err Memory → (new.held ≡ old.held) ⊎ IsLineThenRead new.held
  pub stays : (f : LineFault) → old.fault ≡ Some f → (result ≡ Err f) × (new ≡ old) × (after ≡ before)
  pub counted : count before ≤ count after
