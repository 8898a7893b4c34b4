-- A sink, and what is gathered for it: the two as one.
use Rattle.std.specs.Prelude.{◌≡◌, ◌≤◌, ℕ, List, ◌++◌, Option, Result, Ok, Err}
use Rattle.std.specs.Io.KnownBytes.{Appends, append_known}
use Rattle.ct_io.specs.Faults.{Rose}
use Rattle.ct_io.specs.Told.{AppendsProperPrefix}
use Rattle.ct_io.specs.declared.failed.Failed.{Failed}

-- what a sink holds, where it tells it, what is gathered for it and not yet written, and the sink's count of faults
pub record Buffered : Type 0 where
  pub held : Option (List ℕ)
  pub gathered : List ℕ
  pub faults : ℕ

-- a sink of a kind whose bytes and faults are these, with what is gathered for it
abbrev pub buffered : {K : Type 0} → (K → Option (List ℕ)) → (K → ℕ) → K → List ℕ → Buffered
buffered holds faults sink gathered = record { held = holds sink; gathered = gathered; faults = faults sink }

-- what was put so far: what the sink holds, and what is gathered after it
abbrev pub all_put : Buffered → Option (List ℕ)
all_put b = append_known b.held b.gathered

-- a text was put: of what was gathered and the text after it a part from the beginning on was written, and the rest is gathered
pub record Puts (old new : Buffered) (text : List ℕ) : Type 0 where
  pub written : List ℕ
  pub parted : old.gathered ++ text ≡ written ++ new.gathered
  pub wrote : Appends old.held new.held written
  pub counted : old.faults ≤ new.faults

-- the sink failed: of what was gathered and the text after it a part from the beginning on was written, or nothing, and some is left
pub record Stops (old new : Buffered) (text : List ℕ) : Type 0 where
  pub part : AppendsProperPrefix old.held new.held (old.gathered ++ text)
  pub rose : Rose old.faults new.faults
  pub counted : old.faults ≤ new.faults

-- a text was put, or the sink failed on the way
abbrev pub IsPut : Buffered → Buffered → List ℕ → Result (Unit {0}) Failed → Type 0
IsPut old new text (Ok done) = Puts old new text
IsPut old new text (Err failed) = Stops old new text
