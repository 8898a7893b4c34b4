-- How far the serving of a session has come, and what a step of it comes to.
use Rattle.std.specs.Prelude.{◌≡◌, ◌⊎◌, ◌≤◌, ◌<◌, ◌-◌, ⊤, ℕ, Bool, true, false, List, [], ◌++◌, All, length, Option, Some, None, Result, Ok, Err}
use Rattle.std.specs.Io.KnownBytes.{Appends, Consumes, IsAtEnd}
use Rattle.ct_io.specs.Lines.{lines_of, IsLine, ended_lines}
use Rattle.ct_io.specs.declared.TheConstants.{MAX_INPUT, MAX_READ}
use Rattle.ct_io.specs.Reader.{Reader, PassesEmptyLines, input_of}
use Rattle.ct_io.specs.Buffered.{Buffered}
use Rattle.ct_io.specs.declared.run_fault.RunFault.{RunFault}
use Rattle.ct_session.specs.declared.serve.Step.{Step}
use Rattle.ct_session.specs.declared.serve.Step.TheVariants.{Line, End}
use Rattle.ct_session.specs.Serve.{AreFewMore}
use Rattle.ct_session.specs.Ending.{Ends}
use Rattle.ct_session.specs.Inside.State.{State, fresh_state, TakesLines}

-- the lines of an input are those that were taken, and those of the bytes that are left, where the source tells its bytes
abbrev pub Follows : Option (List ℕ) → Option (List ℕ) → List (List ℕ) → Type 0
Follows None now lines = ⊤
Follows (Some input) None lines = ⊥
Follows (Some input) (Some now) lines = lines_of input ≡ lines ++ lines_of now

-- of the bytes that a reader still has before it, and the source with it, few lines were taken from the source
abbrev pub LeavesFew : Option (List ℕ) → Option (List ℕ) → Type 0
LeavesFew None after = ⊤
LeavesFew (Some rest) after = AreFewMore (lines_of rest) after

-- known bytes lost n of them
abbrev pub Took : Option (List ℕ) → Option (List ℕ) → ℕ → Type 0
Took old new n = (bytes : List ℕ) × Consumes old new bytes × (n ≡ length bytes)

-- the bytes that were taken are lines that line feeds end, and those that are held
pub record Given (left now : Option (List ℕ)) (lines : List (List ℕ)) (held : List ℕ) : Type 0 where
  pub bytes : List ℕ
  pub taken : Consumes left now bytes
  pub divided : bytes ≡ ended_lines lines ++ held
  pub whole : All IsLine lines

-- what a source has left, where it tells it, its count of faults, and a sink with what is gathered for it
pub record Devices : Type 0 where
  pub left : Option (List ℕ)
  pub reads : ℕ
  pub sink : Buffered

-- a source of a kind whose bytes and faults are these, and a sink
abbrev pub devices : {S : Type 0} → (S → Option (List ℕ)) → (S → ℕ) → S → Buffered → Devices
devices left faults source sink = record { left = left source; reads = faults source; sink = sink }

-- the lines that were taken, what was written of the replies to them, the bytes that were taken, and the counts of faults
pub record Serves (r : Reader) (s : State) (begin now : Devices) : Type 0 where
  pub lines : List (List ℕ)
  pub written : List ℕ
  pub takes : TakesLines fresh_state s lines (written ++ now.sink.gathered)
  pub wrote : Appends begin.sink.held now.sink.held written
  pub follows : Follows begin.left (input_of r now.left) lines
  pub given : r.ended ≡ false → Given begin.left now.left lines r.held
  pub took : Took begin.left now.left r.taken
  pub within : r.taken ≤ MAX_INPUT
  pub inside : length r.held ≤ r.taken
  pub few : length r.held ≤ MAX_READ
  pub ended : r.ended ≡ true → IsAtEnd now.left
  pub healthy : r.fault ≡ None
  pub read_count : begin.reads ≤ now.reads
  pub write_count : begin.sink.faults ≤ now.sink.faults

-- empty lines that a reader holds were passed over, where no submission is open; or none were
abbrev pub PassesOver : State → Reader → Reader → Type 0
PassesOver s r q = ((s.pending ≡ None) × PassesEmptyLines r q) ⊎ (q ≡ r)

-- so many bytes at most are still to be given out as lines
abbrev pub unserved : Reader → ℕ
unserved r = MAX_INPUT - (r.taken - length r.held)

-- how serving ends, from these devices on
abbrev pub EndsAt : Result Bool RunFault → Devices → Devices → Type 0
EndsAt result begin now = Ends result begin.left now.left begin.sink.held now.sink.held begin.reads now.reads begin.sink.faults now.sink.faults

-- what a step comes to, after which the reader is q: a line was taken, and less is left; all of the input was taken; or the session is broken off
abbrev pub StepsTo : Result Step RunFault → Reader → Reader → State → Devices → Devices → Type 0
StepsTo (Ok Line) r q s begin now = Serves q s begin now × (unserved q < unserved r)
StepsTo (Ok End) r q s begin now = Serves q s begin now × (q.held ≡ []) × (q.ended ≡ true)
StepsTo (Err fault) r q s begin now = EndsAt (Err fault) begin now
