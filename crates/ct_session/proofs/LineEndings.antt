-- A line that could not be answered ends the session.
use Rattle.std.proofs.Common.{ℕ, ◌≤◌, List, [], ◌∷◌, Option, Err, inl, inr}
use Rattle.ct_io.specs.Buffered.{Buffered}
use Rattle.ct_io.specs.declared.TheConstants.{MAX_INPUT}
use Rattle.ct_io.specs.Reader.{Reader, input_of}
use Rattle.ct_io.specs.declared.run_fault.RunFault.{RunFault}
use Rattle.ct_session.specs.Inside.Serving.{Devices, EndsAt, LeavesFew, Serves, Took}
use Rattle.ct_session.specs.Inside.State.{State, TakesLines}
use Rattle.ct_session.specs.Inside.Writing.{BreaksOffAt}
use Rattle.ct_session.proofs.Serving.{with_text, stops_later}
use Rattle.ct_session.proofs.Endings.{ends_broken, ends_unwritten}

pub ends_at_line : (r q : Reader) (s t : State) (b n : Devices) (next : Option (List ℕ)) (reads : ℕ) (k : Buffered) (line : List ℕ) (m : ℕ) (fault : RunFault)
    → Serves r s b n → Took b.left next m → m ≤ MAX_INPUT → LeavesFew (input_of r n.left) next
    → ((text : List ℕ) → TakesLines s t (line ∷ []) text → Serves q t b (record { left = next; reads = reads; sink = with_text n.sink text }))
    → BreaksOffAt fault s t line n.sink k → EndsAt (Err fault) b (record { left = next; reads = reads; sink = k })
ends_at_line r q s t b n next reads k line m fault h took few rest serves (inl w) = ends_broken r s b n next reads k m fault h took few rest w
ends_at_line r q s t b n next reads k line m fault h took few rest serves (inr w) =
    ends_unwritten q t b (record { left = next; reads = reads; sink = with_text n.sink w.0 }) k fault (serves w.0 w.1) (stops_later n.sink k w.0 w.3) w.2
