-- What a run over bytes in memory gives.
use Rattle.std.proofs.Common.{◌≡◌, ◌⊎◌, ◌≤◌, ◌<◌, ◌+◌, ◌↔◌, ℕ, Bool, true, false, List, [], ◌∷◌, ◌++◌, length, Option, Some, None, IfSome, IfNone, IsSome, IsNone, inl, inr, refl, sym, ap, subst, ◌∙◌, arith}
use Rattle.std.specs.Prelude.{◌≢◌, nat_lt, option_map}
use Rattle.std.proofs.lemmas.Bool.{ltb-false, ltb-true}
use Rattle.std.specs.Io.KnownBytes.{IsAtEnd}
use Rattle.ct_io.specs.declared.TheConstants.{MAX_INPUT}
use Rattle.ct_io.specs.Told.{IsAboveLimit}
use Rattle.ct_command_line.specs.declared.mode.Mode.{Mode}
use Rattle.ct_command_line.specs.declared.mode.Mode.TheVariants.{Session, Verify, Find, Sample}
use Rattle.ct_run.specs.declared.status.Status.{Status}
use Rattle.ct_run.specs.declared.status.Status.TheVariants.{Done, Refused, Usage, ReadFault, WriteFault, TooLong, Memory}
use Rattle.ct_run.specs.Mode.{reads, status_of, IsOutput, IsRunStatus, WritesOutput}
use Rattle.ct_run.specs.Exit.{has_failed}
use Rattle.ct_run.specs.Program.{WritesUsage}
use Rattle.ct_run.specs.Answer.{IsAnswer, IsWholeOutput}
use Rattle.ct_run.proofs.Truths.{outputs_are_true}

-- what a run says of an input, of what is left of it, and of what a sink holds before and after it
pub record Says (named : Option Mode) (input left held output : List ℕ) (result : Status) : Type 0 where
  pub run : IfSome named (λ mode. IsRunStatus result → WritesOutput mode (Some input) (Some held) (Some output) result)
  pub to_end : option_map reads named ≡ Some true → IsRunStatus result → IsAtEnd (Some left)
  pub too_long : (result ≡ TooLong) ↔ IsAboveLimit input left
  pub no_command : IfNone named (WritesUsage result (Some held) (Some output))
  pub usage_only_then : result ≡ Usage → IsNone named
  pub unread : option_map reads named ≢ Some true → left ≡ input

used : (input output : List ℕ) (result : Status) → WritesUsage result (Some []) (Some output) → has_failed result ≡ false → IsAnswer None input output result
used input output Done h well = absurd h
used input output Refused h well = absurd h
used input output Usage h well = (refl, h)
used input output ReadFault h well = absurd h
used input output WriteFault h well = absurd cc
used input output TooLong h well = absurd h
used input output Memory h well = absurd cc

-- an input that was taken whole, and is not too long, is within the limit
within : (input left : List ℕ) (result : Status) → left ≡ [] → ((result ≡ TooLong) ↔ IsAboveLimit input left) → (result ≡ TooLong → ⊥) → length input ≤ MAX_INPUT
within input left result whole exact other =
    limited (nat_lt MAX_INPUT (length input)) refl (ap (λ (xs : List ℕ). length xs) whole) where
      above : MAX_INPUT < length input → length left ≡ 0 → IsAboveLimit input left
      above more none = omega (arith, more, none)

      limited : (b : Bool) → nat_lt MAX_INPUT (length input) ≡ b → length left ≡ 0 → length input ≤ MAX_INPUT
      limited true is none = absurd (other (exact.1 (above (ltb-true MAX_INPUT (length input) is) none)))
      limited false is none = ltb-false MAX_INPUT (length input) is

no_long : (result : Status) → IsRunStatus result → result ≡ TooLong → ⊥
no_long Done done e = cc
no_long Refused done e = cc
no_long Usage (inl h) e = cc
no_long Usage (inr h) e = cc
no_long ReadFault (inl h) e = cc
no_long ReadFault (inr h) e = cc
no_long WriteFault (inl h) e = cc
no_long WriteFault (inr h) e = cc
no_long TooLong (inl h) e = cc
no_long TooLong (inr h) e = cc
no_long Memory (inl h) e = cc
no_long Memory (inr h) e = cc

made : (mode : Mode) (input output : List ℕ) (result : Status) (text : List ℕ) (refused : Bool) → (reads mode ≡ true → length input ≤ MAX_INPUT) → IsOutput mode input text refused
    → result ≡ status_of refused → output ≡ [] ++ text → IsWholeOutput mode input output result
made mode input output result text refused small is status appends =
    let run = subst (λ (t : List ℕ). IsOutput mode input t refused) (sym appends) is in
    record { refused = refused; within = small; run = run; status = status; truth = outputs_are_true mode input output refused run }

-- an output of a mode that reads the input, or of one that doesn't, was written to an empty sink
whole : (mode : Mode) (input output : List ℕ) (result : Status) → (reads mode ≡ true → length input ≤ MAX_INPUT) → WritesOutput mode (Some input) (Some []) (Some output) result
    → IsWholeOutput mode input output result
whole Session input output result small (text, refused, is, status, appends) = made Session input output result text refused small is status appends
whole Verify input output result small (text, refused, is, status, appends) = made Verify input output result text refused small is status appends
whole Find input output result small (text, refused, is, status, appends) = made Find input output result text refused small is status appends
whole (Sample number) input output result small (text, refused, is, status, appends) = made (Sample number) input output result text refused small is status appends

too_long : (mode : Mode) (input left output : List ℕ) (b : Bool) → reads mode ≡ b → Says (Some mode) input left [] output TooLong → IsAnswer (Some mode) input output TooLong
too_long mode input left output true is says =
    let above = says.too_long.0 refl in
    inl (record { read = is; long = omega (arith, above) }, refl)
too_long mode input left output false is says =
    let above = says.too_long.0 refl in
    let same : length left ≡ length input = ap (λ (xs : List ℕ). length xs) (says.unread (λ e. cc)) in
    absurd (omega (arith, above, same))

ran_well : (mode : Mode) (input left output : List ℕ) (result : Status) → Says (Some mode) input left [] output result → IsRunStatus result → IsAnswer (Some mode) input output result
ran_well mode input left output result says done =
    inr
    (whole mode input output result
    (λ reading. within input left result (says.to_end (ap Some reading) done) says.too_long (no_long result done)) (says.run done))

ran : (mode : Mode) (input left output : List ℕ) (result : Status) → Says (Some mode) input left [] output result → has_failed result ≡ false → IsAnswer (Some mode) input output result
ran mode input left output Done says well = ran_well mode input left output Done says (inl refl)
ran mode input left output Refused says well = ran_well mode input left output Refused says (inr refl)
ran mode input left output Usage says well = absurd (let none = says.usage_only_then refl in cc)
ran mode input left output ReadFault says well = absurd cc
ran mode input left output WriteFault says well = absurd cc
ran mode input left output TooLong says well = too_long mode input left output (reads mode) refl says
ran mode input left output Memory says well = absurd cc

answered_at : (named : Option Mode) (input left output : List ℕ) (result : Status) → Says named input left [] output result → has_failed result ≡ false
    → IsAnswer named input output result
answered_at None input left output result says well = used input output result says.no_command well
answered_at (Some mode) input left output result says well = ran mode input left output result says well

-- so much is the answer
pub answered : (named : Option Mode) (input before left held output : List ℕ) (result : Status) → before ≡ input → held ≡ [] → Says named before left held output result
    → has_failed result ≡ false → IsAnswer named input output result
answered named input before left held output result same empty says well =
    subst (λ (bytes : List ℕ). IsAnswer named bytes output result) same
    (answered_at named before left output result (subst (λ (bytes : List ℕ). Says named before left bytes output result) empty says) well)
