-- What is said of a run whose words are no command.
use Rattle.std.proofs.Common.{◌≡◌, ℕ, List, Option, None, inl, inr, refl, subst}
use Rattle.ct_io.specs.Faults.{Rose}
use Rattle.ct_run.specs.declared.status.Status.{Status}
use Rattle.ct_run.specs.declared.status.Status.TheVariants.{Done, Refused, Usage, ReadFault, WriteFault, TooLong, Memory}
use Rattle.ct_run.specs.Mode.{IsRunStatus}
use Rattle.ct_run.specs.Program.{WritesUsage}
use Rattle.ct_run.specs.Inside.Ran.{Ran}
use Rattle.ct_run.proofs.Sampling.{none_above, none_past}

no_run_status : (s : Status) (old new : Option (List ℕ)) → WritesUsage s old new → IsRunStatus s → ⊥
no_run_status Done old new h done = h
no_run_status Refused old new h done = h
no_run_status Usage old new h (inl e) = cc
no_run_status Usage old new h (inr e) = cc
no_run_status ReadFault old new h done = h
no_run_status WriteFault old new h (inl e) = cc
no_run_status WriteFault old new h (inr e) = cc
no_run_status TooLong old new h done = h
no_run_status Memory old new h (inl e) = cc
no_run_status Memory old new h (inr e) = cc

nothing_read : (s : Status) (old new : Option (List ℕ)) → WritesUsage s old new → s ≡ ReadFault → ⊥
nothing_read s old new h e = subst (λ (t : Status). WritesUsage t old new) e h

nothing_taken : (s : Status) (old new : Option (List ℕ)) → WritesUsage s old new → s ≡ TooLong → ⊥
nothing_taken s old new h e = subst (λ (t : Status). WritesUsage t old new) e h

pub usage_ran : (s : Status) (left old new : Option (List ℕ)) (reads writes writes' : ℕ) → WritesUsage s old new → (s ≡ WriteFault → Rose writes writes')
    → Ran None s left left old new reads reads writes writes'
usage_ran s left old new reads writes writes' h rose = record {
  run = tt;
  to_end = λ reading done. absurd (no_run_status s old new h done);
  command = λ done. absurd (no_run_status s old new h done);
  prefix = tt;
  written_in_part = tt;
  after_read_fault = tt;
  after_too_long = tt;
  after_memory = tt;
  read_fault = λ e. absurd (nothing_read s old new h e);
  write_fault = rose;
  too_long = none_above left (s ≡ TooLong) (nothing_taken s old new h);
  one_read_past = none_past left;
  no_command = h;
  usage_only_then = λ e. refl;
  complete = tt;
}
