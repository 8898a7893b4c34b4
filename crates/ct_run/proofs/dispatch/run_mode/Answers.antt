use Rattle.std.proofs.Common.{Some, ap}
use Rattle.ct_run.proofs.Statuses.{named_so}
use Rattle.ct_run.proofs.Sessions.{session_ran}
use Rattle.ct_run.proofs.Verifying.{kept_beside, verify_ran}
use Rattle.ct_run.proofs.Finding.{find_ran}
use Rattle.ct_run.proofs.Sampling.{sample_ran}
use Rattle.ct_run.proofs.dispatch.run_mode.Goals as goal

pub returns-in-Session-clause-ran : goal.returns-in-Session-clause-ran
returns-in-Session-clause-ran g c =
    let e = c.serve_session.ensures in
    rw c.result_status.ensures
    (named_so (ap Some c.in-Session.is)
    (session_ran c.serve_session.result _ _ _ _ _ _ _ _
    (record {
      run = e.run;
      to_end = e.to_end;
      prefix = e.prefix;
      written_in_part = e.written_in_part;
      taken_answered = e.taken_answered;
      last_bytes_unanswered = e.last_bytes_unanswered;
      whole_replies = e.whole_replies;
      read_fault = e.read_fault;
      write_fault = e.write_fault;
      too_long = e.too_long;
      one_read_past = e.one_read_past;
    })))

pub returns-in-Verify-clause-ran : goal.returns-in-Verify-clause-ran
returns-in-Verify-clause-ran g c =
    let e = c.verify_source.ensures in
    rw c.result_status-in-Verify.ensures
    (named_so (ap Some c.in-Verify.is)
    (verify_ran c.verify_source.result _ _ _ _ _ _ _ _ e.verdict e.written e.written_in_part (kept_beside g.K.Sink.holds _ _ c.verify_source.result e.unwritten)
    (record { to_end = e.to_end; read_fault = e.read_fault; write_fault = e.write_fault; too_long = e.too_long; one_read_past = e.one_read_past })))

pub returns-in-Find-clause-ran : goal.returns-in-Find-clause-ran
returns-in-Find-clause-ran g c =
    let e = c.find_source.ensures in
    rw c.result_status-in-Find.ensures
    (named_so (ap Some c.in-Find.is)
    (find_ran c.find_source.result _ _ _ _ _ _ _ _ e.written e.written_in_part (kept_beside g.K.Sink.holds _ _ c.find_source.result e.unwritten)
    (record { to_end = e.to_end; read_fault = e.read_fault; write_fault = e.write_fault; too_long = e.too_long; one_read_past = e.one_read_past })))

pub returns-in-Sample-clause-ran : goal.returns-in-Sample-clause-ran
returns-in-Sample-clause-ran g c =
    let e = c.write_sample.ensures in
    rw c.summary_status.ensures
    (named_so (ap Some c.in-Sample.is)
    (sample_ran c.in-Sample.number c.write_sample.result _ _ _ _ _ _ e.written e.written_in_part (kept_beside g.K.Sink.holds _ _ c.write_sample.result e.unwritten) e.fault e.write_fault))
