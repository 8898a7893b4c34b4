use Rattle.std.proofs.Common.{◌≡◌, ◌⊎◌, inl, ◌∙◌}
use Rattle.std.specs.Prelude.{◌≢◌}
use Rattle.std.proofs.lemmas.Result.{IfErr-at_err, IfErr-weaker, on_ok_weaker}
use Rattle.ct_io.specs.Faults.{Rose}
use Rattle.ct_io.specs.Told.{AppendsProperPrefix}
use Rattle.ct_io.specs.declared.run_fault.RunFault.{RunFault}
use Rattle.ct_sample.specs.Summary.{IsSampleOutput}
use Rattle.ct_sample.proofs.writing.write_sample.Goals as goal

pub returns-clause-written : goal.returns-clause-written
returns-clause-written g c =
    let output : IsSampleOutput c.args.number c.deref.result.now =
    record { summary = c.in_ok-summary.summary; sums = c.in_ok-summary.ensures; text = c.deref.ensures.value ∙ c.in_ok-text.ensures } in
    on_ok_weaker c.write_text.result (λ appends. (c.deref.result.now, output, appends)) c.write_text.ensures.written

pub returns-clause-written_in_part : goal.returns-clause-written_in_part
returns-clause-written_in_part g c = λ is.
    let output : IsSampleOutput c.args.number c.deref.result.now =
    record { summary = c.in_ok-summary.summary; sums = c.in_ok-summary.ensures; text = c.deref.ensures.value ∙ c.in_ok-text.ensures } in (
      c.deref.result.now,
      output,
      IfErr-at_err
          (λ fault. AppendsProperPrefix (g.K.Sink.holds c.args.sink.now) (g.K.Sink.holds c.write_text.new.sink) c.deref.result.now) is
          c.write_text.ensures.unwritten,
    )

pub returns-clause-unwritten : goal.returns-clause-unwritten
returns-clause-unwritten g c =
    IfErr-weaker c.write_text.result (λ (fault : RunFault). fault ≡ RunFault.Write)
    (λ fault. fault ≢ RunFault.Write → c.write_text.new.sink ≡ c.args.sink.now) (λ fault is other. absurd (other is)) c.write_text.ensures.fault

pub returns-clause-fault : goal.returns-clause-fault
returns-clause-fault g c =
    IfErr-weaker c.write_text.result (λ (fault : RunFault). fault ≡ RunFault.Write)
    (λ fault. (fault ≡ RunFault.Write) ⊎ (fault ≡ RunFault.Memory)) (λ fault is. inl is) c.write_text.ensures.fault

pub returns-clause-write_fault : goal.returns-clause-write_fault
returns-clause-write_fault g c = λ is.
    IfErr-at_err (λ fault. Rose (g.K.Sink.faults c.args.sink.now) (g.K.Sink.faults c.write_text.new.sink)) is c.write_text.ensures.failed
