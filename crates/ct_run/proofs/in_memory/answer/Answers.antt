use Rattle.std.proofs.Common.{ℕ, List, drop, sym, ap, ◌∙◌}
use Rattle.std.specs.declared.vec.Vec.{Vec}
use Rattle.std.specs.declared.alloc.Global.{Global}
use Rattle.ct_io.specs.declared.mem_source.MemSource.{MemSource}
use Rattle.ct_run.proofs.Answered.{answered}
use Rattle.ct_run.proofs.in_memory.answer.Goals as goal

pub returns : goal.returns
returns c =
    let source = c.new-source.result in
    let left : MemSource → List ℕ = λ s. drop s.at s.bytes.items in
    let same =
    ap (λ (k : ℕ). drop k source.bytes.items) c.new-source.ensures.at ∙ ap (λ (bytes : Vec ℕ Global). bytes.items) c.new-source.ensures.bytes in
    let run = c.run-status.ensures in
    record {
      answer =
          answered _ c.args.input.items (left source) (left c.run-status.new.source) c.new-2.result.items c.run-status.new.sink.bytes.items c.run-status.result same
          c.new-2.ensures.items
          (record {
            run = run.run;
            to_end = run.to_end;
            too_long = run.too_long;
            no_command = run.no_command;
            usage_only_then = run.usage_only_then;
            unread = λ e. ap left (run.unread e);
          })
          (sym c.has_failed.ensures ∙ c.if-has_failed.false);
    }
