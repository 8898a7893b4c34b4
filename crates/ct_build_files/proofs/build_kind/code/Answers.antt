use Rattle.std.proofs.Common.{Some, option_map, sym, ap, ◌∙◌}
use Rattle.ct_build_files.specs.BuildKind.{build_refusal}
use Rattle.ct_build_files.proofs.build_kind.code.Goals as goal

pub returns-in-Err-clause-fault : goal.returns-in-Err-clause-fault
returns-in-Err-clause-fault c = λ other.
    let b = c.args.build.now in
    let plain = c.refusal.ensures.memory other in
    ap (option_map (build_refusal b.part b.other)) (c.in-Err.ensures.fault plain) ∙ ap Some (sym (c.refusal.ensures.refusal plain))
