use Rattle.std.proofs.Common.{option_copied}
use Rattle.ct_build.specs.Build.{built}
use Rattle.ct_kind.proofs.CodeAt.{code_at_answer}
use Rattle.ct_build_files.proofs.build_kind.stepped.Goals as goal

pub returns-clause-code : goal.returns-clause-code
returns-clause-code c =
    let applied = c.apply.ensures in
    code_at_answer c.args.entry (built c.args.step.now c.args.entry c.args.part.now (option_copied c.args.other)) c.apply.result applied.n applied.d applied.w applied.words applied.sound
