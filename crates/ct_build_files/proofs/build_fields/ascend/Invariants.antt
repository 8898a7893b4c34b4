use Rattle.std.proofs.Common.{◌≡◌, drop}
use Rattle.ct_build_files.specs.BuildFields.{ascend}
use Rattle.ct_build_files.proofs.build_fields.ascend.Given as goal

abbrev pub invariant-loop-number : goal.invariant-loop-number
invariant-loop-number l = ascend l.low l.high (drop l.number-index l.numbers) ≡ ascend 0 l.high l.numbers
