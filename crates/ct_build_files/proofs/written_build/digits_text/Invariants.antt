use Rattle.std.proofs.Common.{◌≡◌, ◌++◌, drop}
use Rattle.ct_build_files.specs.WrittenBuild.{digits_text}
use Rattle.ct_build_files.proofs.written_build.digits_text.Given as goal

abbrev pub invariant-loop-digit : goal.invariant-loop-digit
invariant-loop-digit l = l.text.items ++ digits_text (drop l.digit-index l.digits) ≡ digits_text l.digits
