-- The texts of faults of builds.
use Rattle.std.specs.Prelude.{ℕ, List, [], ◌++◌, codes}
use Rattle.ct_text.specs.Number.{spaced}
use Rattle.ct_build.specs.declared.fault.BuildFault.{BuildFault}
use Rattle.ct_build.specs.declared.fault.BuildFault.TheVariants as build

-- why a build makes no code; a wrong part is told by its id, and so it and want of memory have no text here
abbrev pub build_fault_text : BuildFault → List ℕ
build_fault_text (build.WrongPart i) = []
build_fault_text (build.Short have want) = codes "short" ++ spaced have ++ spaced want
build_fault_text (build.Size c) = codes "size" ++ spaced c
build_fault_text (build.Few have want) = codes "few" ++ spaced have ++ spaced want
build_fault_text build.Empty = codes "empty"
build_fault_text build.Memory = []
