-- The texts of faults of words and of cosets.
use Rattle.std.specs.Prelude.{ℕ, List, [], ◌++◌, codes}
use Rattle.ct_text.specs.Number.{spaced}
use Rattle.ct_words.specs.declared.fault.CodeFault.{CodeFault}
use Rattle.ct_words.specs.declared.fault.CodeFault.TheVariants as code

-- why words are no code: the places count from 0, and the last number of `close` is the distance; want of memory has no text
abbrev pub code_fault_text : CodeFault → List ℕ
code_fault_text (code.Size c) = codes "size" ++ spaced c
code_fault_text (code.Weight i) = codes "weight" ++ spaced i
code_fault_text (code.Repeated i j) = codes "repeated" ++ spaced i ++ spaced j
code_fault_text (code.Close i j t) = codes "close" ++ spaced i ++ spaced j ++ spaced t
code_fault_text (code.Work v) = codes "work" ++ spaced v
code_fault_text code.Memory = []
