-- The texts of verdicts.
use Rattle.std.specs.Prelude.{ℕ, List, ◌++◌, codes}
use Rattle.ct_text.specs.Number.{spaced}
use Rattle.ct_files.specs.Refusal.{submit_fault_text}
use Rattle.ct_verify.specs.declared.verdict.Why.{Why}
use Rattle.ct_verify.specs.declared.verdict.Why.TheVariants.{Form, Rule, Premise, Value, Evidence}
use Rattle.ct_verify.specs.declared.verdict.Verdict.{Verdict}
use Rattle.ct_verify.specs.declared.verdict.Verdict.TheVariants.{Yes, No}

-- why a text line fails; a block of evidence by the text of its refusal
abbrev pub why_text : Why → List ℕ
why_text Form = codes "form"
why_text Rule = codes "rule"
why_text Premise = codes "premise"
why_text (Value stated given) = codes "value" ++ spaced stated ++ spaced given
why_text (Evidence fault) = codes "evidence " ++ submit_fault_text fault

-- a verdict: yes, or no LINE WHY
abbrev pub verdict_text : Verdict → List ℕ
verdict_text Yes = codes "yes"
verdict_text (No line why) = codes "no" ++ spaced line ++ codes " " ++ why_text why
