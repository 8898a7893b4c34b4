-- What the check of evidence gives.
use Rattle.std.specs.Prelude.{◌≡◌, ◌≢◌, ℕ, List, Option, Some, None, Result, IfOk, IfErr, IfSome, OnOk}
use Rattle.ct_words.specs.declared.entry.Entry.{Entry}
use Rattle.ct_words.specs.Code.{CodeValue}
use Rattle.ct_rule_parts.specs.declared.support.Support.{Support}
use Rattle.ct_rule_parts.specs.declared.support.Support.TheVariants.{Nothing}
use Rattle.ct_kind.specs.declared.evidence.Evidence.{Evidence}
use Rattle.ct_kind.specs.declared.fault.SubmitFault.{SubmitFault}
use Rattle.ct_kind.specs.declared.fault.SubmitFault.TheVariants as fault
use Rattle.ct_kind.specs.KindParts.{support_from}
use Rattle.ct_kind.specs.Named.{NamedCode}
use Rattle.ct_files.specs.ByKind.{kind_of, size_over, evidence_reason, kept_over}
use Rattle.ct_files.specs.declared.checked.Checked.{Checked}

-- what is kept where this code is, once it is made: nothing, or exactly this code
abbrev pub IsKept : Option CodeValue → Option CodeValue → Type 0
IsKept kept code = IfSome kept (λ k. code ≡ Some k)

-- of a code of the entry with so many words, which is not kept
abbrev pub code_checked : Entry → ℕ → Checked
code_checked e size = record { size = Some size; kept = None; support = support_from e (Some size) }

-- of a partition with so many words
abbrev pub classes_checked : ℕ → Checked
classes_checked count = record { size = Some count; kept = None; support = Nothing }

-- of a dual that gives this
abbrev pub dual_checked : Support → Checked
dual_checked support = record { size = None; kept = None; support = support }

-- the check of evidence over these codes gives this: the size of its piece, what may be kept beside it and what it gives to a table, where there is
-- no reason against it, or else the first reason
pub record IsCheck (known : List NamedCode) (evidence : Evidence) (checked : Result Checked SubmitFault) : Type 0 where
  pub size : IfOk checked (λ c. c.size ≡ size_over known evidence)
  pub kept : IfOk checked (λ c. IsKept c.kept (kept_over known evidence))
  pub support : IfOk checked (λ c. c.support ≡ (kind_of evidence).gives c.size)
  pub accepted : OnOk checked (evidence_reason known evidence ≡ None)
  pub fault : IfErr checked (λ f. f ≢ fault.Memory → evidence_reason known evidence ≡ Some f)
