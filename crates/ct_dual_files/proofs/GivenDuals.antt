-- What an accepted dual gives to the table.
use Rattle.std.proofs.Common.{◌≡◌, Option, None, sym, ap, ◌∙◌}
use Rattle.ct_duals.specs.declared.dual.Dual.{Dual}
use Rattle.ct_duals.specs.declared.fault.DualFault.{DualFault}
use Rattle.ct_duals.specs.Bound.{AcceptedValue}
use Rattle.ct_rule_parts.specs.declared.support.Support.{Support}
use Rattle.ct_dual_files.specs.DualKind.{with_at_zero, support_by}

-- what is given by it, where there is no reason against it
pub given_by : (given : AcceptedValue → Support) (d : Dual) (accepted : AcceptedValue) (reason : Option DualFault) → accepted ≡ with_at_zero d
    → reason ≡ None → given accepted ≡ support_by given reason d
given_by given d accepted reason kept none = ap given kept ∙ ap (λ (o : Option DualFault). support_by given o d) (sym none)
