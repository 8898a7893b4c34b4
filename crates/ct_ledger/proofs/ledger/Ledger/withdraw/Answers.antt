use Rattle.std.proofs.Common.{List, Ok, ◌≡◌, sym, ap, ◌∙◌, subst}
use Rattle.std.specs.Prelude.{remove}
use Rattle.ct_rule_parts.specs.declared.support.Support.{Support}
use Rattle.ct_ledger.specs.Ledger.{LedgerValue}
use Rattle.ct_piece.specs.Withdrawal.{withdrawn}
use Rattle.ct_piece.specs.Supports.{supports_of}
use Rattle.ct_piece.proofs.SupportLemmas.{supports-remove}
use Rattle.ct_ledger.proofs.ledger.Ledger.withdraw.Goals as goal

pub invariant_of-self-2 : goal.invariant_of-self-2
invariant_of-self-2 c =
    let place = c.in_ok-place.place in
    c.in_ok-remove.ensures.supports ∙ ap (λ (s : List Support). remove s place) c.self.invariant
    ∙ sym (supports-remove c.self.inside.pieces place) ∙ ap supports_of (sym c.take_out.ensures.pieces)

pub returns-clause-left : goal.returns-clause-left
returns-clause-left c = subst (λ (l : LedgerValue). withdrawn l.pieces c.args.id ≡ Ok c.take_out.new.self) c.self.view_is c.take_out.ensures.left
