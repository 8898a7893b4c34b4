use Rattle.std.proofs.Common.{sym, ap, ◌∙◌}
use Rattle.ct_rules.specs.Removal.{marked, without}
use Rattle.ct_piece.specs.Supports.{supports_of}
use Rattle.ct_ledger.proofs.LeftSupports.{supports-along}
use Rattle.ct_ledger.proofs.ledger.Ledger.withdraw_all.Goals as goal

pub invariant_of-self-2 : goal.invariant_of-self-2
invariant_of-self-2 c =
    let gone = c.deref.ensures.value ∙ c.in_ok-gone.ensures.marks in
    c.in_ok-remove_all.ensures.supports
    ∙ (λ i. without (marked (gone i)) (c.self.invariant i))
    ∙ supports-along c.self.inside.pieces c.args.id ∙ ap supports_of (sym c.take_out_all.ensures.pieces)
