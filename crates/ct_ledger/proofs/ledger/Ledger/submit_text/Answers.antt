use Rattle.std.proofs.Common.{List, [], ◌∷◌, ◌++◌, ap, sym, ◌∙◌}
use Rattle.ct_rule_parts.specs.declared.support.Support.{Support}
use Rattle.ct_ledger.specs.Ledger.{LedgerValue}
use Rattle.ct_ledger.proofs.AddedPieces.{adds_so}
use Rattle.ct_ledger.proofs.ledger.Ledger.submit_text.Goals as goal

pub put_support-requires-clause-last : goal.put_support-requires-clause-last
put_support-requires-clause-last c =
    c.in_ok-new_piece.ensures.supports ∙ ap (λ (ss : List Support). ss ++ c.in_ok-new_piece.new_piece.support ∷ []) (sym c.self.invariant)

pub returns-clause-accepted : goal.returns-clause-accepted
returns-clause-accepted c =
    adds_so c.self.inside.pieces c.args.self.now.pieces c.submit_text.new.self c.put_support.new.pieces c.args.id c.args.document c.in_ok-new_piece.new_piece.size
    (ap (λ (l : LedgerValue). l.pieces) c.self.view_is) c.in_ok-put_support.ensures.kept c.in_ok-new_piece.ensures.accepted
