-- What passes the tests has the form, and nothing else.
use Rattle.std.proofs.Common.{sym, ◌∙◌}
use Rattle.ct_duals.proofs.FormLemmas.{form-from, form-to}
use Rattle.ct_duals.proofs.dual.Dual.is_formed.Goals as goal

pub returns-clause-form : goal.returns-clause-form
returns-clause-form c = (
  λ passes. form-from c.args.self.now (sym c.is_dual.ensures ∙ passes),
  λ form. c.is_dual.ensures ∙ form-to c.args.self.now form,
)
