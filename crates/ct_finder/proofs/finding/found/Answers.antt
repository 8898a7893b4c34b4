use Rattle.std.proofs.Common.{ℕ, List, sym, subst, ◌∙◌}
use Rattle.std.specs.Prelude.{ℤ}
use Rattle.ct_duals.specs.Dual.{IsDual}
use Rattle.ct_finder.proofs.finding.found.Goals as goal

pub bound-bound-requires-clause-form : goal.bound-bound-requires-clause-form
bound-bound-requires-clause-form c =
    subst (λ (y : List (ℕ × ℤ)). IsDual (record { entry = c.args.entry; even = c.args.even; c = c.args.c; y = y }))
    (sym (c.from_vec-y.ensures ∙ c.new.ensures.items)) c.requires.form
