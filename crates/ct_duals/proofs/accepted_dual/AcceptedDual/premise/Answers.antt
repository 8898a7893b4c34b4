-- The entry at the place.
use Rattle.std.proofs.Common.{Some, ap, sym, ◌∙◌}
use Rattle.std.specs.Prelude.{ℕ, ℤ, List, slice_get, option_map}
use Rattle.ct_words.specs.declared.entry.Entry.{Entry}
use Rattle.ct_duals.specs.Bound.{AcceptedValue, dual_premises, positive}
use Rattle.ct_duals.proofs.Premises.{premise_there, small_index}
use Rattle.ct_duals.proofs.accepted_dual.AcceptedDual.premise.Goals as goal

pub premise_at-requires-clause-index : goal.premise_at-requires-clause-index
premise_at-requires-clause-index c =
    small_index c.self.inside.dual c.args.place c.in_ok-i.i c.self.invariant.accepted.form
    (ap (λ (y : List (ℕ × ℤ)). option_map (λ p. p.0) (slice_get (positive y) c.args.place)) (sym c.as_slice.ensures) ∙ sym c.in_ok-i.ensures)

pub returns : goal.returns
returns c =
    ap (λ (e : Entry). Some e) c.premise_at.ensures
    ∙ sym (premise_there c.self.inside.dual c.args.place c.in_ok-i.i
    (ap (λ (y : List (ℕ × ℤ)). option_map (λ p. p.0) (slice_get (positive y) c.args.place)) (sym c.as_slice.ensures) ∙ sym c.in_ok-i.ensures))
    ∙ ap (λ (a : AcceptedValue). slice_get (dual_premises a.dual) c.args.place) c.self.view_is
