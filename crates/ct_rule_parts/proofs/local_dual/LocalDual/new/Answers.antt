-- The indices of the dual are within the degree.
use Rattle.std.proofs.Common.{◌≤◌, All, sym, subst, ap, ◌∙◌}
use Rattle.std.specs.Prelude.{ℕ, ℤ, List}
use Rattle.ct_words.specs.declared.entry.Entry.{Entry}
use Rattle.ct_duals.specs.declared.dual.Dual.{Dual}
use Rattle.ct_duals.specs.Dual.{degree_of}
use Rattle.ct_duals.proofs.Premises.{indices_within}
use Rattle.ct_rule_parts.proofs.local_dual.LocalDual.new.Goals as goal

pub doubly_uppers-requires-clause-indices : goal.doubly_uppers-requires-clause-indices
doubly_uppers-requires-clause-indices c =
    let d = c.args.dual.dual in
    let pairs = c.as_slice.ensures ∙ ap (λ (e : Dual). e.y) c.dual.ensures.value in
    subst (λ (e : Entry). All (λ (p : ℕ × ℤ). p.0 ≤ degree_of e) c.as_slice.result.now) (sym c.entry.ensures.value)
    (subst (λ (y : List (ℕ × ℤ)). All (λ (p : ℕ × ℤ). p.0 ≤ degree_of d.entry) y) (sym pairs) (indices_within d c.dual.ensures.accepted.form))
