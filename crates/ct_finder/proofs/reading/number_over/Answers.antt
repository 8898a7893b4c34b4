use Rattle.std.proofs.Common.{◌<◌, ◌^◌, ◌*◌, ◌/◌, ℕ, sym, ap₂, subst, ◌∙◌}
use Rattle.std.proofs.Math.Nat.{div-le_self, mul_comm}
use Rattle.ct_finder.proofs.ReadingLemmas.{product_small}
use Rattle.ct_finder.proofs.reading.number_over.Goals as goal

pub returns-clause-small_of : goal.returns-clause-small_of
returns-clause-small_of c =
    let constant = c.args.line.constant in
    let part = c.args.q / c.args.line.entry in
    subst (λ (n : ℕ). n < 2 ^ 126)
    (mul_comm part constant ∙ sym (ap₂ (λ (a b : ℕ). a * b) c.from.ensures c.from-2.ensures))
    (product_small part constant c.args.q (div-le_self c.args.q c.args.line.entry) c.requires.small.0 c.requires.small.1)
