use Rattle.std.proofs.Common.{arith, ◌≡◌, ℕ, List, sym, subst, ◌∙◌}
use Rattle.std.specs.Prelude.{IsTrue}
use Rattle.std.proofs.lemmas.Bool.{false≢true}
use Rattle.ct_names.specs.Id.{is_id}
use Rattle.ct_sample.specs.Command.{step_id}
use Rattle.ct_sample.proofs.StepIds.{step_id-is}
use Rattle.ct_sample.proofs.command.step_id.Goals as goal

pub unreachable-requires : goal.unreachable-requires
unreachable-requires c =
    let small = c.ranges.step.fits in
    let text : c.deref.result.now ≡ step_id c.args.step = c.deref.ensures.value ∙ rw (c.from.ensures, c.in_ok-text.ensures.items) at c.in_ok-put_number.ensures.ok in
    let is : IsTrue (is_id c.deref.result.now) = subst (λ (t : List ℕ). IsTrue (is_id t)) (sym text) (step_id-is c.args.step (omega (arith, small))) in
    false≢true (c.in_default.ensures.exactly.1 is)
