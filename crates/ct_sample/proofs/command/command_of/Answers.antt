use Rattle.std.proofs.Common.{◌≡◌, ◌==◌, ◌%◌, ℕ, List, Bool, true, false, Some, option_map, sym, ap, ap₂, ◌∙◌}
use Rattle.std.specs.Prelude.{if◌then◌else◌}
use Rattle.std.proofs.lemmas.Bool.{eq-eqb, ne_eqb}
use Rattle.ct_kind.specs.declared.evidence.Evidence.{Evidence}
use Rattle.ct_piece.specs.Piece.{PieceValue}
use Rattle.ct_sample.specs.Drawn.{drawn_evidence}
use Rattle.ct_sample.specs.Command.{step_id, first_unused, command_drawn}
use Rattle.ct_sample.specs.declared.command.Command.TheVariants.{Submit, Withdraw}
use Rattle.ct_sample.proofs.command.command_of.Goals as goal
use Rattle.ct_sample.proofs.command.command_of.Goals.{in-Some, in-None}

-- the command by whether the step is a third one
by_step : (step h : ℕ) (pieces : List PieceValue) (b : Bool) → (step % 3 == 0) ≡ b
    → command_drawn step h pieces ≡ (if b then option_map Withdraw (first_unused pieces) else Some (Submit (step_id step) (drawn_evidence h pieces)))
by_step step h pieces b is =
    ap (λ (t : Bool). if t then option_map Withdraw (first_unused pieces) else Some (Submit (step_id step) (drawn_evidence h pieces))) is

pub returns-then-step-eq0 : goal.returns-then-step-eq0
returns-then-step-eq0 c =
    let third = by_step c.args.step c.args.h c.args.pieces.now true (eq-eqb (c.args.step % 3) 0 c.if-step-eq0.true) in
    elim c.match-first_unused.branch [
      | in-Some w ↦ w.result-is ∙ ap (option_map Withdraw) (sym w.in-Some.is ∙ c.first_unused.ensures) ∙ sym third
      | in-None w ↦ w.result-is ∙ ap (option_map Withdraw) (sym w.in-None.is ∙ c.first_unused.ensures) ∙ sym third
    ]

pub returns : goal.returns
returns c =
    ap₂ (λ (id : List ℕ) (e : Evidence). Some (Submit id e)) c.in_ok-id.ensures c.in_ok-evidence.ensures
    ∙ sym (by_step c.args.step c.args.h c.args.pieces.now false (ne_eqb (c.args.step % 3) 0 c.if-step-eq0.false))
