-- A step of the sample's run.
use Rattle.std.proofs.Common.{◌≡◌, ℕ, suc, ◌+◌, ◌<◌, ◌≤◌, ◌^◌, List, Option, sym, ap, ◌∙◌, subst, arith}
use Rattle.std.specs.Prelude.{IfSome}
use Rattle.ct_piece.specs.Piece.{PieceValue}
use Rattle.ct_sample.specs.Random.{next, seed, drawn}
use Rattle.ct_sample.specs.Command.{command_drawn}
use Rattle.ct_sample.specs.Inside.Sound.{IsSoundCommand}
use Rattle.ct_sample.specs.Run.{RunValue, without_documents, after_command, run_to}
use Rattle.ct_sample.specs.declared.command.Command.{Command}
use Rattle.ct_sample.proofs.WithoutDocuments.{command_of-without_documents}
use Rattle.ct_sample.proofs.DrawnSound.{AreEntries}
use Rattle.ct_sample.proofs.Running.{running, command-sound, counts-le}

pub command_is : (step h : ℕ) (ps : List PieceValue) (run : RunValue) (command : Option Command) → without_documents ps ≡ run.pieces → command ≡ command_drawn step h ps
    → command ≡ command_drawn step h run.pieces
command_is step h ps run command is made = made ∙ sym (command_of-without_documents step h ps) ∙ ap (command_drawn step h) is

pub sound_step : (number before step h : ℕ) (run : RunValue) (command : Option Command) → run ≡ run_to number before → command ≡ command_drawn step h run.pieces
    → IfSome command IsSoundCommand
sound_step number before step h run command is made =
    let entries : AreEntries run.pieces = subst (λ (r : RunValue). AreEntries r.pieces) (sym is) (running number before).entries in
    subst (λ (k : Option Command). IfSome k IsSoundCommand) (sym made) (command-sound step h run.pieces entries)

pub room_step : (number before : ℕ) (run : RunValue) → run ≡ run_to number before → before < number → number < 2 ^ 32
    → run.accepted + run.withdrawn + 1 < 2 ^ 32
room_step number before run is below small =
    let counted : run.accepted + run.withdrawn ≤ before = subst (λ (r : RunValue). r.accepted + r.withdrawn ≤ before) (sym is) (counts-le number before) in
    omega (arith, counted, below, small)

pub seed_step : (number before old new : ℕ) → old ≡ seed number before → new ≡ next old → new ≡ seed number (before + 1)
seed_step number before old new is made =
    let one : before + 1 ≡ suc before = omega arith in
    made ∙ ap next is ∙ ap (seed number) (sym one)

pub run_step : (number before h : ℕ) (run new : RunValue) (command : Option Command) → run ≡ run_to number before → h ≡ drawn number (before + 1)
    → command ≡ command_drawn (before + 1) h run.pieces → new ≡ after_command run command → new ≡ run_to number (before + 1)
unfolding run_to
run_step number before h run new command is drew made left =
    let one : before + 1 ≡ suc before = omega arith in
    let at : command ≡ command_drawn (suc before) (drawn number (suc before)) (run_to number before).pieces =
    made ∙ ap (λ (k : ℕ). command_drawn (before + 1) k run.pieces) drew ∙ ap (λ (k : ℕ). command_drawn k (drawn number k) run.pieces) one
    ∙ ap (λ (r : RunValue). command_drawn (suc before) (drawn number (suc before)) r.pieces) is in
    left ∙ ap (after_command run) at
    ∙ ap (λ (r : RunValue). after_command r (command_drawn (suc before) (drawn number (suc before)) (run_to number before).pieces)) is
    ∙ ap (run_to number) (sym one)
