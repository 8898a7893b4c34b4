-- The commands of the sample.
use Rattle.std.specs.Prelude.{ℕ, ◌%◌, ◌==◌, Bool, not, if◌then◌else◌, List, ◌++◌, find, Option, Some, option_map, codes}
use Rattle.std.specs.List.{list_any}
use Rattle.std.specs.Fmt.{decimal}
use Rattle.ct_files.specs.ByKind.{names}
use Rattle.ct_piece.specs.Piece.{PieceValue}
use Rattle.ct_sample.specs.Drawn.{drawn_evidence}
use Rattle.ct_sample.specs.declared.command.Command.{Command}
use Rattle.ct_sample.specs.declared.command.Command.TheVariants.{Submit, Withdraw}

-- the id of a step's piece: `s` and the number of the step
abbrev pub step_id : ℕ → List ℕ
step_id step = codes "s" ++ decimal step

-- whether one of the pieces names the id
abbrev pub is_used : List PieceValue → List ℕ → Bool
is_used pieces id = list_any (λ q. names q.evidence id) pieces

-- the id of the first of the pieces that none of them names, where there is one
abbrev pub first_unused : List PieceValue → Option (List ℕ)
first_unused pieces = option_map (λ p. p.id) (find (λ p. not (is_used pieces p.id)) pieces)

-- the command of a step, which draws h, over the pieces that stand: each third step withdraws the first piece that none names, where there is one; the
-- others submit
abbrev pub command_drawn : ℕ → ℕ → List PieceValue → Option Command
command_drawn step h pieces = if step % 3 == 0 then option_map Withdraw (first_unused pieces) else Some (Submit (step_id step) (drawn_evidence h pieces))
