use Rattle.std.proofs.Common.{List, ℕ, ◌++◌, length, ap, ◌∙◌}
use Rattle.std.specs.Prelude.{codes}
use Rattle.std.specs.Fmt.{decimal}
use Rattle.std.specs.List.{flat_map}
use Rattle.ct_piece.specs.Text.{piece_text}
use Rattle.ct_text.proofs.GrowingTexts.{puts-three}
use Rattle.ct_replies.specs.Text.{ended}
use Rattle.ct_replies.proofs.text.ledger_text.Goals as goal

pub returns : goal.returns
returns c =
    let lines = flat_map (λ p. ended (piece_text p)) c.args.pieces.now in
    puts-three c.put_pieces.new.text.items _ _ _ _ _ _ c.in_ok-extend_from_slice.ensures.items c.in_ok-put_number.ensures.ok c.in_ok-push.ensures.items
    ∙ ap (λ (l : List ℕ). l ++ ended (codes "pieces " ++ decimal (length c.args.pieces.now)))
    (c.in_ok-put_pieces.ensures ∙ ap (λ (l : List ℕ). l ++ lines) c.new-text.ensures.items)
