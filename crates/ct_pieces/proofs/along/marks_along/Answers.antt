use Rattle.std.proofs.Common.{◌≡◌, ◌∙◌, ◌+◌, ◌<◌, Bool, List, [], ◌∷◌, ◌++◌, length, map, take, get_or, Some, sym, ap, ap₂, arith}
use Rattle.std.specs.Prelude.{slice_get}
use Rattle.std.proofs.lemmas.List.{map-append, take_all, take_more}
use Rattle.std.proofs.lemmas.Option.{slice_get-get_or}
use Rattle.ct_files.specs.PartNames.{has_name}
use Rattle.ct_piece.specs.Piece.{PieceValue}
use Rattle.ct_piece.specs.Withdrawal.{taken_along, is_id_among}
use Rattle.ct_pieces.proofs.AlongPass.{AreGone, AreGone-more, AreGone-same, goes_is}
use Rattle.ct_pieces.proofs.along.marks_along.Goals as goal
use Rattle.ct_pieces.proofs.along.marks_along.Goals.{then-gone+in_ok-put_name, else-gone}

pub loop-piece-preserved : goal.loop-piece-preserved
loop-piece-preserved c =
    let pieces = c.args.pieces.now in
    let id = c.args.id in
    let k = c.loop-piece.piece-index in
    let p = c.piece-item.result in
    let mark : PieceValue → Bool = λ (q : PieceValue). is_id_among (taken_along pieces id) q.id in
    let within : k < length pieces = c.loop-piece-test.true in
    let here : slice_get pieces k ≡ Some p = slice_get-get_or pieces k p within ∙ ap Some (sym c.piece-item.is) in
    let gone = c.loop-piece.invariant.1 in
    let goes : c.goes-gone.result ≡ is_id_among (taken_along pieces id) p.id =
    c.goes-gone.ensures ∙ goes_is pieces id (has_name c.loop-piece.names) k p c.requires here gone in
    let marks : c.push.new.self.items ≡ map mark (take (k + 1) pieces) =
    c.in_ok-push.ensures.items
    ∙ ap₂ (λ (marks : List Bool) (last : Bool). marks ++ last ∷ []) c.loop-piece.invariant.0 (goes ∙ ap mark c.piece-item.is)
    ∙ sym (ap (map mark) (take_more pieces k p within) ∙ map-append mark (take k pieces) (get_or pieces k p ∷ [])) in
    let names : AreGone pieces id (has_name c.if-gone.names) (k + 1) =
    elim c.if-gone.branch [
      | then-gone+in_ok-put_name w ↦ rw w.names-is
          (AreGone-more pieces id (has_name c.loop-piece.names) k p c.requires here gone (has_name w.put_name.new.names) (sym goes ∙ w.if-gone.true) w.in_ok-put_name.ensures within)
      | else-gone w ↦ rw w.names-is (AreGone-same pieces id (has_name c.loop-piece.names) k p c.requires here gone (sym goes ∙ w.if-gone.false) within)
    ] in
    (marks, names)

pub returns : goal.returns
returns c =
    let mark : PieceValue → Bool = λ (p : PieceValue). is_id_among (taken_along c.args.pieces.now c.args.id) p.id in
    let past = c.loop-piece-test.false in
    c.loop-piece.invariant.0 ∙ ap (map mark) (take_all c.loop-piece.piece-index c.args.pieces.now (omega (arith, past)))
