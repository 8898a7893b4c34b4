use Rattle.std.proofs.Common.{◌≡◌, ◌++◌, ℕ, ◌+◌, ◌<◌, [], ◌∷◌, List, length, get_or, take, ap₂, sym, ◌∙◌}
use Rattle.std.proofs.lemmas.List.{take_more, take_all}
use Rattle.ct_explain.proofs.printing.shown_pieces.Goals as goal

-- one more item of the list
one_more : {X : Type 0} (xs : List X) (i : ℕ) (x : X) (shown more : List X) → i < length xs → x ≡ get_or xs i x → shown ≡ take i xs
    → more ≡ shown ++ x ∷ [] → more ≡ take (i + 1) xs
one_more xs i x shown more within at so_far pushed = pushed ∙ ap₂ (λ l y. l ++ y ∷ []) so_far at ∙ sym (take_more xs i x within)

pub loop-piece-init : goal.loop-piece-init
loop-piece-init c = c.new-shown.ensures.items

pub loop-piece-preserved : goal.loop-piece-preserved
loop-piece-preserved c =
    one_more c.args.pieces.now c.loop-piece.piece-index c.piece-item.result c.loop-piece.shown.items c.push.new.self.items c.loop-piece-test.true
    c.piece-item.is c.loop-piece.invariant c.in_ok-push.ensures.items

pub returns : goal.returns
returns c = c.loop-piece.invariant ∙ take_all c.loop-piece.piece-index c.args.pieces.now c.loop-piece-test.false
