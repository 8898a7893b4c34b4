use Rattle.std.proofs.Common.{◌≡◌, ◌++◌, ℕ, ◌+◌, ◌<◌, List, length, get_or, take, append-nil, ap, sym, ◌∙◌}
use Rattle.std.specs.Prelude.{slice_get}
use Rattle.std.specs.List.{flat_map}
use Rattle.std.proofs.lemmas.List.{take_more, take_all, flat_map_more}
use Rattle.ct_derive.specs.Text.{block_text}
use Rattle.ct_derive.proofs.printing.put_blocks.Goals as goal

-- one more text, and the text to which it is put
one_more : (f : ℕ → List ℕ) (ps : List ℕ) (i : ℕ) (old text new : List ℕ) → i < length ps → text ≡ old ++ flat_map f (take i ps)
    → new ≡ text ++ f (get_or ps i 0) → new ≡ old ++ flat_map f (take (i + 1) ps)
one_more f ps i old text new within so_far more =
    more
    ∙ ap (λ t. t ++ f (get_or ps i 0)) so_far
    ∙ flat_map_more f old (take i ps) (get_or ps i 0)
    ∙ ap (λ qs. old ++ flat_map f qs) (sym (take_more ps i 0 within))

pub loop-place-init : goal.loop-place-init
loop-place-init g c = sym (append-nil c.args.text.now.items)

pub loop-place-preserved : goal.loop-place-preserved
loop-place-preserved g c =
    one_more (λ p. block_text g.P.ShownPiece.id_of g.P.ShownPiece.document_of (slice_get c.args.pieces.now p)) c.args.places.now c.loop-place.place-index
    c.args.text.now.items c.loop-place.text.items c.put_block.new.text.items c.loop-place-test.true c.loop-place.invariant c.in_ok-put_block.ensures

pub returns : goal.returns
returns g c =
    let f = λ (p : ℕ). block_text g.P.ShownPiece.id_of g.P.ShownPiece.document_of (slice_get c.args.pieces.now p) in
    c.loop-place.invariant
    ∙ ap (λ (ps : List ℕ). c.args.text.now.items ++ flat_map f ps) (take_all c.loop-place.place-index c.args.places.now c.loop-place-test.false)
