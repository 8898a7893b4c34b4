use Rattle.std.proofs.Common.{ℕ, List, [], ◌∷◌, ◌++◌, map, take, get_or, sym, ap, ◌∙◌}
use Rattle.std.specs.Prelude.{slice_index}
use Rattle.std.proofs.lemmas.List.{map-append, take_more, take_all}
use Rattle.ct_reasons.proofs.pruning.moved_places.Goals as goal

pub loop-place-preserved : goal.loop-place-preserved
loop-place-preserved c =
    let f = slice_index c.args.moved.now in
    let from = c.args.from.now in
    let i = c.loop-place.place-index in
    c.in_ok-push.ensures.ok
    ∙ ap (λ (places : List ℕ). places ++ slice_index c.args.moved.now (get_or c.args.from.now c.loop-place.place-index 0) ∷ []) c.loop-place.invariant
    ∙ sym (ap (map (slice_index c.args.moved.now)) (take_more c.args.from.now c.loop-place.place-index 0 c.loop-place-test.true)
    ∙ map-append (slice_index c.args.moved.now) (take i from) (get_or from i 0 ∷ []))

pub returns : goal.returns
returns c =
    c.loop-place.invariant
    ∙ ap (map (slice_index c.args.moved.now)) (take_all c.loop-place.place-index c.args.from.now c.loop-place-test.false)
