use Rattle.std.proofs.Common.{ℕ, ◌+◌, List, Vec, Global, sym, ap, subst, ◌∙◌}
use Rattle.ct_derive.specs.Pruning.{ArePlacesBelow}
use Rattle.ct_derive.proofs.PlacesBelow.{below-none, below-unmarked, below-marked, below-whole}
use Rattle.ct_derive.proofs.marks.marked_places.Goals as goal
use Rattle.ct_derive.proofs.marks.marked_places.Goals.{then-marks-place+in_ok-push, else-marks-place}

pub loop-place-init : goal.loop-place-init
loop-place-init c =
    subst (λ (places : List ℕ). ArePlacesBelow 0 c.args.marks.now places) (sym c.new-places.ensures.items) (below-none c.args.marks.now)

pub loop-place-preserved : goal.loop-place-preserved
loop-place-preserved c =
    let marks = c.args.marks.now in
    let places = c.loop-place.places.items in
    let place = c.loop-place.place in
    elim c.if-marks-place.branch [
      | then-marks-place+in_ok-push w ↦
          subst (λ (all : List ℕ). ArePlacesBelow (place + 1) marks all)
          (sym (ap (λ (v : Vec ℕ Global). v.items) w.places-is ∙ w.in_ok-push.ensures.items))
          (below-marked marks places place w.if-marks-place.true c.loop-place.invariant)
      | else-marks-place w ↦
          subst (λ (all : List ℕ). ArePlacesBelow (place + 1) marks all) (sym (ap (λ (v : Vec ℕ Global). v.items) w.places-is))
          (below-unmarked marks places place w.if-marks-place.false c.loop-place.invariant)
    ]

pub returns-clause-ascending : goal.returns-clause-ascending
returns-clause-ascending c = c.loop-place.invariant.ascending

pub returns-clause-places : goal.returns-clause-places
returns-clause-places c =
    below-whole c.args.marks.now c.loop-place.places.items c.loop-place.place c.loop-place-test.false c.loop-place.invariant
