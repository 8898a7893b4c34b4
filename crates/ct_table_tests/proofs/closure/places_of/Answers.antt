use Rattle.std.proofs.Common.{map, sym, ap, subst, ◌∙◌, take_all}
use Rattle.ct_slots.specs.Places.{AreSupportPlaces, entry_of_support}
use Rattle.ct_table.proofs.PlacedSupports.{AreSupportPlaces-map}
use Rattle.ct_table_tests.proofs.closure.places_of.Goals as goal

pub returns : goal.returns
returns c =
    let supports = c.args.supports.now in
    let all = take_all c.loop-support.support-index supports c.loop-support-test.false in
    subst (AreSupportPlaces supports) (sym (c.loop-support.invariant ∙ ap (map entry_of_support) all)) (AreSupportPlaces-map supports)
