use Rattle.std.proofs.Common.{List, Option, sym, subst}
use Rattle.ct_words.specs.declared.entry.Entry.{Entry}
use Rattle.ct_slots.specs.Places.{AreChained}
use Rattle.ct_slots.proofs.PlacesLemmas.{AreChained-none}
use Rattle.ct_slots.proofs.places.SupportPlaces.none.Goals as goal

pub invariant_of-result : goal.invariant_of-result
invariant_of-result c =
    subst (λ (entries : List (Option Entry)). AreChained entries c.new-2.result.items c.in_ok-no_places.field-0.items) (sym c.new.ensures.items)
    (AreChained-none c.new-2.result.items c.in_ok-no_places.field-0.items c.in_ok-no_places.ensures)
