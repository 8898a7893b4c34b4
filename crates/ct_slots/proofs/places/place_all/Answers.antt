use Rattle.std.proofs.Common.{◌≡◌, ◌<◌, ◌+◌, ◌++◌, ◌∷◌, [], List, Option, map, take, length, refl, ap, sym, ◌∙◌, subst, arith, length-set, length-take}
use Rattle.std.proofs.lemmas.List.{map_more, take_more_set, length-map}
use Rattle.ct_words.specs.declared.entry.Entry.{Entry}
use Rattle.std.specs.Prelude.{slice_set}
use Rattle.ct_slots.specs.Places.{entry_of_support, AreChained}
use Rattle.ct_slots.proofs.PlacesLemmas.{AreChained-none, AreChained-next}
use Rattle.ct_slots.proofs.places.place_all.Goals as goal

pub loop-place-init : goal.loop-place-init
loop-place-init c = record {
  chained = AreChained-none c.args.before.now c.args.last.now c.requires.last;
  entries = refl;
  entry_count = refl;
  before_count = refl;
}

pub loop-place-preserved : goal.loop-place-preserved
loop-place-preserved c =
    let place = c.loop-place.place in
    let supports = c.args.supports.now in
    let entry = c.entry_of_support-entry.result in
    let done = c.loop-place.invariant in
    let inside : place < length supports = omega (arith, c.loop-place-test.true) in
    let more : map entry_of_support (take (place + 1) supports) ≡ map entry_of_support (take place supports) ++ entry ∷ [] =
    map_more entry_of_support supports place c.index-supports-place.result inside
    ∙ ap (λ (o : Option Entry). map entry_of_support (take place supports) ++ o ∷ []) (ap entry_of_support (sym c.index-supports-place.is) ∙ sym c.entry_of_support-entry.ensures.entry) in
    let counts = done.entry_count in
    let places = done.before_count in
    let limit = c.requires.few in
    let enough = c.requires.entries in
    let room = c.requires.before in
    let here : place ≡ length (map entry_of_support (take place supports)) =
    omega (arith, length-map (take place supports) entry_of_support, length-take place supports) in
    record {
      chained =
          subst (λ (xs : List (Option Entry)). AreChained xs (slice_set c.loop-place.before place c.chain.result) c.chain.new.last) (sym more)
          (AreChained-next (map entry_of_support (take place supports)) c.loop-place.before c.loop-place.last c.chain.new.last entry place c.chain.result
          done.chained here (omega arith) (omega arith) c.entry_of_support-entry.ensures.in_table c.chain.ensures.before c.chain.ensures.last);
      entries =
          take_more_set c.loop-place.entries place entry (omega arith)
          ∙ ap (λ (xs : List (Option Entry)). xs ++ entry ∷ []) done.entries ∙ sym more;
      entry_count = length-set c.loop-place.entries place entry ∙ done.entry_count;
      before_count = length-set c.loop-place.before place c.chain.result ∙ done.before_count;
    }
