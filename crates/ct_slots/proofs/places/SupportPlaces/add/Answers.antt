use Rattle.std.proofs.Common.{◌≡◌, ◌<◌, ◌^◌, ℕ, List, Option, length, ap, sym, ◌∙◌, subst}
use Rattle.ct_words.specs.declared.entry.Entry.{Entry}
use Rattle.ct_slots.specs.Places.{AreChained, last_at, with_last}
use Rattle.ct_slots.proofs.PlacesLemmas.{AreChained-room, AreChained-added}
use Rattle.ct_slots.proofs.places.SupportPlaces.add.Goals as goal

pub invariant_of-self : goal.invariant_of-self
invariant_of-self c =
    let old = c.self.inside in
    AreChained-room old.entries.items old.before.items c.make_room.new.before.items old.last.items c.self.invariant
    c.make_room.ensures.no_less c.make_room.ensures.kept

pub invariant_of-self-in_err-push : goal.invariant_of-self-in_err-push
invariant_of-self-in_err-push c =
    let old = c.self.inside in
    subst (λ (entries : List (Option Entry)). AreChained entries c.make_room.new.before.items old.last.items) (sym c.in_err-push.ensures.items)
    (AreChained-room old.entries.items old.before.items c.make_room.new.before.items old.last.items c.self.invariant
    c.make_room.ensures.no_less c.make_room.ensures.kept)

pub invariant_of-self-2 : goal.invariant_of-self-2
invariant_of-self-2 c =
    let old = c.self.inside in
    let entry = c.entry_of_support-entry.result in
    let place = c.len-place.result in
    let value = c.deref_mut.ensures.value in
    let at = c.chain.ensures.before ∙ ap (λ (ls : List (Option ℕ)). last_at ls entry) value in
    let last = c.chain.ensures.last ∙ ap (λ (ls : List (Option ℕ)). with_last ls entry place) value in
    let here : place ≡ length old.entries.items = (let fact = old.entries.ok in let read = c.len-place.ensures in cc) in
    let count : old.last.len ≡ length old.last.items = (let fact = old.last.ok in cc) in
    let few : place < 2 ^ 32 = subst (λ k. k < 2 ^ 32) (sym here)
    (subst (λ (entries : List (Option Entry)). length entries < 2 ^ 32 → length old.entries.items < 2 ^ 32) c.self.view_is (λ h. h) c.requires) in
    AreChained-added old.entries.items c.push.new.self.items old.before.items c.make_room.new.before.items old.last.items c.chain.new.last
    entry place old.last.len c.chain.result c.self.invariant c.make_room.ensures.no_less c.make_room.ensures.kept c.in_ok-make_room.ensures.room
    few here c.entry_of_support-entry.ensures.in_table c.in_ok-push.ensures.items at last count
