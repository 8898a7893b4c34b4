use Rattle.std.proofs.Common.{◌≡◌, ◌≤◌, ◌^◌, ℕ, List, Option, length, map, take, replicate, ap, sym, subst, ◌∙◌}
use Rattle.std.proofs.lemmas.List.{length-replicate}
use Rattle.ct_words.specs.declared.entry.Entry.{Entry}
use Rattle.ct_slots.specs.Places.{entry_of_support, AreChained}
use Rattle.ct_slots.proofs.PlacesLemmas.{no_place, given_back}
use Rattle.ct_slots.proofs.places.SupportPlaces.rebuild.Goals as goal
use Rattle.ct_slots.proofs.places.SupportPlaces.rebuild.Goals.{After-truncate}

pub place_all-requires-clause-last : goal.place_all-requires-clause-last
place_all-requires-clause-last c =
    let old = c.self.inside.last in
    let new = c.forget.new.last in
    let lent = c.deref_mut.result.now in
    let count : old.len ≡ length new =
    sym (ap (λ (ls : List (Option ℕ)). length ls) c.forget.ensures ∙ length-replicate (length lent) no_place ∙ c.deref_mut.ensures.len) in
    c.deref_mut-4.ensures.value ∙ given_back new old.items old.len count ∙ c.forget.ensures
    ∙ ap (λ k. replicate k no_place) (ap (λ (ls : List (Option ℕ)). length ls) c.deref_mut.ensures.value ∙ c.self.invariant.last_count)

pub place_all-requires-clause-entries : goal.place_all-requires-clause-entries
place_all-requires-clause-entries c =
    subst (λ (xs : List (Option Entry)). length c.args.supports.now ≤ length xs) (sym (c.deref_mut-2.ensures.value ∙ c.self.view_is)) c.requires

pub place_all-requires-clause-before : goal.place_all-requires-clause-before
place_all-requires-clause-before c =
    subst (λ (xs : List (Option Entry)). length xs ≤ length c.deref_mut-3.result.now) (sym c.deref_mut-2.ensures.value)
    (subst (λ (xs : List (Option ℕ)). length c.self.inside.entries.items ≤ length xs) (sym c.deref_mut-3.ensures.value) c.self.invariant.before_count)

pub place_all-requires-clause-few : goal.place_all-requires-clause-few
place_all-requires-clause-few c =
    subst (λ (xs : List (Option Entry)). length xs ≤ 2 ^ 32) (sym c.deref_mut-2.ensures.value) c.self.invariant.few

-- what stands after the entries are cut
cut : (c : After-truncate) → c.truncate.new.self.items ≡ map entry_of_support c.args.supports.now
cut c =
    let entries = c.place_all.new.entries in
    let count : c.self.inside.entries.len ≡ length entries = sym (c.place_all.auto.entries ∙ c.deref_mut-2.ensures.len) in
    c.truncate.ensures.items
    ∙ ap (λ (xs : List (Option Entry)). take (length c.args.supports.now) xs) (given_back entries c.self.inside.entries.items c.self.inside.entries.len count)
    ∙ c.place_all.ensures.entries

pub returns : goal.returns
returns c = cut (goal.at.returns c).After-truncate

same_chain : (es fs : List (Option Entry)) (bs cs ls ms : List (Option ℕ)) → es ≡ fs → bs ≡ cs → ls ≡ ms → AreChained fs cs ms → AreChained es bs ls
same_chain es fs bs cs ls ms entries before last chained =
    subst (λ (xs : List (Option Entry)). AreChained xs bs ls) (sym entries)
    (subst (λ (xs : List (Option ℕ)). AreChained fs xs ls) (sym before) (subst (λ (xs : List (Option ℕ)). AreChained fs cs xs) (sym last) chained))

pub invariant_of-self : goal.invariant_of-self
invariant_of-self c =
    let before = c.place_all.new.before in
    let last = c.place_all.new.last in
    let old = c.self.inside in
    let before_count : old.before.len ≡ length before = sym (c.place_all.auto.before ∙ c.deref_mut-3.ensures.len) in
    let last_count : old.last.len ≡ length last = sym (c.place_all.auto.last ∙ c.deref_mut-4.ensures.len) in
    same_chain c.truncate.new.self.items _ _ before _ last (cut (goal.at.invariant_of-self c).After-truncate)
    (given_back before old.before.items old.before.len before_count)
    (given_back last _ old.last.len last_count)
    c.place_all.ensures.chained
