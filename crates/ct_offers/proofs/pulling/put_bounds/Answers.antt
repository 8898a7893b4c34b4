-- One more bound; all are of entries of the table.
use Rattle.std.proofs.Common.{◌≡◌, ◌<◌, None, List, length, map, take, refl, sym, ap, subst, ◌∙◌, arith, length-set}
use Rattle.std.proofs.lemmas.List.{take_all}
use Rattle.std.proofs.lemmas.Option.{none-some, slice_get-get_or, slice_get_within, get_or_from_slice_get}
use Rattle.ct_words.specs.declared.entry.Entry.{Entry}
use Rattle.ct_words.specs.Entry.{IsEntry}
use Rattle.ct_rule_parts.specs.Parts.{slots_on}
use Rattle.ct_duals.specs.Bound.{dual_premises}
use Rattle.ct_rule_parts.proofs.DualLemmas.{are_entries-from_All}
use Rattle.ct_slots.specs.Number.{bound_of}
use Rattle.ct_offers.proofs.RowLemmas.{put_more}
use Rattle.ct_offers.proofs.pulling.put_bounds.Goals as goal

pub loop-place-preserved : goal.loop-place-preserved
loop-place-preserved c =
    let es = dual_premises c.args.dual.now.dual in
    let row = c.loop-place.row in
    let place = c.loop-place.place in
    let long = c.loop-place.invariant.1 in
    let few = c.premise_count-count.ensures.few in
    let here = c.loop-place-test.true in (
      put_more (bound_of c.args.bounds.now) c.args.side es row place c.in-Some.entry c.bound.result
          (sym c.premise.ensures ∙ c.in-Some.is) c.bound.ensures (omega arith) c.loop-place.invariant.0,
      length-set row place c.bound.result ∙ long,
    )

pub returns-clause-in_table : goal.returns-clause-in_table
returns-clause-in_table c = are_entries-from_All (dual_premises c.args.dual.now.dual) c.premise_count-count.ensures.entries

pub bound-requires : goal.bound-requires
bound-requires c =
    let es = dual_premises c.args.dual.now.dual in
    let e = c.in-Some.entry in
    let place = c.loop-place.place in
    let at = sym c.premise.ensures ∙ c.in-Some.is in
    subst IsEntry (get_or_from_slice_get es place e e at) (c.premise_count-count.ensures.entries place e (slice_get_within es place e at))

pub bounds-row-place : goal.bounds-row-place
bounds-row-place c =
    let long = c.loop-place.invariant.1 in
    let few = c.premise_count-count.ensures.few in
    let here = c.loop-place-test.true in
    omega arith

pub loop-place-init : goal.loop-place-init
loop-place-init c = (refl, c.requires)

-- there is an entry at each place below their number
pub returns-in_default : goal.returns-in_default
returns-in_default c =
    let es = dual_premises c.args.dual.now.dual in
    let none : Entry = record { n = 0; d = 0; w = None } in
    let inside : c.loop-place.place < length es = omega (arith, c.loop-place-test.true, c.premise_count-count.ensures.count) in
    absurd (none-some _ (sym c.in_default.is ∙ c.premise.ensures ∙ slice_get-get_or es c.loop-place.place none inside))

pub returns-clause-bounds : goal.returns-clause-bounds
returns-clause-bounds c =
    let f = bound_of c.args.bounds.now in
    let es = dual_premises c.args.dual.now.dual in
    let all : c.loop-place.place ≡ length es =
    omega (arith, c.loop-place-test.false, c.loop-place.auto.place-end, c.premise_count-count.ensures.count) in
    subst (λ k. take k c.loop-place.row ≡ map f (slots_on c.args.side (take k es))) all c.loop-place.invariant.0
    ∙ ap (λ (these : List Entry). map f (slots_on c.args.side these)) (take_all (length es) es (omega arith))

pub returns-clause-count : goal.returns-clause-count
returns-clause-count c = c.premise_count-count.ensures.count

pub returns-clause-few : goal.returns-clause-few
returns-clause-few c =
    let long = c.loop-place.invariant.1 in
    let few = c.premise_count-count.ensures.few in
    omega arith
