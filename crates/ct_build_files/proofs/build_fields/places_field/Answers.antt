use Rattle.std.proofs.Common.{ℕ, Vec, Global, option_map, sym, ap, ◌∙◌}
use Rattle.toml.specs.View.{view}
use Rattle.ct_build_files.specs.BuildFields.{are_left_out}
use Rattle.ct_build_files.proofs.ReadPlaces.{places_read, places_wrong, places_unread}
use Rattle.ct_build_files.proofs.build_fields.places_field.Goals as goal

pub returns-else-not-are_left_out : goal.returns-else-not-are_left_out
returns-else-not-are_left_out c =
    let found = ap (option_map (λ (v : Vec ℕ Global). v.items)) (sym c.in-Some.is) ∙ c.in_ok-places-in-Some-Array.ensures in
    places_read c.args.n (view c.args.document.now) c.text.result.now c.in-Some-Array.field-0.now c.in-Some-Array.values c.deref.result.now
    c.in-Some.places.items c.in-Some-Array.ensures c.text.ensures c.in-Some-Array.field-0-is
    (c.deref.ensures.value ∙ ap (λ v. v.items) c.in-Some-Array.values-is) found
    (ap (are_left_out c.args.n) (sym c.deref-in-Some.ensures.value) ∙ sym c.if-not-are_left_out.ensures)

pub returns-then-not-are_left_out : goal.returns-then-not-are_left_out
returns-then-not-are_left_out c = λ _.
    let found = ap (option_map (λ (v : Vec ℕ Global). v.items)) (sym c.in-Some.is) ∙ c.in_ok-places-in-Some-Array.ensures in
    places_wrong c.args.n (view c.args.document.now) c.text.result.now c.in-Some-Array.field-0.now c.in-Some-Array.values c.deref.result.now
    c.in-Some.places.items c.in-Some-Array.ensures c.text.ensures c.in-Some-Array.field-0-is
    (c.deref.ensures.value ∙ ap (λ v. v.items) c.in-Some-Array.values-is) found
    (ap (are_left_out c.args.n) (sym c.deref-in-Some.ensures.value) ∙ sym c.if-not-are_left_out.ensures)

pub returns-in-None : goal.returns-in-None
returns-in-None c = λ _.
    let found = ap (option_map (λ (v : Vec ℕ Global). v.items)) (sym c.in-None.is) ∙ c.in_ok-places-in-Some-Array.ensures in
    places_unread c.args.n (view c.args.document.now) c.text.result.now c.in-Some-Array.field-0.now c.in-Some-Array.values c.deref.result.now
    c.in-Some-Array.ensures c.text.ensures c.in-Some-Array.field-0-is
    (c.deref.ensures.value ∙ ap (λ v. v.items) c.in-Some-Array.values-is) found
