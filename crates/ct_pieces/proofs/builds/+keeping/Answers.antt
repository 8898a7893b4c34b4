use Rattle.std.proofs.Common.{◌≡◌, ◌≢◌, ◌<◌, ◌+◌, ◌*◌, ℕ, List, length, take}
use Rattle.std.proofs.Common.{Option, Some, None, is_some, false, IfOk, IfErr, OnOk, refl, sym, ap, subst, ◌∙◌, arith, rules}
use Rattle.std.specs.Prelude.{IfSome, vec_len}
use Rattle.std.proofs.lemmas.List.{get_or_default, get_or-set_same}
use Rattle.ct_words.specs.Code.{CodeValue}
use Rattle.ct_kind.specs.declared.evidence.Evidence.{Evidence}
use Rattle.ct_kind.specs.declared.fault.SubmitFault.{SubmitFault}
use Rattle.ct_kind.specs.declared.fault.SubmitFault.TheVariants as fault
use Rattle.ct_piece.specs.Piece.{PieceValue, place_of_id}
use Rattle.ct_files.specs.ByKind.{is_kept}
use Rattle.ct_piece.specs.Inside.Kept.{kept_codes, code_there, code_found, other_place}
use Rattle.ct_piece.proofs.KeptLemmas.{kept-all, kept-some, kept-set, kept-grows, kept-trans}
use Rattle.ct_pieces.proofs.PartLemmas.{placed, none-from, found-before}
use Rattle.ct_pieces.proofs.BuildPlaces.{kept-within, kept-long, build-placed, build-there, none-there, part-within, other-within, found-code, found-coded, stays-found}
use Rattle.ct_pieces.proofs.builds.+keeping.Invariants.{depth}
use Rattle.ct_pieces.proofs.builds.+keeping.Goals as goal

pub keep_code-index-requires : goal.keep_code-index-requires
keep_code-index-requires t c =
    let within = kept-within c.args.kept.now.items c.args.pieces.now c.args.place c.requires.kept c.requires.place in
    let long : length c.args.kept.now.items ≡ vec_len c.args.kept.now = search rules in
    omega arith

pub keep_code-returns-then-is_some-clause-stay : goal.keep_code-returns-then-is_some-clause-stay
keep_code-returns-then-is_some-clause-stay t c = kept-all c.args.kept.now.items

pub keep_code-returns-then-is_some-clause-there : goal.keep_code-returns-then-is_some-clause-there
keep_code-returns-then-is_some-clause-there t c =
    let kept = c.args.kept.now.items in
    let place = c.args.place in
    let within = kept-within kept c.args.pieces.now place c.requires.kept c.requires.place in
    let read : c.index.result.now ≡ code_there kept place = c.index.ensures ∙ get_or_default kept place c.index.result.now None within in
    kept-some kept (kept_codes c.args.pieces.now) place c.requires.kept (sym (ap is_some read) ∙ sym c.is_some.ensures ∙ c.if-is_some.true)

pub keep_code-returns-in_default-clause-stay : goal.keep_code-returns-in_default-clause-stay
keep_code-returns-in_default-clause-stay t c = kept-all c.args.kept.now.items

pub keep_code-returns-in_default-clause-there : goal.keep_code-returns-in_default-clause-there
keep_code-returns-in_default-clause-there t c =
    let kept = c.args.kept.now.items in
    let place = c.args.place in
    let within = kept-within kept c.args.pieces.now place c.requires.kept c.requires.place in
    let read : c.index.result.now ≡ code_there kept place = c.index.ensures ∙ get_or_default kept place c.index.result.now None within in
    let none = subst (λ (e : Evidence). is_kept e ≡ false) c.evidence.ensures.evidence c.in_default.ensures.none in
    none-from (code_there kept place) (sym (ap is_some read) ∙ sym c.is_some.ensures ∙ c.if-is_some.false)
    ∙ sym (none-there c.args.pieces.now place c.index-pieces-place.result c.requires.place c.index-pieces-place.is none)

pub keep_code-make_code-requires : goal.keep_code-make_code-requires
keep_code-make_code-requires t c =
    let p = c.index-pieces-place.result in
    let b = c.in-Some.build in
    let at = placed c.args.pieces.now c.args.place p c.requires.made c.requires.place c.index-pieces-place.is in
    let known = build-placed c.args.pieces.now c.args.place p b.entry b.step.now b.part b.other at (sym c.evidence.ensures.evidence ∙ c.in-Some.ensures.some) in
    let below = c.requires.place in
    (omega arith, (c.requires.made, (c.requires.kept, (omega arith, (known.0, known.1)))))

pub keep_code-index_mut-requires : goal.keep_code-index_mut-requires
keep_code-index_mut-requires t c =
    let within = kept-within c.make_code.new.kept.items c.args.pieces.now c.args.place c.make_code.ensures.kept c.requires.place in
    let long : length c.make_code.new.kept.items ≡ vec_len c.make_code.new.kept = search rules in
    omega arith

pub keep_code-returns-clause-kept : goal.keep_code-returns-clause-kept
keep_code-returns-clause-kept t c =
    let p = c.index-pieces-place.result in
    let b = c.in-Some.build in
    let there = build-there c.args.pieces.now c.args.place p b.entry b.step.now b.part b.other c.in-Ok.code c.requires.place c.index-pieces-place.is
    (sym c.evidence.ensures.evidence ∙ c.in-Some.ensures.some) c.in-Ok.ensures.code in
    kept-set c.make_code.new.kept.items (kept_codes c.args.pieces.now) c.args.place (Some c.in-Ok.code) c.make_code.ensures.kept there

pub keep_code-returns-clause-stay : goal.keep_code-returns-clause-stay
keep_code-returns-clause-stay t c =
    let p = c.index-pieces-place.result in
    let b = c.in-Some.build in
    let there = build-there c.args.pieces.now c.args.place p b.entry b.step.now b.part b.other c.in-Ok.code c.requires.place c.index-pieces-place.is
    (sym c.evidence.ensures.evidence ∙ c.in-Some.ensures.some) c.in-Ok.ensures.code in
    kept-trans c.args.kept.now.items c.make_code.new.kept.items _ c.make_code.ensures.stay
    (kept-grows c.make_code.new.kept.items (kept_codes c.args.pieces.now) c.args.place (Some c.in-Ok.code) c.make_code.ensures.kept there)

pub keep_code-returns-clause-there : goal.keep_code-returns-clause-there
keep_code-returns-clause-there t c =
    let p = c.index-pieces-place.result in
    let b = c.in-Some.build in
    let there = build-there c.args.pieces.now c.args.place p b.entry b.step.now b.part b.other c.in-Ok.code c.requires.place c.index-pieces-place.is
    (sym c.evidence.ensures.evidence ∙ c.in-Some.ensures.some) c.in-Ok.ensures.code in
    let within = kept-within c.make_code.new.kept.items c.args.pieces.now c.args.place c.make_code.ensures.kept c.requires.place in
    get_or-set_same c.make_code.new.kept.items c.args.place (Some c.in-Ok.code) None within ∙ sym there

pub keep_found-returns-in-None-clause-stay : goal.keep_found-returns-in-None-clause-stay
keep_found-returns-in-None-clause-stay t c = kept-all c.args.kept.now.items

pub make_code-returns-in_err-keep_found-2-clause-stay : goal.make_code-returns-in_err-keep_found-2-clause-stay
make_code-returns-in_err-keep_found-2-clause-stay t c =
    kept-trans c.args.kept.now.items c.keep_found.new.kept.items c.keep_found-2.new.kept.items c.keep_found.ensures.stay c.keep_found-2.ensures.stay

pub make_code-code_of_parts-requires-clause-part : goal.make_code-code_of_parts-requires-clause-part
make_code-code_of_parts-requires-clause-part t c =
    let ps = c.args.pieces.now in
    let id = c.args.build.now.part in
    subst (λ (found : Option ℕ). IfSome found (λ (i : ℕ). i < length ps)) (sym (c.place_of-part.ensures ∙ ap (place_of_id id) c.pieces_before-before.ensures)) (part-within id ps c.args.place)

pub make_code-code_of_parts-requires-clause-other : goal.make_code-code_of_parts-requires-clause-other
make_code-code_of_parts-requires-clause-other t c =
    let ps = c.args.pieces.now in
    let id = c.args.build.now.other in
    subst (λ (found : Option ℕ). IfSome found (λ (i : ℕ). i < length ps)) (sym (c.other_place-other.ensures ∙ ap (other_place id) c.pieces_before-before.ensures))
    (other-within id ps c.args.place)

pub make_code-code_of_parts-requires-clause-long : goal.make_code-code_of_parts-requires-clause-long
make_code-code_of_parts-requires-clause-long t c =
    ap (λ (ks : List (Option CodeValue)). length ks) c.deref.ensures.value ∙ kept-long c.keep_found-2.new.kept.items c.args.pieces.now c.keep_found-2.ensures.kept

pub make_code-code_of_parts-requires-clause-part_kept : goal.make_code-code_of_parts-requires-clause-part_kept
make_code-code_of_parts-requires-clause-part_kept t c =
    let codes = kept_codes c.args.pieces.now in
    subst (λ (ks : List (Option CodeValue)). IfSome c.place_of-part.result (λ (place : ℕ). code_there ks place ≡ code_there codes place)) (sym c.deref.ensures.value)
    (stays-found c.place_of-part.result c.keep_found.new.kept.items c.keep_found-2.new.kept.items codes c.keep_found-2.ensures.stay c.keep_found-2.ensures.kept
    c.in_ok-keep_found.ensures.there)

pub make_code-code_of_parts-requires-clause-other_kept : goal.make_code-code_of_parts-requires-clause-other_kept
make_code-code_of_parts-requires-clause-other_kept t c =
    let codes = kept_codes c.args.pieces.now in
    subst (λ (ks : List (Option CodeValue)). IfSome c.other_place-other.result (λ (place : ℕ). code_there ks place ≡ code_there codes place)) (sym c.deref.ensures.value)
    c.in_ok-keep_found-2.ensures.there

pub make_code-code_of_parts-requires-clause-coded : goal.make_code-code_of_parts-requires-clause-coded
make_code-code_of_parts-requires-clause-coded t c =
    let ps = c.args.pieces.now in
    let id = c.args.build.now.part in
    ap (λ (found : Option ℕ). is_some (code_found ps found)) (c.place_of-part.ensures ∙ ap (place_of_id id) c.pieces_before-before.ensures)
    ∙ found-coded id ps c.args.place c.requires.coded

pub make_code-returns-clause-stay : goal.make_code-returns-clause-stay
make_code-returns-clause-stay t c =
    kept-trans c.args.kept.now.items c.keep_found.new.kept.items c.keep_found-2.new.kept.items c.keep_found.ensures.stay c.keep_found-2.ensures.stay

pub make_code-returns-clause-code : goal.make_code-returns-clause-code
make_code-returns-clause-code t c =
    let ps = c.args.pieces.now in
    let b = c.args.build.now in
    let before = c.pieces_before-before.ensures in
    let one = ap (code_found ps) (c.place_of-part.ensures ∙ ap (place_of_id b.part) before) in
    let two = ap (code_found ps) (c.other_place-other.ensures ∙ ap (other_place b.other) before) in
    let said = found-code ps c.args.place b.entry b.step.now b.part b.other (code_found ps c.place_of-part.result) (code_found ps c.other_place-other.result) one two in
    subst (λ (o : Option CodeValue). IfOk c.code_of_parts.result (λ code. o ≡ Some code)) (sym said.0) c.code_of_parts.ensures.code

pub make_code-returns-clause-accepted : goal.make_code-returns-clause-accepted
make_code-returns-clause-accepted t c =
    let ps = c.args.pieces.now in
    let b = c.args.build.now in
    let before = c.pieces_before-before.ensures in
    let one = ap (code_found ps) (c.place_of-part.ensures ∙ ap (place_of_id b.part) before) in
    let two = ap (code_found ps) (c.other_place-other.ensures ∙ ap (other_place b.other) before) in
    let said = found-code ps c.args.place b.entry b.step.now b.part b.other (code_found ps c.place_of-part.result) (code_found ps c.other_place-other.result) one two in
    subst (λ (reason : Option SubmitFault). OnOk c.code_of_parts.result (reason ≡ None)) (sym said.1) c.code_of_parts.ensures.accepted

pub make_code-returns-clause-fault : goal.make_code-returns-clause-fault
make_code-returns-clause-fault t c =
    let ps = c.args.pieces.now in
    let b = c.args.build.now in
    let before = c.pieces_before-before.ensures in
    let one = ap (code_found ps) (c.place_of-part.ensures ∙ ap (place_of_id b.part) before) in
    let two = ap (code_found ps) (c.other_place-other.ensures ∙ ap (other_place b.other) before) in
    let said = found-code ps c.args.place b.entry b.step.now b.part b.other (code_found ps c.place_of-part.result) (code_found ps c.other_place-other.result) one two in
    subst (λ (reason : Option SubmitFault). IfErr c.code_of_parts.result (λ f. f ≢ fault.Memory → reason ≡ Some f)) (sym said.1) c.code_of_parts.ensures.fault

pub make_code-returns-clause-kept : goal.make_code-returns-clause-kept
make_code-returns-clause-kept t c = c.keep_found-2.ensures.kept

pub keep_code-returns-in_default-make_code-clause-kept : goal.keep_code-returns-in_default-make_code-clause-kept
keep_code-returns-in_default-make_code-clause-kept t c = c.make_code.ensures.kept

pub keep_code-returns-in_default-make_code-clause-stay : goal.keep_code-returns-in_default-make_code-clause-stay
keep_code-returns-in_default-make_code-clause-stay t c = c.make_code.ensures.stay

pub make_code-code_of_parts-requires-clause-made : goal.make_code-code_of_parts-requires-clause-made
make_code-code_of_parts-requires-clause-made t c = c.requires.made

pub make_code-code_of_parts-requires-clause-fits : goal.make_code-code_of_parts-requires-clause-fits
make_code-code_of_parts-requires-clause-fits t c = c.requires.fits

-- the parts stand before the place
part-below : (id : List ℕ) (ps : List PieceValue) (k : ℕ) → depth (place_of_id id (take k ps)) < 3 * k + 1
part-below id ps k = at (place_of_id id (take k ps)) (λ i is. (found-before id ps k i is).0) where
  at : (o : Option ℕ) → ((i : ℕ) → o ≡ Some i → i < k) → depth o < 3 * k + 1
  at None h = omega arith
  at (Some i) h = let below = h i refl in omega arith

other-below : (other : Option (List ℕ)) (ps : List PieceValue) (k : ℕ) → depth (other_place other (take k ps)) < 3 * k + 1
other-below None ps k = omega arith
other-below (Some id) ps k = part-below id ps k

pub make_code-keep_found-requires : goal.make_code-keep_found-requires
make_code-keep_found-requires t c =
    let ps = c.args.pieces.now in
    let id = c.args.build.now.part in
    let before = sym (c.place_of-part.ensures ∙ ap (place_of_id id) c.pieces_before-before.ensures) in
    let within = subst (λ (found : Option ℕ). IfSome found (λ (i : ℕ). i < length ps)) before (part-within id ps c.args.place) in
    let below = subst (λ (found : Option ℕ). depth found < 3 * c.args.place + 1) before (part-below id ps c.args.place) in
    let at = c.decreases in
    (omega (arith, below, at), (c.requires.made, (c.requires.kept, within)))

pub make_code-keep_found-requires-2 : goal.make_code-keep_found-requires-2
make_code-keep_found-requires-2 t c =
    let ps = c.args.pieces.now in
    let id = c.args.build.now.other in
    let before = sym (c.other_place-other.ensures ∙ ap (other_place id) c.pieces_before-before.ensures) in
    let within = subst (λ (found : Option ℕ). IfSome found (λ (i : ℕ). i < length ps)) before (other-within id ps c.args.place) in
    let below = subst (λ (found : Option ℕ). depth found < 3 * c.args.place + 1) before (other-below id ps c.args.place) in
    let at = c.decreases in
    (omega (arith, below, at), (c.requires.made, (c.in_ok-keep_found.ensures.kept, within)))

pub keep_found-keep_code-requires : goal.keep_found-keep_code-requires
keep_found-keep_code-requires t c =
    let at = rw c.in-Some.is at c.decreases in
    let within = rw c.in-Some.is at c.requires.place in
    (omega (arith, at), (c.requires.made, (c.requires.kept, within)))
