use Rattle.std.proofs.Common.{rules, ◌≡◌, ℕ, true, false, option_map, Some, subst, sym, ap, ◌∙◌}
use Rattle.ct_words.specs.declared.entry.Entry.{Entry}
use Rattle.ct_words.specs.Entry.{IsEntry}
use Rattle.ct_build.specs.Build.{shape_of}
use Rattle.ct_files.specs.ByKind.{has_code}
use Rattle.ct_pieces.proofs.PartLemmas.{placed, shape-coded, sized-coded, without_code}
use Rattle.ct_pieces.proofs.standing.shape_at.Goals as goal

pub returns-then-not-kind_of-clause-shape : goal.returns-then-not-kind_of-clause-shape
returns-then-not-kind_of-clause-shape c =
    let p = c.index-pieces-place.result in
    let at = placed c.args.pieces.now c.args.place p c.requires.made c.requires.place c.index-pieces-place.is in
    let none : has_code p.evidence ≡ false = search rules in
    sym (ap (option_map shape_of) (without_code c.args.pieces.now c.args.place p at none))

pub returns-in_err-size-clause-shape : goal.returns-in_err-size-clause-shape
returns-in_err-size-clause-shape c =
    let p = c.index-pieces-place.result in
    let at = placed c.args.pieces.now c.args.place p c.requires.made c.requires.place c.index-pieces-place.is in
    let coded : has_code p.evidence ≡ true = search rules in
    absurd (sized-coded c.args.pieces.now c.args.place p at coded (sym c.in_err-size.ensures))

pub new-requires : goal.new-requires
new-requires c =
    let p = c.index-pieces-place.result in
    let at = placed c.args.pieces.now c.args.place p c.requires.made c.requires.place c.index-pieces-place.is in
    subst IsEntry (sym (c.entry.ensures ∙ at.entry)) at.states.entry

pub returns-clause-shape : goal.returns-clause-shape
returns-clause-shape c =
    let p = c.index-pieces-place.result in
    let at = placed c.args.pieces.now c.args.place p c.requires.made c.requires.place c.index-pieces-place.is in
    let coded : has_code p.evidence ≡ true = search rules in
    let shape = shape-coded c.args.pieces.now c.args.place p c.in_ok-size.size at coded (sym c.in_ok-size.ensures) in
    ap Some c.new.ensures.value
    ∙ ap (λ (s : ℕ). Some (record { n = c.entry.result.n; d = c.entry.result.d; w = c.entry.result.w; size = s })) c.from.ensures
    ∙ ap (λ (e : Entry). Some (record { n = e.n; d = e.d; w = e.w; size = c.in_ok-size.size })) c.entry.ensures ∙ sym shape
