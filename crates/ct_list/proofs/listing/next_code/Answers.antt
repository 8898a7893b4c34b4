use Rattle.std.proofs.Common.{◌≡◌, ◌+◌, ◌<◌, All, length, drop, IfOk, refl, sym, subst, ◌∙◌}
use Rattle.std.proofs.lemmas.Option.{slice_get_read, same_Some}
use Rattle.ct_rules.specs.Derivation.{LineValue}
use Rattle.ct_piece.specs.Supports.{supports_of}
use Rattle.ct_list.specs.Inside.Kept.{IsCodeFor, AreKept, named_by}
use Rattle.ct_list.proofs.Walk.{read_line, on_ok, earlier, kept_here, kept_later, lower_rule, parts_here, code_here}
use Rattle.ct_list.proofs.listing.next_code.Goals as goal

pub take_codes-requires-clause-built : goal.take_codes-requires-clause-built
take_codes-requires-clause-built c =
    let why = c.requires.explained in
    let lines = c.args.lines.now in
    let own = c.index-lines-place.result in
    let at =
    read_line lines c.args.place own c.line.inside.claim c.line.inside.rule _ c.as_slice.result.now
    (slice_get_read lines _ c.args.place own refl c.requires.place c.index-lines-place.is) c.as_slice.ensures c.line.view_is in
    subst (λ n. All (λ p. p < n) c.as_slice.result.now) (sym c.requires.next)
    (earlier (supports_of c.args.ledger.now.pieces) why.0 why.1 lines c.args.place _ why.2 at)

pub take_codes-requires-clause-kept : goal.take_codes-requires-clause-kept
take_codes-requires-clause-kept c =
    let lines = c.args.lines.now in
    let own = c.index-lines-place.result in
    let at =
    read_line lines c.args.place own c.line.inside.claim c.line.inside.rule _ c.as_slice.result.now
    (slice_get_read lines _ c.args.place own refl c.requires.place c.index-lines-place.is) c.as_slice.ensures c.line.view_is in
    (lines, kept_here lines c.args.kept.now.items c.args.place _ at c.requires.kept)

pub code_by_rule-requires-clause-side : goal.code_by_rule-requires-clause-side
code_by_rule-requires-clause-side c =
    let why = c.requires.explained in
    let lines = c.args.lines.now in
    let own = c.index-lines-place.result in
    let at =
    read_line lines c.args.place own c.line.inside.claim c.line.inside.rule _ c.as_slice.result.now
    (slice_get_read lines _ c.args.place own refl c.requires.place c.index-lines-place.is) c.as_slice.ensures c.line.view_is in
    lower_rule (supports_of c.args.ledger.now.pieces) why.0 why.1 lines c.args.place _ why.2 at

pub code_by_rule-requires-clause-parts : goal.code_by_rule-requires-clause-parts
code_by_rule-requires-clause-parts c =
    let why = c.requires.explained in
    let lines = c.args.lines.now in
    let own = c.index-lines-place.result in
    let at =
    read_line lines c.args.place own c.line.inside.claim c.line.inside.rule _ c.as_slice.result.now
    (slice_get_read lines _ c.args.place own refl c.requires.place c.index-lines-place.is) c.as_slice.ensures c.line.view_is in
    parts_here (supports_of c.args.ledger.now.pieces) why.0 why.1 lines c.args.place _ c.in_ok-codes.codes.items why.2 at
    (c.in_ok-codes.ensures.codes lines (kept_here lines c.args.kept.now.items c.args.place _ at c.requires.kept))

pub returns-clause-code : goal.returns-clause-code
returns-clause-code c = λ l is.
    let why = c.requires.explained in
    let lines = c.args.lines.now in
    let own = c.index-lines-place.result in
    let at =
    read_line lines c.args.place own c.line.inside.claim c.line.inside.rule _ c.as_slice.result.now
    (slice_get_read lines _ c.args.place own refl c.requires.place c.index-lines-place.is) c.as_slice.ensures c.line.view_is in
    let known = c.in_ok-codes.ensures.codes lines (kept_here lines c.args.kept.now.items c.args.place _ at c.requires.kept) in
    subst (λ (m : LineValue). IfOk c.code_by_rule.result (IsCodeFor m.claim)) (same_Some _ l (sym at ∙ is))
    (code_here (supports_of c.args.ledger.now.pieces) why.0 why.1 lines c.args.place _ c.in_ok-codes.codes.items c.code_by_rule.result
    why.2 at known c.code_by_rule.ensures.code)

pub returns-clause-kept : goal.returns-clause-kept
returns-clause-kept c =
    let lines = c.args.lines.now in
    let kept = c.take_codes.new.kept.items in
    let own = c.index-lines-place.result in
    let at =
    read_line lines c.args.place own c.line.inside.claim c.line.inside.rule _ c.as_slice.result.now
    (slice_get_read lines _ c.args.place own refl c.requires.place c.index-lines-place.is) c.as_slice.ensures c.line.view_is in
    on_ok (AreKept lines kept (named_by (drop (c.args.place + 1) lines))) c.code_by_rule.result
    (kept_later lines kept (c.args.place + 1)
    (c.in_ok-codes.ensures.kept lines (kept_here lines c.args.kept.now.items c.args.place _ at c.requires.kept)))

pub returns-clause-size : goal.returns-clause-size
returns-clause-size c =
    on_ok (length c.take_codes.new.kept.items ≡ c.args.place) c.code_by_rule.result (c.in_ok-codes.ensures.size ∙ c.requires.next)
