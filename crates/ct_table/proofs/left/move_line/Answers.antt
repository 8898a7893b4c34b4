use Rattle.std.proofs.Common.{◌≡◌, length, Some, option_map, sym, ap, subst, ◌∙◌}
use Rattle.ct_words.specs.Entry.{IsEntry}
use Rattle.ct_rules.specs.Derivation.{LineValue}
use Rattle.ct_rules.specs.Removal.{marked}
use Rattle.ct_table.specs.Inside.Walk.{moved_places, moved_line, with_moved}
use Rattle.ct_table.proofs.MovedLists.{line_moves}
use Rattle.ct_table.proofs.left.move_line.Goals as goal
use Rattle.ct_table.proofs.left.move_line.Goals.{In-Some}

-- the line moves to the places to which those that it names have moved
moves : (c : In-Some) → Some (record { claim = c.line.inside.claim; rule = c.line.inside.rule; from = c.in-Some.from.items })
    ≡ moved_line c.args.base (marked c.args.gone.now) c.args.moved.now c.args.line.now
moves c =
    let places = rw c.in-Some.is at c.in_ok-from.ensures in
    line_moves c.args.base (marked c.args.gone.now) c.args.moved.now
    (record { claim = c.line.inside.claim; rule = c.line.inside.rule; from = c.line.inside.from.items }) c.in-Some.from.items
    c.if-names_one.ensures (places ∙ ap (moved_places c.args.base c.args.moved.now) c.as_slice.ensures)
    ∙ ap (moved_line c.args.base (marked c.args.gone.now) c.args.moved.now) c.line.view_is

pub returns-clause-kept : goal.returns-clause-kept
returns-clause-kept c =
    c.in_ok-put.ensures.put ∙ ap (with_moved c.args.kept.now) (moves (goal.at.returns-clause-kept c).In-Some)

pub returns-clause-there : goal.returns-clause-there
returns-clause-there c =
    ap Some c.line_count-there.ensures
    ∙ ap (option_map (λ (l : LineValue). length c.args.kept.now.lines)) (moves (goal.at.returns-clause-there c).In-Some)

pub put-requires : goal.put-requires
put-requires c = subst (λ (l : LineValue). IsEntry l.claim.entry) (sym c.line.view_is) c.requires
