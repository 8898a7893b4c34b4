use Rattle.std.proofs.Common.{ℕ, List, [], ◌++◌, get_or, take, take_all, sym, ap, ◌∙◌}
use Rattle.std.specs.List.{flat_map}
use Rattle.std.specs.Borrow.{Bor}
use Rattle.std.proofs.lemmas.List.{flat_map_more, take_more}
use Rattle.ct_commands.proofs.submission.put_parts.Goals as goal

pub loop-part-preserved : goal.loop-part-preserved
loop-part-preserved c =
    let text = c.args.text.now.items in
    let parts = c.args.parts.now in
    let i = c.loop-part.part-index in
    let none : Bor (List ℕ) = record { ref_ptr = (0, 0); now = [] } in
    let part = get_or parts i none in
    c.in_ok-extend_from_slice.ensures.items
    ∙ ap (λ l. l ++ part.now) c.loop-part.invariant
    ∙ flat_map_more (λ p. p.now) text (take i parts) part
    ∙ ap (λ ps. text ++ flat_map (λ p. p.now) ps) (sym (take_more parts i none c.loop-part-test.true))

pub returns : goal.returns
returns c =
    let i = c.loop-part.part-index in
    c.loop-part.invariant ∙ ap (λ parts. c.args.text.now.items ++ flat_map (λ part. part.now) parts) (take_all i c.args.parts.now c.loop-part-test.false)
