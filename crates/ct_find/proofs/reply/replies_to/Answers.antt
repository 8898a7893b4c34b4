use Rattle.std.proofs.Common.{◌≡◌, ℕ, List, length, subst, rules}
use Rattle.std.proofs.lemmas.List.{nil_from_length}
use Rattle.ct_io.specs.Lines.{lines_of}
use Rattle.ct_io.proofs.LinesLemmas.{lines_of-from_next}
use Rattle.ct_find.proofs.ReplyLemmas.{Leads, leads_on, leads_last}
use Rattle.ct_find.proofs.reply.replies_to.Goals as goal

pub loop-rest-preserved : goal.loop-rest-preserved
loop-rest-preserved c = λ rest later are.
    let all = lines_of c.args.input.now in
    let so_far = c.loop-rest.replies in
    let line = c.next_line.result.0.now in
    let left = lines_of c.next_line.result.1.now in
    let first = lines_of-from_next c.loop-rest.rest.now line c.next_line.result.1.now c.next_line.ensures.line in
    let leads = subst (λ (lines : List (List ℕ)). Leads all so_far.text.items so_far.refused lines) first c.loop-rest.invariant in
    rw (c.in_ok-put.ensures.text, c.in_ok-put.ensures.refused)
    (leads_on all left line so_far.text.items c.in_ok-reply.reply.text.items so_far.refused c.in_ok-reply.reply.refused leads c.in_ok-reply.ensures rest later are)

pub returns : goal.returns
returns c =
    let all = lines_of c.args.input.now in
    let so_far = c.loop-rest.replies in
    let none : length c.loop-rest.rest.now ≡ 0 = search rules in
    leads_last all so_far.text.items so_far.refused (subst (λ (r : List ℕ). Leads all so_far.text.items so_far.refused (lines_of r)) (nil_from_length c.loop-rest.rest.now none) c.loop-rest.invariant)
