use Rattle.std.proofs.Common.{◌<◌, ◌+◌, List, All, length, drop, get_or, refl, sym, ap, subst, ◌∙◌}
use Rattle.std.specs.Option.{option_to_list}
use Rattle.std.proofs.lemmas.List.{at_drop_more, at_drop_all}
use Rattle.std.proofs.lemmas.Option.{slice_get_read}
use Rattle.ct_rules.specs.declared.rule.Rule.{Rule}
use Rattle.ct_rules.specs.Rule.{named_place}
use Rattle.ct_rules.specs.Derivation.{LineValue}
use Rattle.ct_derive.specs.Pieces.{cited_places}
use Rattle.ct_derive.specs.Pruning.{with_marks}
use Rattle.ct_derive.proofs.NeededPieces.{cited_of_line, with_marks-cons}
use Rattle.ct_derive.proofs.needed.mark_cited_by.Goals as goal

pub mark_cited-requires : goal.mark_cited-requires
mark_cited-requires c =
    let lines = c.args.lines.now in
    let at = slice_get_read lines _ c.loop-line.line-index c.line-item.result refl c.loop-line-test.true c.line-item.is in
    let rule = ap (λ (l : LineValue). l.rule) c.line.view_is in
    let within = subst (λ n. All (λ p. p < n) (cited_places c.args.lines.now)) (sym c.loop-line.auto.marks) c.requires in
    subst (λ (r : Rule). All (λ p. p < length c.loop-line.marks) (option_to_list (named_place r))) (sym rule)
    (cited_of_line (λ p. p < length c.loop-line.marks) lines c.loop-line.line-index c.line-item.result at within)

pub loop-line-preserved : goal.loop-line-preserved
loop-line-preserved c =
    let lines = c.args.lines.now in
    let i = c.loop-line.line-index in
    let rest = cited_places (drop (c.loop-line.line-index + 1) c.args.lines.now) in
    let rule = ap (λ (l : LineValue). l.rule) c.line.view_is in
    c.loop-line.invariant
    ∙ at_drop_more (λ (ls : List LineValue). with_marks (cited_places ls) c.loop-line.marks) lines i c.line-item.result c.loop-line-test.true
    ∙ with_marks-cons (named_place (get_or c.args.lines.now c.loop-line.line-index c.line-item.result).rule) rest c.loop-line.marks
    ∙ ap (λ (l : LineValue). with_marks (cited_places (drop (c.loop-line.line-index + 1) c.args.lines.now)) (with_marks (option_to_list (named_place l.rule)) c.loop-line.marks)) (sym c.line-item.is)
    ∙ ap (λ (r : Rule). with_marks (cited_places (drop (c.loop-line.line-index + 1) c.args.lines.now)) (with_marks (option_to_list (named_place r)) c.loop-line.marks)) (sym rule)
    ∙ ap (with_marks rest) (sym c.mark_cited.ensures)

pub returns : goal.returns
returns c =
    sym (c.loop-line.invariant
    ∙ at_drop_all (λ (ls : List LineValue). with_marks (cited_places ls) c.loop-line.marks) c.args.lines.now c.loop-line.line-index
    c.loop-line-test.false)
