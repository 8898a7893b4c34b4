use Rattle.std.proofs.Common.{◌≡◌, ◌<◌, ◌≤◌, ◌+◌, ◌++◌, ◌∷◌, [], List, length, sym, ap, subst, ◌∙◌, arith}
use Rattle.std.specs.Prelude.{slice_index, if◌then◌else◌}
use Rattle.std.proofs.lemmas.List.Elements.{All-weaker}
use Rattle.ct_rules.specs.Derivation.{LineValue}
use Rattle.ct_derive.specs.Pruning.{is_marked, moved_line, unmarked, ArePlacesLeft}
use Rattle.ct_rules.specs.Removal.{lowered_place}
use Rattle.ct_derive.proofs.PrunedLines.{length-pruned, left-none, left-next, put_next, pruned-none}
use Rattle.ct_derive.proofs.MarkedLines.{named_below_line}
use Rattle.ct_reasons.proofs.pruning.marked_lines.Goals as goal

pub loop-place-init : goal.loop-place-init
loop-place-init c = record {
  lines = c.new-lines.ensures.items ∙ sym (pruned-none (unmarked c.args.marks.now));
  moved = subst (ArePlacesLeft (unmarked c.args.marks.now) 0) (sym c.new-moved.ensures.items) (left-none (unmarked c.args.marks.now));
}

pub put_line-requires : goal.put_line-requires
put_line-requires c =
    let below = named_below_line c.args.table.now.supports c.args.table.now.lines c.loop-place.place c.line.result.now c.line.ensures.derivation c.line.ensures.line in
    let size = c.loop-place.invariant.moved.count in
    All-weaker (λ p. p < c.loop-place.place) (λ p. p < length c.deref.result.now)
    (λ p lower. omega (arith, c.deref.ensures.len, ap length c.deref.ensures.value, size)) c.line.result.now.from below

pub loop-place-preserved : goal.loop-place-preserved
loop-place-preserved c =
    let gone = unmarked c.args.marks.now in
    let all = c.args.table.now.lines in
    let i = c.loop-place.place in
    let l = c.line.result.now in
    let below = named_below_line c.args.table.now.supports all i l c.line.ensures.derivation c.line.ensures.line in
    let within : c.loop-place.place ≤ length c.args.table.now.lines = omega (arith, c.requires, c.loop-place-test.true) in
    let left = subst (ArePlacesLeft gone i) (sym c.deref.ensures.value) c.loop-place.invariant.moved in
    let size : c.len-there.result ≡ lowered_place (unmarked c.args.marks.now) c.loop-place.place =
    omega (arith, c.len-there.ensures, c.loop-place.lines.ok, ap (λ (lines : List LineValue). length lines) c.loop-place.invariant.lines, length-pruned gone all i within) in
    record {
      lines = c.in_ok-put_line.ensures
          ∙ ap (λ (lines : List LineValue). lines ++ (if is_marked c.args.marks.now c.loop-place.place then moved_line (slice_index c.deref.result.now) c.line.result.now ∷ [] else []))
          c.loop-place.invariant.lines
          ∙ put_next c.args.marks.now all i l c.deref.result.now c.line.ensures.line left below;
      moved = subst (ArePlacesLeft gone (i + 1)) (sym c.in_ok-push.ensures.items)
          (left-next gone i c.loop-place.moved.items c.len-there.result c.loop-place.invariant.moved size);
    }
