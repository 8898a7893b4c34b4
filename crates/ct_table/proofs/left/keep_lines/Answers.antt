use Rattle.std.proofs.Common.{◌≡◌, ◌+◌, ◌++◌, ◌∷◌, [], List, ℕ, Option, length, drop, option_map, sym, ap, subst, ◌∙◌}
use Rattle.std.proofs.lemmas.List.{at_drop_more, at_drop_all}
use Rattle.ct_rules.specs.Derivation.{LineValue}
use Rattle.ct_rules.specs.Removal.{marked}
use Rattle.ct_table.specs.Closing.{HasMoreLines}
use Rattle.ct_kept.specs.Kept.{KeptValue}
use Rattle.ct_table.specs.Inside.Walk.{moved_line, with_moved, walk}
use Rattle.ct_table.proofs.MoreLines.{HasMoreLines-refl, HasMoreLines-moved}
use Rattle.ct_table.proofs.left.keep_lines.Goals as goal

pub returns-in_err-push-clause-lines : goal.returns-in_err-push-clause-lines
returns-in_err-push-clause-lines c =
    subst (HasMoreLines c.args.kept.now) (sym c.in_ok-there.ensures.kept)
    (HasMoreLines-moved c.args.kept.now c.loop-line.kept
    (moved_line c.line_count-base.result (marked c.args.gone.now) c.deref.result.now c.line-item.result) c.loop-line.invariant.1)

pub loop-line-preserved : goal.loop-line-preserved
loop-line-preserved c =
    let base = c.line_count-base.result in
    let gone = marked c.args.gone.now in
    let later = c.args.later.now in
    let i = c.loop-line.line-index in
    let l = c.line-item.result in
    let moved = c.loop-line.moved.items in
    let kept = c.loop-line.kept in
    let rest = drop (c.loop-line.line-index + 1) c.args.later.now in
    let next =
    at_drop_more (walk base gone moved kept) later i l c.loop-line-test.true
    ∙ ap (λ (k : LineValue). walk c.line_count-base.result (marked c.args.gone.now) c.loop-line.moved.items c.loop-line.kept (k ∷ drop (c.loop-line.line-index + 1) c.args.later.now)) (sym c.line-item.is) in
    let moves : moved_line c.line_count-base.result (marked c.args.gone.now) c.deref.result.now c.line-item.result
    ≡ moved_line c.line_count-base.result (marked c.args.gone.now) c.loop-line.moved.items c.line-item.result =
    ap (λ (marks : List (Option ℕ)). moved_line c.line_count-base.result (marked c.args.gone.now) marks c.line-item.result) c.deref.ensures.value in
    let two : moved ++ option_map (λ (k : LineValue). length kept.lines) (moved_line base gone moved l) ∷ [] ≡ c.push.new.self.items =
    ap (λ (o : Option LineValue). c.loop-line.moved.items ++ option_map (λ (k : LineValue). length c.loop-line.kept.lines) o ∷ []) (sym moves)
    ∙ ap (λ (o : Option ℕ). c.loop-line.moved.items ++ o ∷ []) (sym c.in_ok-there.ensures.there) ∙ sym c.in_ok-push.ensures.items in
    let three : with_moved kept (moved_line base gone moved l) ≡ c.move_line.new.kept =
    ap (with_moved c.loop-line.kept) (sym moves) ∙ sym c.in_ok-there.ensures.kept in (
      c.loop-line.invariant.0 ∙ next
          ∙ ap (λ (m : List (Option ℕ)). walk base gone m (with_moved kept (moved_line base gone moved l)) rest) two
          ∙ ap (λ (k : KeptValue). walk base gone c.push.new.self.items k rest) three,
      subst (HasMoreLines c.args.kept.now) (sym c.in_ok-there.ensures.kept)
          (HasMoreLines-moved c.args.kept.now c.loop-line.kept
          (moved_line c.line_count-base.result (marked c.args.gone.now) c.deref.result.now c.line-item.result) c.loop-line.invariant.1),
    )

pub returns-clause-walked : goal.returns-clause-walked
returns-clause-walked c =
    let base = c.line_count-base.result in
    let gone = marked c.args.gone.now in
    sym (ap (λ (n : ℕ). walk n (marked c.args.gone.now) [] c.args.kept.now c.args.later.now) (sym c.line_count-base.ensures) ∙ c.loop-line.invariant.0
    ∙ at_drop_all (walk base gone c.loop-line.moved.items c.loop-line.kept) c.args.later.now c.loop-line.line-index c.loop-line-test.false)

pub loop-line-init : goal.loop-line-init
loop-line-init c = (
  ap (λ (m : List (Option ℕ)). walk c.line_count-base.result (marked c.args.gone.now) m c.args.kept.now c.args.later.now)
      (sym c.new-moved.ensures.items),
  HasMoreLines-refl c.args.kept.now,
)
