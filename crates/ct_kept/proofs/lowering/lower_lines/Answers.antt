use Rattle.std.proofs.Common.{◌≡◌, ℕ, ◌<◌, ◌≤◌, List, ◌++◌, length, map, take, take_all, drop, append-nil, slice_set, sym, ap, ◌∙◌, arith}
use Rattle.std.proofs.lemmas.List.{drop_all}
use Rattle.std.proofs.lemmas.List.Edits.{map_over_more}
use Rattle.ct_rules.specs.Derivation.{LineValue}
use Rattle.ct_rules.specs.Removal.{marked, lowered_line}
use Rattle.ct_kept.proofs.lowering.lower_lines.Goals as goal

pub loop-line-preserved : goal.loop-line-preserved
loop-line-preserved c =
    let within : c.loop-line.line-index < length c.args.lines.now =
    omega (arith, c.loop-line-test.true, c.loop-line.auto.lines) in
    ap (slice_set c.loop-line.lines c.loop-line.line-index)
    (λ j. record {
      claim = c.line.inside.claim;
      rule = c.lowered-line-inside.ensures j;
      from = c.line.inside.from.items;
    })
    ∙ ap (λ (l : LineValue). slice_set c.loop-line.lines c.loop-line.line-index (lowered_line (marked c.args.gone.now) l))
    (c.line.view_is ∙ sym c.line-item.is)
    ∙ map_over_more (lowered_line (marked c.args.gone.now)) c.args.lines.now c.loop-line.lines c.loop-line.line-index
    c.line-item.result within c.loop-line.invariant c.line-item.is

-- the lines of all are lowered, once none is left
all_lowered : (f : LineValue → LineValue) (lines now : List LineValue) (n : ℕ) → now ≡ map f (take n lines) ++ drop n lines → length lines ≤ n
    → now ≡ map f lines
all_lowered f lines now n is past =
    is ∙ (λ i. map f (take_all n lines past i) ++ drop_all n lines past i) ∙ append-nil (map f lines)

pub returns : goal.returns
returns c =
    all_lowered (lowered_line (marked c.args.gone.now)) c.args.lines.now c.loop-line.lines c.loop-line.line-index c.loop-line.invariant c.loop-line-test.false
