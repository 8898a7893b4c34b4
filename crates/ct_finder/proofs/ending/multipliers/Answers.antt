use Rattle.std.proofs.Common.{rules, ◌+◌, ◌-◌, ◌≤◌, List, [], ◌∷◌, ◌++◌, length, take, drop, get_or, ap, ap₂, sym, ◌∙◌, arith}
use Rattle.std.specs.Prelude.{ℤ, pos}
use Rattle.std.proofs.lemmas.Int.{to_z-of_z}
use Rattle.std.proofs.lemmas.List.{take_more}
use mir.Val.{SFits}
use mir.Syntax.{w64}
use Rattle.ct_finder.proofs.PlaceLemmas.{multipliers-read}
use Rattle.ct_finder.proofs.ending.multipliers.Goals as goal

pub returns : goal.returns
returns c =
    let range = c.args.range.now in
    let cost = c.args.cost.now in
    let done : length (take (length cost - 1 - (length range + 1)) (drop (length range + 1) cost)) ≤ c.loop-entry.entry-index = omega arith in
    c.from_vec.ensures ∙ c.loop-entry.invariant ∙ multipliers-read range c.args.degree cost c.loop-entry.entry-index c.requires done

pub loop-entry-preserved : goal.loop-entry-preserved
loop-entry-preserved c =
    let range = c.args.range.now in
    let cost = c.args.cost.now in
    let i = c.loop-entry.entry-index in
    let entries = take (length cost - 1 - (length range + 1)) (drop (length range + 1) cost) in
    let f : SFits w64 (get_or entries i (pos 0)) = search rules in
    c.in_ok-push-2.ensures.items
    ∙ ap₂ (λ (es : List ℤ) (e : ℤ). es ++ e ∷ []) c.loop-entry.invariant (to_z-of_z w64 (get_or entries i (pos 0)) f)
    ∙ ap (λ (es : List ℤ). get_or cost 0 (pos 0) ∷ es) (sym (take_more entries i (pos 0) c.loop-entry-test.true))
