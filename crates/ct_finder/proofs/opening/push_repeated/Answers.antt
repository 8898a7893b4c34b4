-- One more of the same.
use Rattle.std.proofs.Common.{◌≡◌, ℕ, List, [], ◌∷◌, ◌++◌, replicate, ap, ap₂, sym, ◌∙◌, append_assoc, append-nil, arith}
use Rattle.std.specs.Prelude.{ℤ}
use Rattle.std.proofs.lemmas.Int.{to_z-of_z}
use Rattle.std.proofs.lemmas.List.{replicate_more}
use mir.Val.{to_z, of_z}
use mir.Syntax.{w64}
use Rattle.ct_finder.proofs.opening.push_repeated.Goals as goal

pub loop-init : goal.loop-init
loop-init c = sym (append-nil c.args.entries.now.items)

pub loop-preserved : goal.loop-preserved
loop-preserved c =
    let old = c.args.entries.now.items in
    let x = to_z w64 (of_z w64 c.args.entry) in
    let k = c.loop.counter in
    c.in_ok-push.ensures.items
    ∙ ap (λ (es : List ℤ). es ++ x ∷ []) c.loop.invariant
    ∙ append_assoc old (replicate k x) (x ∷ [])
    ∙ ap (λ es. old ++ es) (replicate_more k x)

pub returns : goal.returns
returns c =
    let over = c.loop-test.false in
    let within = c.loop.auto.counter-end in
    let end : c.loop.counter ≡ c.args.count = omega (arith, over, within) in
    c.loop.invariant ∙ ap₂ (λ (m : ℕ) (x : ℤ). c.args.entries.now.items ++ replicate m x) end (to_z-of_z w64 c.args.entry c.ranges.entry)
