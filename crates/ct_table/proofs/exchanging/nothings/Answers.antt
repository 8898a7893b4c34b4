-- One more, and all.
use Rattle.std.proofs.Common.{◌≡◌, List, [], ◌∷◌, ◌++◌, replicate, ap, ◌∙◌, arith}
use Rattle.std.proofs.lemmas.List.{replicate_more}
use Rattle.ct_rule_parts.specs.declared.support.Support.{Support}
use Rattle.ct_rule_parts.specs.declared.support.Support.TheVariants.{Nothing}
use Rattle.ct_table.proofs.exchanging.nothings.Goals as goal

pub loop-preserved : goal.loop-preserved
loop-preserved c =
    c.in_ok-push.ensures.items ∙ ap (λ (xs : List Support). xs ++ Nothing ∷ []) c.loop.invariant ∙ replicate_more c.loop.counter Nothing

pub returns : goal.returns
returns c =
    let all : c.loop.counter ≡ c.args.count = omega (arith, c.loop-test.false, c.loop.auto) in
    c.loop.invariant ∙ ap (λ k. replicate {A = Support} k Nothing) all
