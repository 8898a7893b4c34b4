use Rattle.std.proofs.Common.{◌≡◌, ℕ, ◌≤◌, List, Option, Some, None, OnOk, sym, ap, subst, ◌∙◌, arith}
use Rattle.std.proofs.lemmas.Result.{IfOk-weaker, IfErr-weaker}
use Rattle.ct_words.specs.declared.limits.TheConstants.{MAX_BOUND}
use Rattle.ct_partitions.specs.Product.{Factors, product_distance, product_size}
use Rattle.ct_partition_files.specs.ProductKind.{ids_of, factors_named, wrong_id, short_of}
use Rattle.ct_kind.specs.Named.{first_missing}
use Rattle.ct_kind.specs.declared.fault.SubmitFault.{SubmitFault}
use Rattle.ct_partition_files.proofs.ProductKind.{named-there}
use Rattle.ct_partition_files.proofs.ProductChecks.{early-found, early-none, late-reason, small-size}
use Rattle.ct_partition_files.proofs.product_kind.check.Goals as goal

pub returns-in-Some-clause-fault : goal.returns-in-Some-clause-fault
returns-in-Some-clause-fault g c =
    let known = g.P.Partitions.known c.args.pieces.now in
    let pairs = c.args.pairs.now in
    λ other. early-found (first_missing known (ids_of pairs)) (wrong_id c.args.entry known pairs) (short_of c.args.entry (product_distance (factors_named known pairs))) c.in-Some.fault
    (sym c.id_fault.ensures ∙ c.in-Some.is)

pub factors-requires-clause-there : goal.factors-requires-clause-there
factors-requires-clause-there g c =
    let known = g.P.Partitions.known c.args.pieces.now in
    let pairs = c.args.pairs.now in
    let none = early-none (first_missing known (ids_of pairs)) (wrong_id c.args.entry known pairs) (sym c.id_fault.ensures ∙ c.in_default.is) in
    named-there c.args.entry known pairs none.1

pub factors-requires-clause-few : goal.factors-requires-clause-few
factors-requires-clause-few g c = let few = c.requires.few in omega arith

pub sized-requires-clause-some : goal.sized-requires-clause-some
sized-requires-clause-some g c = let some = c.requires.some in let count = c.in_ok-named.ensures.count in omega arith

pub sized-requires-clause-few : goal.sized-requires-clause-few
sized-requires-clause-few g c = let few = c.requires.few in let count = c.in_ok-named.ensures.count in omega arith

pub sized-requires-clause-small : goal.sized-requires-clause-small
sized-requires-clause-small g c =
    let known = g.P.Partitions.known c.args.pieces.now in
    let pairs = c.args.pairs.now in
    let none = early-none (first_missing known (ids_of pairs)) (wrong_id c.args.entry known pairs) (sym c.id_fault.ensures ∙ c.in_default.is) in
    subst (λ (fs : List Factors). c.args.entry.d ≤ product_distance fs → product_size fs ≤ MAX_BOUND) (sym c.in_ok-named.ensures.factors)
    (small-size known c.args.entry pairs c.are_sound.ensures c.requires.entry c.requires.some c.requires.weighted none.1)

pub returns-clause-size : goal.returns-clause-size
returns-clause-size g c =
    IfOk-weaker c.sized.result _ _ (λ (size : ℕ) is. ap Some (sym (is ∙ ap product_size c.in_ok-named.ensures.factors))) c.sized.ensures.size

pub returns-clause-accepted : goal.returns-clause-accepted
returns-clause-accepted g c =
    let known = g.P.Partitions.known c.args.pieces.now in
    let pairs = c.args.pairs.now in
    let none = early-none (first_missing known (ids_of pairs)) (wrong_id c.args.entry known pairs) (sym c.id_fault.ensures ∙ c.in_default.is) in
    let reason = late-reason known c.args.entry pairs none.0 none.1
    ∙ ap (λ (fs : List Factors). short_of c.args.entry (product_distance fs)) (sym c.in_ok-named.ensures.factors) in
    subst (λ (found : Option SubmitFault). OnOk c.sized.result (found ≡ None)) (sym reason) c.sized.ensures.accepted

pub returns-clause-fault : goal.returns-clause-fault
returns-clause-fault g c =
    let known = g.P.Partitions.known c.args.pieces.now in
    let pairs = c.args.pairs.now in
    let none = early-none (first_missing known (ids_of pairs)) (wrong_id c.args.entry known pairs) (sym c.id_fault.ensures ∙ c.in_default.is) in
    let reason = late-reason known c.args.entry pairs none.0 none.1
    ∙ ap (λ (fs : List Factors). short_of c.args.entry (product_distance fs)) (sym c.in_ok-named.ensures.factors) in
    IfErr-weaker c.sized.result _ _ (λ (f : SubmitFault) is other. reason ∙ is) c.sized.ensures.fault

pub sized-requires-clause-places : goal.sized-requires-clause-places
sized-requires-clause-places g c = c.in_ok-named.ensures.places
