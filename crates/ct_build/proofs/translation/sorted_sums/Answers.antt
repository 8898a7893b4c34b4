use Rattle.std.proofs.Common.{rules, ◌≡◌, ℕ, List, bit_xor, subst, ap, ◌∙◌, IsPermutation}
use Rattle.std.specs.Slice.Iter.{iter_rest}
use Rattle.std.specs.Vec.{vec_items}
use Rattle.std.proofs.lemmas.Iterator.{YieldsList-from_slice, YieldsList-from_map, items_from_collect}
use Rattle.std.proofs.lemmas.Result.{IfOk-at_ok}
use Rattle.ct_words.specs.Constructions.Translation.{translated}
use Rattle.ct_build.proofs.translation.sorted_sums.Goals as goal

pub returns-clause-permutation : goal.returns-clause-permutation
returns-clause-permutation c =
    let words = c.args.words.now in
    subst (λ (ws : List ℕ). IsPermutation ws c.in_order.result.items)
    (IfOk-at_ok (λ v. vec_items v ≡ translated c.args.by words) c.in_ok-sums.was
    (items_from_collect c.collect.result c.collect.ensures.ran
    (YieldsList-from_map _ (λ x. bit_xor x c.args.by) (YieldsList-from_slice words (ap iter_rest c.map.ensures.source ∙ c.iter.ensures.rest))
    c.map.ensures.closure (λ x r q k. search rules))))
    c.in_order.ensures.permutation

pub returns-clause-sorted : goal.returns-clause-sorted
returns-clause-sorted c = c.in_order.ensures.sorted
