use Rattle.std.proofs.Common.{◌≡◌, ℕ, ◌*◌, ◌%◌, ◌^◌, List, [], ◌∷◌, ◌++◌, map, get_or, bit_or, bit_xor, sym, ap, ap₂, subst, ◌∙◌, arith, IsPermutation}
use Rattle.std.proofs.lemmas.List.{map_more, take_all}
use Rattle.std.proofs.lemmas.Nat.{xor_lt}
use Rattle.ct_words.specs.Constructions.Joined.{followed_by}
use Rattle.ct_words.proofs.Constructions.JoinedLemmas.{or-followed_by}
use Rattle.ct_build.proofs.parts_and_sums.sums_after.Goals as goal

pub loop-v-preserved : goal.loop-v-preserved
loop-v-preserved c =
    let n = c.args.n in
    let u = c.args.u in
    let vs = c.args.vs.now in
    let i = c.loop-v.v-index in
    let v = get_or vs i 0 in
    let f : ℕ → ℕ = λ x. followed_by n u (bit_xor u x) in
    let short = c.requires.length in
    let pushed : bit_or (u * 2 ^ n % 2 ^ 32) (bit_xor u v) ≡ f v =
    or-followed_by n n u (bit_xor u v) c.requires.first (xor_lt n u v c.requires.first (c.requires.second i 0 c.loop-v-test.true))
    (omega (arith, short)) in
    c.in_ok-push.ensures.items
    ∙ ap₂ (λ (ws : List ℕ) (w : ℕ). ws ++ w ∷ []) c.loop-v.invariant pushed
    ∙ sym (map_more f vs i 0 c.loop-v-test.true)

pub returns-clause-permutation : goal.returns-clause-permutation
returns-clause-permutation c =
    let f : ℕ → ℕ = λ x. followed_by c.args.n c.args.u (bit_xor c.args.u x) in
    let all = take_all c.loop-v.v-index c.args.vs.now c.loop-v-test.false in
    subst (λ (ws : List ℕ). IsPermutation ws c.in_order.result.items) (c.loop-v.invariant ∙ ap (map f) all) c.in_order.ensures.permutation
