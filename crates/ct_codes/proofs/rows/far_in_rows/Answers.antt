use Rattle.std.proofs.Common.{ℕ, nat_lt, map, sym, ap, ◌∙◌, arith}
use lib.Count.{count_trailing_zeros}
use lib.Lanes.{mask_l}
use Rattle.std.specs.Prelude.{min}
use Rattle.std.proofs.lemmas.Simd.{leading_from_mask_l, trailing_mask_l}
use Rattle.ct_words.specs.Word.{distance}
use Rattle.ct_codes.proofs.RowLemmas.{below_limit}
use Rattle.ct_codes.proofs.rows.far_in_rows.Goals as goal

pub returns-then-close-eq0 : goal.returns-then-close-eq0
returns-then-close-eq0 c = λ block long are.
    let close = λ (x : ℕ). nat_lt (distance 32 c.args.word x) c.args.d in
    let mask = c.lanes_below-close.ensures ∙ ap (λ (limit : ℕ). mask_l (map (λ e. nat_lt e limit) c.distances.result)) c.limit_of-limit.ensures
    ∙ ap (λ xs. mask_l (map (λ e. nat_lt e (min c.args.d 33)) xs)) (c.distances.ensures.distances block long are)
    ∙ ap mask_l (below_limit c.args.word c.args.d block) in
    sym (leading_from_mask_l close block (sym mask ∙ c.if-close-eq0.true) ∙ long)

pub returns-else-close-eq0 : goal.returns-else-close-eq0
returns-else-close-eq0 c = λ block long are.
    let close = λ (x : ℕ). nat_lt (distance 32 c.args.word x) c.args.d in
    let mask = c.lanes_below-close.ensures ∙ ap (λ (limit : ℕ). mask_l (map (λ e. nat_lt e limit) c.distances.result)) c.limit_of-limit.ensures
    ∙ ap (λ xs. mask_l (map (λ e. nat_lt e (min c.args.d 33)) xs)) (c.distances.ensures.distances block long are)
    ∙ ap mask_l (below_limit c.args.word c.args.d block) in
    ap (count_trailing_zeros 64) mask ∙ trailing_mask_l close 64 block (omega arith) (omega arith)
