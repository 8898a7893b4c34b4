use Rattle.std.proofs.Common.{ℕ, ◌<◌, ◌^◌, nat_lt, List, drop, get_or, sym, ap, ◌∙◌, arith}
use Rattle.std.specs.Prelude.{All}
use lib.Count.{count_trailing_zeros}
use lib.Lanes.{chunk}
use Rattle.std.proofs.Math.Facts.{Fits-lt-pow}
use Rattle.std.proofs.lemmas.List.Elements.{All-from_get_or, All-take, All-drop}
use Rattle.std.proofs.lemmas.Simd.{length-chunk, leading_from_mask_l, trailing_mask_l}
use Rattle.ct_words.specs.Word.{distance}
use Rattle.ct_codes.proofs.NearLemmas.{close_mask}
use Rattle.ct_codes.proofs.near.far_in_block.Goals as goal

-- the words of a block are of length 32
block_fits : (words : List ℕ) (at : ℕ) → ((i : ℕ) → get_or words i 0 < 2 ^ 32) → All (λ x. x < 2 ^ 32) (chunk at 8 words)
block_fits words at fits =
    All-take (λ x. x < 2 ^ 32) 8 (drop at words) (All-drop (λ x. x < 2 ^ 32) at words (All-from_get_or (λ x. x < 2 ^ 32) words 0 (λ k h. fits k)))

pub returns-then-close-eq0 : goal.returns-then-close-eq0
returns-then-close-eq0 c =
    let v = chunk c.args.at 8 c.args.others.now in
    let long = length-chunk c.args.at 8 c.args.others.now c.requires in
    let fits = block_fits c.args.others.now c.args.at (λ k. Fits-lt-pow (c.type_inv.others k)) in
    let mask = close_mask c.args.word c.args.d v long (Fits-lt-pow c.ranges.word) fits in
    sym (leading_from_mask_l (λ x. nat_lt (distance 32 c.args.word x) c.args.d) v (sym mask ∙ c.if-close-eq0.true) ∙ long)

pub returns-else-close-eq0 : goal.returns-else-close-eq0
returns-else-close-eq0 c =
    let v = chunk c.args.at 8 c.args.others.now in
    let long = length-chunk c.args.at 8 c.args.others.now c.requires in
    let fits = block_fits c.args.others.now c.args.at (λ k. Fits-lt-pow (c.type_inv.others k)) in
    let mask = close_mask c.args.word c.args.d v long (Fits-lt-pow c.ranges.word) fits in
    ap (count_trailing_zeros 64) mask ∙ trailing_mask_l (λ x. nat_lt (distance 32 c.args.word x) c.args.d) 64 v (omega arith) (omega arith)
