use Rattle.std.proofs.Common.{bit_xor, sym, ◌∙◌}
use Rattle.ct_words.proofs.WordLemmas.{IsSum-bit_xor, distance-is_weight, weight-count_ones}
use Rattle.ct_words.proofs.metric.distance.Goals as goal

pub returns : goal.returns
returns c = λ n below_a below_b.
    let sum = IsSum-bit_xor n c.args.a c.args.b below_a below_b in
    weight-count_ones n (bit_xor c.args.a c.args.b) sum.word ∙ sym (distance-is_weight n c.args.a c.args.b (bit_xor c.args.a c.args.b) sum)
