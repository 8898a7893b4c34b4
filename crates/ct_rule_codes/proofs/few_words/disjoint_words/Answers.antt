use Rattle.std.proofs.Common.{◌/◌, length, ap, subst, ◌∙◌, IsPermutation}
use Rattle.ct_rule_codes.proofs.FewWords.{sound_side_by_side, length-sorted_side_by_side}
use Rattle.ct_rule_codes.proofs.few_words.disjoint_words.Goals as goal

pub from_sorted-requires : goal.from_sorted-requires
from_sorted-requires c =
    let sorted = c.sort_unstable.new.self.items in
    record {
      code = sound_side_by_side c.args.n c.args.w sorted c.requires.weight c.requires.length
          (subst (λ words. IsPermutation words sorted) c.in_ok-words.ensures c.sort_unstable.ensures.permutation) c.sort_unstable.ensures.sorted;
    }

pub returns-clause-size : goal.returns-clause-size
returns-clause-size c =
    let sorted = c.sort_unstable.new.self.items in
    ap (λ v. length v.words) c.from_sorted.ensures.value
    ∙ length-sorted_side_by_side c.args.w (c.args.n / c.args.w) sorted
    (subst (λ words. IsPermutation words sorted) c.in_ok-words.ensures c.sort_unstable.ensures.permutation)
