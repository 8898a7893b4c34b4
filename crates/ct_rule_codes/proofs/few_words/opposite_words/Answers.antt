use Rattle.std.proofs.Common.{None, subst, rules}
use Rattle.ct_words.specs.Code.{IsSoundCode}
use Rattle.ct_rule_codes.proofs.FewWords.{sound_opposite}
use Rattle.ct_rule_codes.proofs.few_words.opposite_words.Goals as goal

pub from_sorted-requires : goal.from_sorted-requires
from_sorted-requires c =
    let n = c.args.n in
    let d = c.args.d in
    record {
      code = subst (λ words. IsSoundCode (record { n = n; d = d; w = None; words = words })) (search rules)
          (sound_opposite n d c.requires.length c.requires.distance);
    }
