use Rattle.std.proofs.Common.{subst, rules}
use Rattle.ct_words.specs.Code.{IsSoundCode}
use Rattle.ct_rule_codes.proofs.FewWords.{sound_word}
use Rattle.ct_rule_codes.proofs.few_words.one_word.Goals as goal

pub from_sorted-requires : goal.from_sorted-requires
from_sorted-requires c =
    let e = c.args.entry in
    record {
      code = subst (λ words. IsSoundCode (record { n = e.n; d = e.d; w = e.w; words = words })) (search rules) (sound_word e c.requires);
    }
