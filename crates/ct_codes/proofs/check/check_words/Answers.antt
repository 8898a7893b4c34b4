use Rattle.std.proofs.Common.{◌∙◌, sym, ap}
use Rattle.ct_words.specs.Check.{code_fault}
use Rattle.ct_words.proofs.CheckLemmas.{sound_from_check, code_from_no_fault}
use Rattle.ct_codes.proofs.check.check_words.Goals as goal

pub from_sorted-requires : goal.from_sorted-requires
from_sorted-requires c =
    let no_fault = sym (ap (code_fault c.args.entry) c.deref.ensures.value) ∙ sym c.in_default.ensures in
    record {
      code =
          sound_from_check c.args.entry c.args.words.items c.sort_unstable.new.self.items c.requires.entry c.requires.words no_fault
          c.sort_unstable.ensures.permutation c.sort_unstable.ensures.sorted;
    }

pub returns-clause-code : goal.returns-clause-code
returns-clause-code c =
    let no_fault = sym (ap (code_fault c.args.entry) c.deref.ensures.value) ∙ sym c.in_default.ensures in
    (code_from_no_fault c.args.entry c.args.words.items c.requires.words no_fault).2
