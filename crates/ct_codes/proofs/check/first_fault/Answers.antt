use Rattle.std.proofs.Common.{◌∙◌, sym}
use Rattle.ct_words.proofs.CheckLemmas.{fault_of_size, fault_of_weight, fault_of_pairs}
use Rattle.ct_codes.proofs.check.first_fault.Goals as goal

pub returns-in-Some : goal.returns-in-Some
returns-in-Some c = sym (fault_of_size c.args.entry c.args.words.now c.in-Some.fault (sym c.in-Some.ensures))

pub returns-in-Some-weight_fault : goal.returns-in-Some-weight_fault
returns-in-Some-weight_fault c =
    sym (fault_of_weight c.args.entry c.args.words.now c.in-Some-weight_fault.fault (sym c.in_default.ensures) (sym (c.in-Some-weight_fault.ensures c.args.entry.n c.requires.words)))

pub returns : goal.returns
returns c = c.pair_fault.ensures c.args.entry.n c.requires.words ∙ sym (fault_of_pairs c.args.entry c.args.words.now (sym c.in_default.ensures) (sym (c.in_default-weight_fault.ensures c.args.entry.n c.requires.words)))
