use Rattle.ct_words.proofs.CheckLemmas.{code_from_no_fault, no_fault_of_code}
use Rattle.ct_laws.proofs.math.codes.faultless_lists_are_codes.Goals as goal

pub returns : goal.returns
returns c = λ e words below. (code_from_no_fault e words below, λ h. no_fault_of_code e words h.0 h.1 h.2)
