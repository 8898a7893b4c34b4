use Rattle.ct_text.proofs.Decimals.{read_is_printed, printed_is_read}
use Rattle.ct_laws.proofs.numbers.numbers_are_read_as_printed.Goals as goal

pub returns : goal.returns
returns c = λ text n. (read_is_printed text n, λ h. printed_is_read text n h.0 h.1)
