use Rattle.std.proofs.Common.{arith}
use Rattle.ct_words.proofs.EntryLemmas.{entry_limits}
use Rattle.ct_codes.proofs.CosetLemmas.{cosets_from_no_fault, no_fault_of_cosets}
use Rattle.ct_laws.proofs.math.cosets.faultless_cosets_are_codes.Goals as goal

pub returns : goal.returns
returns c = λ e basis representatives entry plain basis_below below. (
  λ none.
      let far = (entry_limits e entry).distance_from in
      cosets_from_no_fault e basis representatives (omega arith) plain basis_below below none,
  λ h. no_fault_of_cosets e basis representatives h.0 h.1 h.2 h.3 h.4,
)
