use Rattle.ct_codes.proofs.SpanLemmas.{length-coset_list, get_or-coset_list}
use Rattle.ct_laws.proofs.math.cosets.coset_lists_hold_all_choices.Goals as goal

pub returns : goal.returns
returns c = record { size = length-coset_list; places = get_or-coset_list }
