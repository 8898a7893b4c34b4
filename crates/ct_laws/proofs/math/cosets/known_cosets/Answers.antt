use Rattle.std.proofs.Common.{refl}
use Rattle.ct_words.specs.Word.{distance}
use Rattle.ct_words.specs.Coset.{coset_list, coset_fault}
use Rattle.ct_laws.proofs.math.cosets.known_cosets.Goals as goal

pub returns : goal.returns
unfolding distance coset_list coset_fault
returns c = record {
  no_basis = refl;
  listed = refl;
  accepted = refl;
  close = refl;
  empty = refl;
  sum_is_close = refl;
  dependent = refl;
  same_coset = refl;
}
