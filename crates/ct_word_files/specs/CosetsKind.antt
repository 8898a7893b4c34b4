-- Evidence of kind cosets: the words of a code as a basis and representatives.
use Rattle.std.specs.Prelude.{◌≤◌, ℕ, ◌+◌, true, false, List, [], length, Some, None, option_map, codes}
use Rattle.ct_words.specs.declared.entry.Entry.{Entry}
use Rattle.ct_words.specs.declared.fault.TheConstants.{MAX_COSET_WORK}
use Rattle.ct_words.specs.Code.{IsCodeOf}
use Rattle.ct_words.specs.Coset.{coset_list, coset_fault, coset_work}
use Rattle.ct_kind.specs.KindParts.{KindParts, support_from}
use Rattle.ct_kind.specs.declared.fault.SubmitFault.TheVariants as fault

-- the code is the words of all choices; the basis and the representatives are stored
abbrev pub cosets_kind : Entry → List ℕ → List ℕ → KindParts
cosets_kind e basis representatives = record {
  text = codes "cosets";
  entry = e;
  parts = [];
  reason = λ known. option_map fault.Code (coset_fault e basis representatives);
  words = λ known. Some (coset_list basis representatives);
  size = λ known. Some (length (coset_list basis representatives));
  has_code = true;
  partition = None;
  listed = length basis + length representatives;
  is_stored = false;
  gives = support_from e;
}

-- the work of the check is within the limit, and the words of all choices are a code of the entry
abbrev pub IsCosetsChecked : Entry → List ℕ → List ℕ → Type 0
IsCosetsChecked e basis representatives = (coset_work basis representatives ≤ MAX_COSET_WORK) × IsCodeOf e (coset_list basis representatives)
