-- Evidence of kind words: the words of a code, one by one.
use Rattle.std.specs.Prelude.{ℕ, true, false, List, [], length, Some, None, option_map, codes}
use Rattle.ct_words.specs.declared.entry.Entry.{Entry}
use Rattle.ct_words.specs.Check.{code_fault}
use Rattle.ct_kind.specs.KindParts.{KindParts, support_from}
use Rattle.ct_kind.specs.declared.fault.SubmitFault.TheVariants as fault

-- the code is the words; all of them are stored
abbrev pub words_kind : Entry → List ℕ → KindParts
words_kind e words = record {
  text = codes "words";
  entry = e;
  parts = [];
  reason = λ known. option_map fault.Code (code_fault e words);
  words = λ known. Some words;
  size = λ known. Some (length words);
  has_code = true;
  partition = None;
  listed = length words;
  is_stored = false;
  gives = support_from e;
}
