-- What the summary of a sample says of codes.
use Rattle.std.specs.Prelude.{◌≡◌, ℕ, List, ◌++◌, sum_by, codes}
use Rattle.ct_words.specs.declared.entry.Entry.{Entry}
use Rattle.ct_words.specs.Code.{IsTrueLower, IsTrueUpper}
use Rattle.ct_words.specs.Entry.{IsEntry}
use Rattle.ct_words.specs.TableEntries.{table_entries}
use Rattle.ct_sample.specs.Summary.{named_line}

-- the output ends with the sums of true lower and of true upper bounds, one of each for each entry of the table
pub record AreTrueSums (output : List ℕ) : Type 0 where
  pub lower : Entry → ℕ
  pub upper : Entry → ℕ
  pub attained : (e : Entry) → IsEntry e → IsTrueLower e (lower e)
  pub limited : (e : Entry) → IsEntry e → IsTrueUpper e (upper e)
  pub before : List ℕ
  pub spelled : output ≡ before ++ named_line (codes "lower") (sum_by lower table_entries) ++ named_line (codes "upper") (sum_by upper table_entries)
