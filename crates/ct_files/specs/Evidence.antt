-- The evidence that a document's bytes give, or the first fault of the document.
use Rattle.std.specs.Prelude.{◌≡◌, ℕ, suc, ◌^◌, ◌<◌, ◌≤◌, nat_le, List, [], length, None, IsSome, is_some, Result, All}
use Rattle.toml.specs.Data.{Data}
use Rattle.ct_words.specs.declared.limits.TheConstants.{MAX_N}
use Rattle.ct_words.specs.Entry.{IsEntry}
use Rattle.ct_words.specs.declared.fault.TheConstants.{MAX_WORDS, MAX_REPRESENTATIVES}
use Rattle.ct_classes.specs.Partition.{words_of_classes}
use Rattle.ct_partitions.specs.Check.{wrong_count}
use Rattle.ct_build.specs.Build.{FitsStated}
use Rattle.ct_fields.specs.Steps.{◌>>=◌, ◌>>◌, check}
use Rattle.ct_build_files.specs.Operation.{needs_other}
use Rattle.ct_duals.specs.Dual.{IsDual}
use Rattle.ct_dual_files.specs.Fields.{IsOddSize}
use Rattle.ct_fields.specs.Format.{format_of}
use Rattle.ct_fields.specs.Document.{read_table}
use Rattle.ct_files.specs.Kinds.{kind_in, evidence_by}
use Rattle.ct_fields.specs.declared.document.TheConstants.{MAX_DOCUMENT}
use Rattle.ct_kind.specs.declared.evidence.Evidence.{Evidence}
use Rattle.ct_kind.specs.declared.evidence.Evidence.TheVariants.{Words, Cosets, Partition, Build, Product, Dual, JohnsonDual, Odd, JohnsonLocal}
use Rattle.ct_fields.specs.declared.fault.DocumentFault.{DocumentFault}
use Rattle.ct_fields.specs.declared.fault.DocumentFault.TheVariants.{Bytes}

-- the evidence of a document: its kind is judged first, then its format, then the fields of its kind
unfoldable pub evidence_of : Data → Result Evidence DocumentFault
evidence_of document = do
  kind ← kind_in document
  format_of document
  evidence_by kind document

-- what the bytes of a document read as, however many they are
unfoldable pub read_without_limit : List ℕ → Result Evidence DocumentFault
read_without_limit bytes = do
  document ← read_table bytes
  evidence_of document

-- what a document reads as: its evidence, or its first fault
unfoldable pub read_of : List ℕ → Result Evidence DocumentFault
read_of bytes = do
  check (nat_le (length bytes) MAX_DOCUMENT) (Bytes (length bytes))
  read_without_limit bytes

-- what evidence keeps that is read: an entry of the table, and words of its length, 1 to MAX_WORDS of them; of cosets, whose entry has no
-- weight, at most MAX_N basis words and 1 to MAX_REPRESENTATIVES representatives; of a partition, a distance between classes from 1 to that of
-- a class, words of the length of the entry, and no count that is wrong; of a product, 1 to MAX_N + 1 pairs, one alone without weight; of a build, a step that fits the entry, and another part exactly
-- where the step needs one; the form of a dual, whose entry has a weight exactly where its kind is jdual or jlocal, and which allows nothing where it
-- is jdual, and with it, where its kind is odd, a number of words that is odd and in its range
abbrev pub IsSound : Evidence → Type 0
IsSound (Words e words) = IsEntry e × All (λ x. x < 2 ^ e.n) words × (1 ≤ length words) × (length words ≤ MAX_WORDS)
IsSound (Cosets e basis representatives) =
    IsEntry e × (e.w ≡ None) × All (λ x. x < 2 ^ e.n) basis × All (λ x. x < 2 ^ e.n) representatives × (length basis ≤ MAX_N)
    × (1 ≤ length representatives) × (length representatives ≤ MAX_REPRESENTATIVES)
IsSound (Partition e between classes) =
    IsEntry e × (1 ≤ between) × (between ≤ e.d) × All (λ x. x < 2 ^ e.n) (words_of_classes classes) × (wrong_count classes ≡ None)
IsSound (Product e pairs) = IsEntry e × (1 ≤ length pairs) × (length pairs ≤ suc MAX_N) × (e.w ≡ None → length pairs ≡ 1)
IsSound (Build e step part other) = FitsStated step e × (is_some other ≡ needs_other step)
IsSound (Dual d) = IsDual d × (d.entry.w ≡ None)
IsSound (JohnsonDual d) = IsDual d × IsSome d.entry.w × (d.y ≡ [])
IsSound (Odd d m) = IsDual d × (d.entry.w ≡ None) × IsOddSize m
IsSound (JohnsonLocal d) = IsDual d × IsSome d.entry.w
