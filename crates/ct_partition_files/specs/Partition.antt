-- The documents of kind partition: their fields, what the texts of the classes state, and what is written for a partition.
use Rattle.std.specs.Prelude.{◌≡◌, ℕ, pos, ◌^◌, ◌<◌, ◌≤◌, ◌⊎◌, List, [], ◌∷◌, length, Option, Some, Contains, Result, Ok, Err, All}
use Rattle.toml.specs.Data.{Data, integer}
use Rattle.ct_words.specs.declared.entry.Entry.{Entry}
use Rattle.ct_words.specs.declared.fault.TheConstants.{MAX_WORDS}
use Rattle.ct_classes.specs.declared.fault.TheConstants.{MAX_CLASSES}
use Rattle.ct_classes.specs.Partition.{words_of_classes}
use Rattle.ct_partitions.specs.Check.{counted}
use Rattle.ct_fields.specs.Steps.{◌>>=◌, ◌>>◌}
use Rattle.ct_fields.specs.Tables.{IsFirstWrong}
use Rattle.ct_fields.specs.Schema.{Schema, states, needs}
use Rattle.ct_fields.specs.EntrySchema.{number_form, any_entry}
use Rattle.ct_fields.specs.WrittenSchema.{with_entry}
use Rattle.ct_fields.specs.declared.field.FieldName.{FieldName}
use Rattle.ct_fields.specs.declared.field.FieldName.TheVariants as name
use Rattle.ct_fields.specs.declared.fault.DocumentFault.{DocumentFault}
use Rattle.ct_fields.specs.declared.fault.DocumentFault.TheVariants.{Digits, Size}
use Rattle.ct_kind.specs.declared.evidence.Evidence.{Evidence}
use Rattle.ct_kind.specs.declared.evidence.Evidence.TheVariants.{Partition}
use Rattle.ct_partition_files.specs.Lists.{text_lists_form, class_list, all_texts, class_texts, classes_from, class_count}

-- the evidence of the texts of the classes, for the entry and the distance between classes
abbrev pub partition_of_lists : Entry → ℕ → List (List (List ℕ)) → Result Evidence DocumentFault
partition_of_lists e between lists = do
  classes ← classes_from e.n 0 lists
  class_count classes
  Ok (Partition e between classes)

-- a document of kind partition: an entry, the distance between classes, from 1 to that of a class, and the texts of the classes
abbrev pub partition_schema : Schema Evidence
partition_schema =
    any_entry (λ e. needs (number_form name.D1 1 e.d) (λ between. needs (text_lists_form name.Classes) (λ lists. states (partition_of_lists e between lists))))

-- what is written for a partition
abbrev pub partition_fields : Entry → ℕ → List (List ℕ) → List (FieldName × Option Data)
partition_fields e between classes = with_entry e ((name.D1, Some (integer (pos between))) ∷ (name.Classes, Some (class_list e.n classes)) ∷ [])

-- the lists are those of the texts of the words of the classes, each of length n
pub record AreListsOf (n : ℕ) (classes : List (List ℕ)) (lists : List (List (List ℕ))) : Type 0 where
  pub same : lists ≡ class_texts n classes
  pub lengths : All (λ x. x < 2 ^ n) (words_of_classes classes)

-- there are 1 to MAX_CLASSES classes
abbrev pub HasClassCount : List (List ℕ) → Type 0
HasClassCount classes = (1 ≤ length classes) × (length classes ≤ MAX_CLASSES)

-- the number of classes is 0 or too great, or else there is a class without words and the count is 0, or else the number of words, as far as
-- 64 bits count, is too great
abbrev pub IsWrongClassCount : List (List ℕ) → ℕ → Type 0
IsWrongClassCount classes c =
    ((c ≡ length classes) × ((c ≡ 0) ⊎ (MAX_CLASSES < c)))
    ⊎ ((HasClassCount classes × (c ≡ 0) × Contains classes [])
    ⊎ (HasClassCount classes × All (λ words. 1 ≤ length words) classes × (c ≡ counted (length (words_of_classes classes)))
    × (MAX_WORDS < length (words_of_classes classes))))

-- there are 1 to MAX_CLASSES classes, none without words, and at most MAX_WORDS words
pub record AreCountedClasses (classes : List (List ℕ)) : Type 0 where
  pub count : HasClassCount classes
  pub no_empty_class : All (λ words. 1 ≤ length words) classes
  pub few_words : length (words_of_classes classes) ≤ MAX_WORDS

-- where each answer comes for the texts of classes, for the entry and the distance between classes
abbrev pub IsPartitionOf : Entry → ℕ → List (List (List ℕ)) → Result Evidence DocumentFault → Type 0
-- a text is that of no word: the texts are counted through all classes
IsPartitionOf e between lists (Err (Digits i)) = IsFirstWrong e.n (all_texts lists) i
-- a count is wrong
IsPartitionOf e between lists (Err (Size c)) = (classes : List (List ℕ)) × AreListsOf e.n classes lists × IsWrongClassCount classes c
-- all is right
IsPartitionOf e between lists (Ok (Partition own apart classes)) =
    (own ≡ e) × (apart ≡ between) × AreListsOf e.n classes lists × AreCountedClasses classes
-- no other answer comes
IsPartitionOf e between lists (Ok other) = ⊥
IsPartitionOf e between lists (Err fault) = ⊥
