-- Where each answer comes for the texts of classes.
use Rattle.std.proofs.Common.{◌≡◌, ℕ, ◌^◌, ◌<◌, List, Result, Ok, Err, ◌↔◌, refl, sym, ap, ◌∙◌, subst, zero-add}
use Rattle.std.proofs.lemmas.List.Elements.{All-from_recursion, recursion_from_All}
use Rattle.ct_words.specs.declared.entry.Entry.{Entry}
use Rattle.ct_classes.specs.Partition.{words_of_classes}
use Rattle.ct_partitions.specs.Check.{wrong_count}
use Rattle.ct_kind.specs.declared.evidence.Evidence.{Evidence}
use Rattle.ct_kind.specs.declared.evidence.Evidence.TheVariants.{Partition}
use Rattle.ct_fields.specs.declared.fault.DocumentFault.{DocumentFault}
use Rattle.ct_fields.specs.declared.fault.DocumentFault.TheVariants.{Digits, Size}
use Rattle.ct_fields.proofs.StepLemmas.{bind-at, bind-at_err, bind-cases}
use Rattle.ct_partition_files.specs.Lists.{classes_from, class_count}
use Rattle.ct_partition_files.specs.Partition.{partition_of_lists, AreListsOf, IsPartitionOf}
use Rattle.ct_partition_files.proofs.ListLemmas.{classes_from-ok, classes_from-from, classes_from-err, classes_from-wrong}
use Rattle.ct_partition_files.proofs.CountLemmas.{refused-ok, refused-err, count_is_wrong, count_is_wrong-from, counts_are_right, counts_are_right-from}

-- lists that are read are those of the classes, and such are read
lists-read : (n : ℕ) (lists : List (List (List ℕ))) (classes : List (List ℕ)) → classes_from n 0 lists ≡ Ok classes → AreListsOf n classes lists
lists-read n lists classes read =
    let (same, short) = classes_from-ok n 0 lists classes read in
    record { same = same; lengths = All-from_recursion (λ x. x < 2 ^ n) (words_of_classes classes) short }

lists-from : (n : ℕ) (lists : List (List (List ℕ))) (classes : List (List ℕ)) → AreListsOf n classes lists → classes_from n 0 lists ≡ Ok classes
lists-from n lists classes are =
    ap (classes_from n 0) are.same ∙ classes_from-from n 0 classes (recursion_from_All (λ x. x < 2 ^ n) (words_of_classes classes) are.lengths)

-- the answer comes where it is said to come
answer : (e : Entry) (between : ℕ) (lists : List (List (List ℕ))) → IsPartitionOf e between lists (partition_of_lists e between lists)
answer e between lists =
    let P : Result Evidence DocumentFault → Type 0 = IsPartitionOf e between lists in
    bind-cases P (classes_from e.n 0 lists) _ (λ classes read.
    let are = lists-read e.n lists classes read in
    bind-cases P (class_count classes) _ (λ passed taken. (refl, refl, are, counts_are_right classes (refused-ok (wrong_count classes) passed taken)))
    (λ fault wrong.
    let (c, found, is) = refused-err (wrong_count classes) fault wrong in
    subst (λ f. P (Err f)) is (classes, are, count_is_wrong classes c found)))
    (λ fault wrong.
    let (i, is, first) = classes_from-err e.n 0 lists fault wrong in
    subst (λ f. P (Err f)) is (rw (zero-add i) first))

-- where an answer is said to come, it comes
answer-from : (e : Entry) (between : ℕ) (lists : List (List (List ℕ))) (said : Result Evidence DocumentFault) → IsPartitionOf e between lists said
    → partition_of_lists e between lists ≡ said
answer-from e between lists (Ok (Partition own apart classes)) (is, same, are, counted) =
    bind-at (classes_from e.n 0 lists) _ classes (lists-from e.n lists classes are)
    ∙ rw (counts_are_right-from classes counted) (λ i. Ok (Partition (sym is i) (sym same i) classes))
answer-from e between lists (Ok other) never = absurd never
answer-from e between lists (Err (Digits i)) first =
    bind-at_err (classes_from e.n 0 lists) _ (Digits i) (classes_from-wrong e.n 0 lists i first ∙ ap (λ k. Err (Digits k)) (zero-add i))
answer-from e between lists (Err (Size c)) (classes, are, wrong) =
    bind-at (classes_from e.n 0 lists) _ classes (lists-from e.n lists classes are) ∙ rw (count_is_wrong-from classes c wrong) refl
answer-from e between lists (Err fault) never = absurd never

-- each answer to the texts of classes comes exactly where it is said to come
pub partition_answers : (e : Entry) (between : ℕ) (lists : List (List (List ℕ))) (said : Result Evidence DocumentFault)
    → (partition_of_lists e between lists ≡ said) ↔ IsPartitionOf e between lists said
partition_answers e between lists said =
    (λ same. subst (IsPartitionOf e between lists) same (answer e between lists), answer-from e between lists said)
