-- Classes that are read list by list.
use Rattle.std.proofs.Common.{◌≡◌, ℕ, ◌+◌, ◌<◌, ◌≤◌, List, [], ◌∷◌, ◌++◌, length, drop, get_or, Global, Result, Ok, Err, append-nil, append_assoc, refl, sym, ap, ◌∙◌}
use Rattle.std.specs.Prelude.{Vec}
use Rattle.std.specs.Borrow.{Bor}
use Rattle.std.proofs.lemmas.List.{map_push, drop_more, drop_all}
use Rattle.ct_classes.specs.Partition.{word_lists}
use Rattle.ct_fields.specs.Reads.{texts_behind}
use Rattle.ct_fields.specs.Steps.{◌>>=◌}
use Rattle.ct_fields.specs.Fields.{words_from}
use Rattle.ct_fields.specs.declared.fault.DocumentFault.{DocumentFault}
use Rattle.ct_partition_files.specs.Lists.{lists_behind, classes_from}

abbrev Classes : Type 0
Classes = List (Vec ℕ Global)

abbrev Texts : Type 0
Texts = Vec (Bor (List ℕ)) Global

-- the classes that were read, and those that are read of the rest
abbrev pub classes_on : Classes → Result (List (List ℕ)) DocumentFault → Result (List (List ℕ)) DocumentFault
classes_on classes rest = rest >>= (λ more. Ok (word_lists classes ++ more))

-- no class was read yet
pub classes_on-none : (classes : Classes) (rest : Result (List (List ℕ)) DocumentFault) → classes ≡ [] → classes_on classes rest ≡ rest
classes_on-none classes rest none = ap (λ cs. classes_on cs rest) none ∙ at rest where
  at : (r : Result (List (List ℕ)) DocumentFault) → classes_on [] r ≡ r
  at (Ok more) = refl
  at (Err fault) = refl

-- one class more
classes_on-one : (classes : Classes) (class : Vec ℕ Global) (rest : Result (List (List ℕ)) DocumentFault)
    → classes_on (classes ++ class ∷ []) rest ≡ classes_on classes (rest >>= (λ more. Ok (class.items ∷ more)))
classes_on-one classes class (Err fault) = refl
classes_on-one classes class (Ok more) =
    ap (λ l. Ok (l ++ more)) (map_push (λ (c : Vec ℕ Global). c.items) classes class)
    ∙ ap (λ l. Ok l) (append_assoc (word_lists classes) (class.items ∷ []) more)

module _ (n place : ℕ) (lists : List Texts) (i : ℕ) (classes : Classes) (all : Result (List (List ℕ)) DocumentFault)
    (before : classes_on classes (classes_from n place (lists_behind (drop i lists))) ≡ all) (texts : Texts)
    (below : i < length lists) (here : texts ≡ get_or lists i texts) where
  -- the class of the next list, and those of the lists after it
  abbrev with_next : Result (List ℕ) DocumentFault → Result (List (List ℕ)) DocumentFault
  with_next read =
      read >>= (λ words. classes_from n (place + length (texts_behind texts.items)) (lists_behind (drop (i + 1) lists)) >>= (λ more. Ok (words ∷ more)))

  next_list : classes_on classes (with_next (words_from n place (texts_behind texts.items))) ≡ all
  next_list =
      ap (λ (t : Texts). classes_on classes (classes_from n place (texts_behind t.items ∷ lists_behind (drop (i + 1) lists)))) here
      ∙ ap (λ ls. classes_on classes (classes_from n place (lists_behind ls))) (sym (drop_more lists i texts below))
      ∙ before

  -- the next list is that of a class
  pub classes_from-more : (class : Vec ℕ Global) (new : Classes) (after : ℕ) → words_from n place (texts_behind texts.items) ≡ Ok class.items
      → new ≡ classes ++ class ∷ [] → after ≡ place + length (texts_behind texts.items)
      → classes_on new (classes_from n after (lists_behind (drop (i + 1) lists))) ≡ all
  classes_from-more class new after read new-is after-is =
      let rest = lists_behind (drop (i + 1) lists) in
      ap (λ l. classes_on l (classes_from n after rest)) new-is
      ∙ ap (λ p. classes_on (classes ++ class ∷ []) (classes_from n p rest)) after-is
      ∙ classes_on-one classes class (classes_from n (place + length (texts_behind texts.items)) rest)
      ∙ ap (λ r. classes_on classes (with_next r)) (sym read)
      ∙ next_list

  -- the next list is that of none
  pub classes_from-fault : (fault : DocumentFault) → words_from n place (texts_behind texts.items) ≡ Err fault → all ≡ Err fault
  classes_from-fault fault read = sym next_list ∙ ap (λ r. classes_on classes (with_next r)) read

-- no list is left
pub classes_from-end : (n place : ℕ) (lists : List Texts) (i : ℕ) (classes : Classes) (all : Result (List (List ℕ)) DocumentFault)
    → classes_on classes (classes_from n place (lists_behind (drop i lists))) ≡ all → length lists ≤ i → all ≡ Ok (word_lists classes)
classes_from-end n place lists i classes all before past =
    sym before
    ∙ ap (λ ls. classes_on classes (classes_from n place (lists_behind ls))) (drop_all i lists past)
    ∙ ap (λ l. Ok l) (append-nil (word_lists classes))
