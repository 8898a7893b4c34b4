-- Which counts of classes and of their words are taken, and which are wrong.
use Rattle.std.proofs.Common.{◌≡◌, ℕ, suc, zero, ◌<◌, ◌≤◌, true, false, ◌==◌, ◌||◌, nat_lt, List, [], ◌∷◌, length, Option, Some, None, Ok, Err, ◌⊎◌, inl, inr, refl, sym, ap, subst, arith, eq-eqb, ne_eqb, eqb-true}
use Rattle.std.specs.Prelude.{All, Contains}
use Rattle.std.specs.List.{list_any}
use Rattle.std.proofs.lemmas.Bool.{cases_Bool, eqb-false, ltb-true, ltb-false, lt-ltb, le-ltb, or_parts, or_from, false≢true}
use Rattle.std.proofs.lemmas.List.Elements.{All-nil, All-cons, All-head, All-tail}
use Rattle.ct_words.specs.declared.fault.TheConstants.{MAX_WORDS}
use Rattle.ct_classes.specs.declared.fault.TheConstants.{MAX_CLASSES}
use Rattle.ct_classes.specs.Partition.{words_of_classes}
use Rattle.ct_partitions.specs.Check.{counted, wrong_count}
use Rattle.ct_fields.specs.declared.fault.DocumentFault.{DocumentFault}
use Rattle.ct_fields.specs.declared.fault.DocumentFault.TheVariants.{Size}
use Rattle.ct_partition_files.specs.Lists.{refused}
use Rattle.ct_partition_files.specs.Partition.{IsWrongClassCount, AreCountedClasses}

-- a count that is taken is none that is wrong, and the fault of one that is is its own
pub refused-ok : (count : Option ℕ) (x : Unit {0}) → refused count ≡ Ok x → count ≡ None
refused-ok None x e = refl
refused-ok (Some c) x e = absurd cc

pub refused-err : (count : Option ℕ) (fault : DocumentFault) → refused count ≡ Err fault → (c : ℕ) × (count ≡ Some c) × (Size c ≡ fault)
refused-err None fault e = absurd cc
refused-err (Some c) fault e = (c, refl, cc)

-- a number of classes that is 0 or too great, and one that isn't
outside : (k : ℕ) → (k == 0 || nat_lt MAX_CLASSES k) ≡ true → (k ≡ 0) ⊎ (MAX_CLASSES < k)
outside k out =
    elim (cases_Bool (k == 0)) [
      | inl none ↦ inl (eqb-true k 0 none)
      | inr some ↦ inr (ltb-true MAX_CLASSES k (rw some at out))
    ]

outside_from : (k : ℕ) → (k ≡ 0) ⊎ (MAX_CLASSES < k) → (k == 0 || nat_lt MAX_CLASSES k) ≡ true
outside_from k (inl none) = rw none refl
outside_from k (inr many) =
    rw (ne_eqb k 0 (λ none. absurd (omega arith)), lt-ltb MAX_CLASSES k many) refl

within : (k : ℕ) → (k == 0 || nat_lt MAX_CLASSES k) ≡ false → (1 ≤ k) × (k ≤ MAX_CLASSES)
within k inside =
    let parts = or_parts (k == 0) (nat_lt MAX_CLASSES k) inside in
    let some = eqb-false k 0 parts.0 in
    (omega arith, ltb-false MAX_CLASSES k parts.1)

within_from : (k : ℕ) → (1 ≤ k) × (k ≤ MAX_CLASSES) → (k == 0 || nat_lt MAX_CLASSES k) ≡ false
within_from k (some, few) =
    or_from (k == 0) (nat_lt MAX_CLASSES k) (ne_eqb k 0 (λ none. absurd (omega arith))) (le-ltb MAX_CLASSES k few)

-- a class without words
no_words : (c : List ℕ) → length c ≡ 0 → c ≡ []
no_words [] e = refl
no_words (x ∷ xs) e = absurd (omega arith)

some_empty : (classes : List (List ℕ)) → list_any (λ c. length c == 0) classes ≡ true → Contains classes []
some_empty [] e = absurd (false≢true e)
some_empty (c ∷ cs) e =
    elim (cases_Bool (length c == 0)) [
      | inl none ↦ (0, omega arith, no_words c (eqb-true (length c) 0 none))
      | inr some ↦ let (k, below, is) = some_empty cs (rw some at e) in (suc k, omega arith, is)
    ]

some_empty_from : (classes : List (List ℕ)) → Contains classes [] → list_any (λ c. length c == 0) classes ≡ true
some_empty_from [] (k, below, is) = absurd (omega arith)
some_empty_from (c ∷ cs) (zero, below, is) = rw (eq-eqb (length c) 0 (ap length is)) refl
some_empty_from (c ∷ cs) (suc k, below, is) =
    let rest = some_empty_from cs (k, omega arith, is) in
    elim (cases_Bool (length c == 0)) [
      | inl none ↦ rw none refl
      | inr some ↦ rw (some, rest) refl
    ]

none_empty : (classes : List (List ℕ)) → list_any (λ c. length c == 0) classes ≡ false → All (λ c. 1 ≤ length c) classes
none_empty [] none = All-nil (λ c. 1 ≤ length c)
none_empty (c ∷ cs) none =
    let parts = or_parts (length c == 0) (list_any (λ c. length c == 0) cs) none in
    let some = eqb-false (length c) 0 parts.0 in
    All-cons (λ c. 1 ≤ length c) c cs (omega arith) (none_empty cs parts.1)

none_empty_from : (classes : List (List ℕ)) → All (λ c. 1 ≤ length c) classes → list_any (λ c. length c == 0) classes ≡ false
none_empty_from [] each = refl
none_empty_from (c ∷ cs) each =
    let some = All-head (λ c. 1 ≤ length c) c cs each in
    or_from (length c == 0) (list_any (λ c. length c == 0) cs) (ne_eqb (length c) 0 (λ none. absurd (omega arith)))
    (none_empty_from cs (All-tail (λ c. 1 ≤ length c) c cs each))

-- a count is wrong exactly where it is said to be
pub count_is_wrong : (classes : List (List ℕ)) (c : ℕ) → wrong_count classes ≡ Some c → IsWrongClassCount classes c
count_is_wrong classes c e =
    elim (cases_Bool (length classes == 0 || nat_lt MAX_CLASSES (length classes))) [
      | inl out ↦
          let is : wrong_count classes ≡ Some (length classes) = rw out refl in
          let same : length classes ≡ c = cc in
          inl (sym same, subst (λ k. (k ≡ 0) ⊎ (MAX_CLASSES < k)) same (outside (length classes) out))
      | inr inside ↦ elim (cases_Bool (list_any (λ c. length c == 0) classes)) [
        | inl empty ↦
            let is : wrong_count classes ≡ Some 0 = rw (inside, empty) refl in
            let same : c ≡ 0 = cc in
            inr (inl (within (length classes) inside, same, some_empty classes empty))
        | inr full ↦ elim (cases_Bool (nat_lt MAX_WORDS (length (words_of_classes classes)))) [
          | inl many ↦
              let is : wrong_count classes ≡ Some (counted (length (words_of_classes classes))) = rw (inside, full, many) refl in
              let same : c ≡ counted (length (words_of_classes classes)) = cc in
              inr (inr (within (length classes) inside, none_empty classes full, same, ltb-true MAX_WORDS (length (words_of_classes classes)) many))
          | inr few ↦ let is : wrong_count classes ≡ None = rw (inside, full, few) refl in absurd cc
        ]
      ]
    ]

pub count_is_wrong-from : (classes : List (List ℕ)) (c : ℕ) → IsWrongClassCount classes c → wrong_count classes ≡ Some c
count_is_wrong-from classes c (inl (same, out)) =
    let refused = outside_from (length classes) (subst (λ k. (k ≡ 0) ⊎ (MAX_CLASSES < k)) same out) in
    rw refused (ap Some (sym same))
count_is_wrong-from classes c (inr (inl (count, same, empty))) =
    rw (within_from (length classes) count, some_empty_from classes empty) (ap Some (sym same))
count_is_wrong-from classes c (inr (inr (count, full, same, many))) =
    rw (within_from (length classes) count, none_empty_from classes full, lt-ltb MAX_WORDS (length (words_of_classes classes)) many)
    (ap Some (sym same))

-- none is wrong exactly where all are in their range
pub counts_are_right : (classes : List (List ℕ)) → wrong_count classes ≡ None → AreCountedClasses classes
counts_are_right classes e =
    elim (cases_Bool (length classes == 0 || nat_lt MAX_CLASSES (length classes))) [
      | inl out ↦ let is : wrong_count classes ≡ Some (length classes) = rw out refl in absurd cc
      | inr inside ↦ elim (cases_Bool (list_any (λ c. length c == 0) classes)) [
        | inl empty ↦ let is : wrong_count classes ≡ Some 0 = rw (inside, empty) refl in absurd cc
        | inr full ↦ elim (cases_Bool (nat_lt MAX_WORDS (length (words_of_classes classes)))) [
          | inl many ↦
              let is : wrong_count classes ≡ Some (counted (length (words_of_classes classes))) = rw (inside, full, many) refl in absurd cc
          | inr few ↦ record {
            count = within (length classes) inside;
            no_empty_class = none_empty classes full;
            few_words = ltb-false MAX_WORDS (length (words_of_classes classes)) few;
          }
        ]
      ]
    ]

pub counts_are_right-from : (classes : List (List ℕ)) → AreCountedClasses classes → wrong_count classes ≡ None
counts_are_right-from classes right =
    rw (
      within_from (length classes) right.count,
      none_empty_from classes right.no_empty_class,
      le-ltb MAX_WORDS (length (words_of_classes classes)) right.few_words,
    ) refl
