-- Lists of words have no fault exactly where they are the classes of a partition.
use Rattle.std.proofs.Common.{◌≡◌, ◌≢◌, ℕ, suc, ◌+◌, ◌-◌, ◌^◌, ◌<◌, ◌≤◌, false, if◌then◌else◌, ◌==◌, ◌||◌, nat_lt, not, List, [], ◌∷◌, ◌++◌, length, get_or, position, option_map, Option, Some, None, IfSome, All, AllPairs, refl, ap, ap₂, sym, subst, lt_trans, ◌∙◌, inl, inr, arith, eq-eqb, ne_eqb, length-append}
use Rattle.std.specs.List.{list_any}
use Rattle.std.proofs.lemmas.Bool.{cases_lt, cases_eq, cases_Bool, le-ltb, lt-ltb, ltb-false, eqb-false, or_parts, or_from}
use Rattle.std.proofs.lemmas.List.{get_or_append_left, get_or-append-add}
use Rattle.std.proofs.lemmas.List.Elements.{All-nil, All-cons, All-head, All-tail}
use Rattle.ct_words.specs.Word.{distance, weight}
use Rattle.ct_words.specs.PairProducts.{all_places}
use Rattle.ct_words.proofs.TextLemmas.{length-tabulate, get_or-tabulate}
use Rattle.ct_words.specs.declared.entry.Entry.{Entry}
use Rattle.ct_words.specs.declared.fault.TheConstants.{MAX_WORDS}
use Rattle.ct_words.specs.Entry.{IsEntry}
use Rattle.ct_words.specs.Pairs.{least_pair}
use Rattle.ct_words.specs.Code.{IsCode}
use Rattle.ct_words.proofs.PairLemmas.{least_pair-none, NoPair-from}
use Rattle.ct_words.proofs.CheckLemmas.{AllPairs-from_get_or, option_map-None, first_of-None, weight-none, weight_none_from}
use Rattle.ct_words.specs.declared.fault.CodeFault.TheVariants.{Weight as Weight_of_code}
use Rattle.ct_classes.specs.declared.fault.TheConstants.{MAX_CLASSES}
use Rattle.ct_classes.specs.declared.fault.PartitionFault.TheVariants.{Size, Weight}
use Rattle.ct_classes.specs.Partition.{words_of_classes, IsPartition, IsSoundPartition}
use Rattle.ct_partitions.specs.Check.{class_at, counted, need, distance_at, is_close, wrong_count, partition_weight_fault, partition_repeated_fault, partition_close_fault, partition_fault}
use Rattle.ct_partitions.proofs.PairFaults.{between-le-need, needs_from_none, different_from_needs}

-- two numbers are equal where the next ones are
suc_eqb : (a b : ℕ) → (suc a == suc b) ≡ (a == b)
suc_eqb a b = elim (cases_eq a b) [
  | inl same ↦ eq-eqb (suc a) (suc b) (ap suc same) ∙ sym (eq-eqb a b same)
  | inr other ↦ ne_eqb (suc a) (suc b) (λ e. other (omega arith)) ∙ sym (ne_eqb a b other)
]

-- each two places have the distance that they need
abbrev pub HasNeeds : ℕ → ℕ → ℕ → List (List ℕ) → Type 0
HasNeeds n d between classes = (i j : ℕ) → i < j → j < length (words_of_classes classes) → need d between classes i j ≤ distance_at n classes i j

-- the first class has distance d, its words and the others distance between, and the others have what they need
first_class : (c : List ℕ) (cs : List (List ℕ)) (i : ℕ) → i < length c → class_at (c ∷ cs) i ≡ 0
first_class c cs i within = ap (λ b. if b then 0 else suc (class_at cs (i - length c))) (lt-ltb i (length c) within)

later_class : (c : List ℕ) (cs : List (List ℕ)) (i : ℕ) → class_at (c ∷ cs) (length c + i) ≡ suc (class_at cs i)
later_class c cs i =
    let back : length c + i - length c ≡ i = omega arith in
    ap (λ b. if b then 0 else suc (class_at cs (length c + i - length c))) (le-ltb (length c + i) (length c) (omega arith))
    ∙ ap (λ k. suc (class_at cs k)) back

needs_of_first : (n d between : ℕ) (c : List ℕ) (cs : List (List ℕ)) → HasNeeds n d between (c ∷ cs)
    → AllPairs (λ x y. d ≤ distance n x y) c
needs_of_first n d between c cs needs = AllPairs-from_get_or (λ x y. d ≤ distance n x y) c (λ i j order within.
    let whole = length-append c (words_of_classes cs) in
    let here = needs i j order (omega arith) in
    let one = ap (λ b. if b then d else between) (eq-eqb (class_at (c ∷ cs) i) (class_at (c ∷ cs) j) (first_class c cs i
    (lt_trans order within) ∙ sym (first_class c cs j within))) in
    let far = ap₂ (distance n) (get_or_append_left c (words_of_classes cs) 0 i (lt_trans order within)) (get_or_append_left c
    (words_of_classes cs) 0 j within) in
    omega arith)

needs_of_rest : (n d between : ℕ) (c : List ℕ) (cs : List (List ℕ)) → HasNeeds n d between (c ∷ cs) → HasNeeds n d between cs
needs_of_rest n d between c cs needs i j order within =
    let whole = length-append c (words_of_classes cs) in
    let here = needs (length c + i) (length c + j) (omega arith) (omega arith) in
    let same : need d between (c ∷ cs) (length c + i) (length c + j) ≡ need d between cs i j =
    ap₂ (λ a b. if a == b then d else between) (later_class c cs i) (later_class c cs j)
    ∙ ap (λ b. if b then d else between) (suc_eqb (class_at cs i) (class_at cs j)) in
    let far = ap₂ (distance n) (get_or-append-add c (words_of_classes cs) i 0) (get_or-append-add c (words_of_classes cs) j 0) in
    omega arith

-- so each class has distance d
classes_from_needs : (n d between : ℕ) (classes : List (List ℕ)) → HasNeeds n d between classes
    → All (λ c. AllPairs (λ x y. d ≤ distance n x y) c) classes
classes_from_needs n d between [] needs = All-nil (λ c. AllPairs (λ x y. d ≤ distance n x y) c)
classes_from_needs n d between (c ∷ cs) needs =
    All-cons (λ c. AllPairs (λ x y. d ≤ distance n x y) c) c cs (needs_of_first n d between c cs needs)
    (classes_from_needs n d between cs (needs_of_rest n d between c cs needs))

-- what holds of all words holds of those of each class
All-classes : (P : ℕ → Type 0) (classes : List (List ℕ)) → All P (words_of_classes classes) → All (All P) classes
All-classes P [] each = All-nil (All P)
All-classes P (c ∷ cs) each =
    let whole = length-append c (words_of_classes cs) in
    All-cons (All P) c cs
    (λ i z within. subst P (get_or_append_left c (words_of_classes cs) z i within) (each i z (omega arith)))
    (All-classes P cs (λ i z within. subst P (get_or-append-add c (words_of_classes cs) i z) (each (length c + i) z (omega arith))))

pairs_of_classes : (R : ℕ → ℕ → Type 0) (classes : List (List ℕ)) → AllPairs R (words_of_classes classes) → All (AllPairs R) classes
pairs_of_classes R [] each = All-nil (AllPairs R)
pairs_of_classes R (c ∷ cs) each =
    let whole = length-append c (words_of_classes cs) in
    All-cons (AllPairs R) c cs
    (λ i j z order within.
    subst (λ y. R (get_or c i z) y) (get_or_append_left c (words_of_classes cs) z j within)
    (subst (λ x. R x (get_or (c ++ words_of_classes cs) j z)) (get_or_append_left c (words_of_classes cs) z i (lt_trans order within))
    (each i j z order (omega arith))))
    (pairs_of_classes R cs (λ i j z order within.
    subst (λ y. R (get_or (words_of_classes cs) i z) y) (get_or-append-add c (words_of_classes cs) j z)
    (subst (λ x. R x (get_or (c ++ words_of_classes cs) (length c + j) z)) (get_or-append-add c (words_of_classes cs) i z)
    (each (length c + i) (length c + j) z (omega arith) (omega arith)))))

-- lists of words that have what they need are a partition
pub partition_from_needs : (n d : ℕ) (w : Option ℕ) (between : ℕ) (classes : List (List ℕ)) → 1 ≤ between → between ≤ d
    → All (λ x. x < 2 ^ n) (words_of_classes classes) → IfSome w (λ k. All (λ x. weight n x ≡ k)
    (words_of_classes classes)) → HasNeeds n d between classes
    → IsPartition n d w between classes
partition_from_needs n d w between classes some nearer below weights needs =
    let words = words_of_classes classes in
    let none = NoPair-from (λ x y. x == y) words (different_from_needs n d between classes some nearer needs) in
    let different : AllPairs (λ x y. x ≢ y) words =
    AllPairs-from_get_or (λ x y. x ≢ y) words (λ i j order within. eqb-false (get_or words i 0) (get_or words j 0)
    (none i j order within)) in
    record {
      classes_are_codes = codes classes below different (classes_from_needs n d between classes needs) (each_weight w weights);
      union_is_code = record {
        lengths = below;
        different = different;
        apart = AllPairs-from_get_or (λ x y. between ≤ distance n x y) words (λ i j order within.
            let least = between-le-need d between classes i j nearer in
            let far = needs i j order within in
            omega arith);
        weights = weights;
      };
    }
  where
    each_weight : (v : Option ℕ) → IfSome v (λ k. All (λ x. weight n x ≡ k) (words_of_classes classes))
        → All (λ c. IfSome v (λ k. All (λ x. weight n x ≡ k) c)) classes
    each_weight None h = λ k z l. tt
    each_weight (Some k) h = All-classes (λ x. weight n x ≡ k) classes h

    codes : (cs : List (List ℕ)) → All (λ x. x < 2 ^ n) (words_of_classes cs) → AllPairs (λ x y. x ≢ y) (words_of_classes cs)
        → All (λ c. AllPairs (λ x y. d ≤ distance n x y) c) cs → All (λ c. IfSome w (λ k. All (λ x. weight n x ≡ k) c)) cs → All
        (IsCode n d w) cs
    codes cs below different apart weighted = λ k z within. record {
      lengths = All-classes (λ x. x < 2 ^ n) cs below k z within;
      different = pairs_of_classes (λ x y. x ≢ y) cs different k z within;
      apart = apart k z within;
      weights = weighted k z within;
    }

-- and a partition has what it needs
pub needs_of_partition : (n d : ℕ) (w : Option ℕ) (between : ℕ) (classes : List (List ℕ)) → IsPartition n d w between classes
    → HasNeeds n d between classes
needs_of_partition n d w between classes is = go classes is.classes_are_codes is.union_is_code.apart
  where
    go : (cs : List (List ℕ)) → All (IsCode n d w) cs → AllPairs (λ x y. between ≤ distance n x y) (words_of_classes cs) → HasNeeds n d between cs
    go [] codes apart i j order within = absurd (omega arith)
    go (c ∷ cs) codes apart i j order within =
        let whole = length-append c (words_of_classes cs) in
        elim (cases_lt j (length c)) [
          | inl inside ↦
              let here = (All-head (IsCode n d w) c cs codes).apart i j 0 order inside in
              let one = ap (λ b. if b then d else between) (eq-eqb (class_at (c ∷ cs) i) (class_at (c ∷ cs) j) (first_class c cs i
              (lt_trans order inside) ∙ sym (first_class c cs j inside))) in
              let far = ap₂ (distance n) (get_or_append_left c (words_of_classes cs) 0 i (lt_trans order inside)) (get_or_append_left c
              (words_of_classes cs) 0 j inside) in
              omega arith
          | inr beyond ↦ elim (cases_lt i (length c)) [
            | inl first ↦
                let at : length c + (j - length c) ≡ j = omega arith in
                let second = ap (class_at (c ∷ cs)) (sym at) ∙ later_class c cs (j - length c) in
                let other = ap (λ b. if b then d else between) (ne_eqb (class_at (c ∷ cs) i) (class_at (c ∷ cs) j)
                (λ e. let zero_is = first_class c cs i first in omega arith)) in
                let far = apart i j 0 order within in
                omega arith
            | inr both ↦
                let at_i : length c + (i - length c) ≡ i = omega arith in
                let at_j : length c + (j - length c) ≡ j = omega arith in
                let rest = go cs (All-tail (IsCode n d w) c cs codes)
                (λ k m z o l. subst (λ y. between ≤ distance n (get_or (words_of_classes cs) k z) y) (get_or-append-add c (words_of_classes cs) m z)
                (subst (λ x. between ≤ distance n x (get_or (c ++ words_of_classes cs) (length c + m) z)) (get_or-append-add c (words_of_classes cs) k z)
                (apart (length c + k) (length c + m) z (omega arith) (omega arith)))) (i - length c) (j - length c) (omega arith)
                (omega arith) in
                let same : need d between (c ∷ cs) i j ≡ need d between cs (i - length c) (j - length c) =
                ap₂ (λ a b. if class_at (c ∷ cs) a == class_at (c ∷ cs) b then d else between) (sym at_i) (sym at_j)
                ∙ ap₂ (λ a b. if a == b then d else between) (later_class c cs (i - length c)) (later_class c cs (j - length c))
                ∙ ap (λ b. if b then d else between) (suc_eqb (class_at cs (i - length c)) (class_at cs (j - length c))) in
                let far = ap₂ (λ a b. distance n (get_or (c ++ words_of_classes cs) a 0) (get_or (c ++ words_of_classes cs) b 0)) (sym at_i) (sym at_j)
                ∙ ap₂ (distance n) (get_or-append-add c (words_of_classes cs) (i - length c) 0) (get_or-append-add c (words_of_classes cs)
                (j - length c) 0) in
                omega arith
          ]
        ]

-- no class is empty
none_empty : (classes : List (List ℕ)) → list_any (λ c. length c == 0) classes ≡ false → All (λ c. 1 ≤ length c) classes
none_empty [] none = All-nil (λ c. 1 ≤ length c)
none_empty (c ∷ cs) none =
    let parts = or_parts (length c == 0) (list_any (λ c. length c == 0) cs) none in
    let some = eqb-false (length c) 0 parts.0 in
    All-cons (λ c. 1 ≤ length c) c cs (omega arith) (none_empty cs parts.1)

none_empty_from : (classes : List (List ℕ)) → All (λ c. 1 ≤ length c) classes → list_any (λ c. length c == 0) classes ≡ false
none_empty_from [] each = refl
none_empty_from (c ∷ cs) each =
    let some = All-head (λ c. 1 ≤ length c) c cs each in
    or_from (length c == 0) (list_any (λ c. length c == 0) cs) (ne_eqb (length c) 0 (λ e. omega arith))
    (none_empty_from cs (All-tail (λ c. 1 ≤ length c) c cs each))

-- the numbers of classes and of words are within the limits, and no class is empty
pub record HasSizes (classes : List (List ℕ)) : Type 0 where
  pub class_count : (1 ≤ length classes) × (length classes ≤ MAX_CLASSES)
  pub no_empty_class : All (λ c. 1 ≤ length c) classes
  pub few_words : length (words_of_classes classes) ≤ MAX_WORDS

size-none : (classes : List (List ℕ)) → option_map Size (wrong_count classes) ≡ None → HasSizes classes
size-none classes e = elim (cases_Bool (length classes == 0 || nat_lt MAX_CLASSES (length classes))) [
  | inl out ↦ let fault : option_map Size (wrong_count classes) ≡ Some (Size (length classes)) = rw out refl in cc
  | inr within ↦ elim (cases_Bool (list_any (λ c. length c == 0) classes)) [
    | inl empty ↦ let fault : option_map Size (wrong_count classes) ≡ Some (Size 0) = rw (within, empty) refl in cc
    | inr full ↦ elim (cases_Bool (nat_lt MAX_WORDS (length (words_of_classes classes)))) [
      | inl many ↦ let fault : option_map Size (wrong_count classes) ≡ Some (Size (counted (length (words_of_classes classes)))) = rw (within, full, many) refl in cc
      | inr few ↦
          let parts = or_parts (length classes == 0) (nat_lt MAX_CLASSES (length classes)) within in
          let some = eqb-false (length classes) 0 parts.0 in
          record {
            class_count = (omega arith, ltb-false MAX_CLASSES (length classes) parts.1);
            no_empty_class = none_empty classes full;
            few_words = ltb-false MAX_WORDS (length (words_of_classes classes)) few;
          }
    ]
  ]
]

-- classes none of whose counts is wrong
pub sizes_of_count : (classes : List (List ℕ)) → wrong_count classes ≡ None → HasSizes classes
sizes_of_count classes right = size-none classes (ap (option_map Size) right)

size_none_from : (classes : List (List ℕ)) → HasSizes classes → option_map Size (wrong_count classes) ≡ None
size_none_from classes sizes =
    let some = sizes.class_count.0 in
    rw (
      or_from (length classes == 0) (nat_lt MAX_CLASSES (length classes)) (ne_eqb (length classes) 0 (λ e. omega arith))
          (le-ltb MAX_CLASSES (length classes) sizes.class_count.1),
      none_empty_from classes sizes.no_empty_class,
      le-ltb MAX_WORDS (length (words_of_classes classes)) sizes.few_words,
    ) refl

-- each word has the weight, where one is given
weights-from_none : (n : ℕ) (w : Option ℕ) (words : List ℕ) → partition_weight_fault n w words ≡ None
    → IfSome w (λ k. All (λ x. weight n x ≡ k) words)
weights-from_none n None words none = tt
weights-from_none n (Some w) words none =
    weight-none n (Some w) words (rw (option_map-None Weight (position (λ x. not (weight n x == w)) words) none) refl)

weights_none_from : (n : ℕ) (w : Option ℕ) (words : List ℕ) → IfSome w (λ k. All (λ x. weight n x ≡ k) words)
    → partition_weight_fault n w words ≡ None
weights_none_from n None words each = refl
weights_none_from n (Some w) words each = go (position (λ x. not (weight n x == w)) words) (weight_none_from n (Some w) words each)
  where
    go : (o : Option ℕ) → option_map Weight_of_code o ≡ None → option_map Weight o ≡ None
    go None e = refl
    go (Some k) e = cc

-- lists without a fault are the classes of a partition, within the limits
pub partition_from_no_fault : (e : Entry) (between : ℕ) (classes : List (List ℕ)) → 1 ≤ between → between ≤ e.d
    → All (λ x. x < 2 ^ e.n) (words_of_classes classes) → partition_fault e between classes ≡ None
    → HasSizes classes × IsPartition e.n e.d e.w between classes
unfolding partition_fault
partition_from_no_fault e between classes some nearer below no_fault =
    let words = words_of_classes classes in
    let first = first_of-None (option_map Size (wrong_count classes)) _ no_fault in
    let second = first_of-None (partition_weight_fault e.n e.w words) _ first.1 in
    let third = first_of-None (partition_repeated_fault words) (partition_close_fault e.n e.d between classes) second.1 in
    let none = option_map-None _ (least_pair (is_close e.n e.d between classes) (all_places (length words))) third.1 in (
      size-none classes first.0,
      partition_from_needs e.n e.d e.w between classes some nearer below (weights-from_none e.n e.w words second.0)
          (needs_from_none e.n e.d between classes none),
    )

-- and the classes of a partition, within the limits, have none
pub no_fault_of_partition : (e : Entry) (between : ℕ) (classes : List (List ℕ)) → 1 ≤ between → between ≤ e.d → HasSizes classes
    → IsPartition e.n e.d e.w between classes → partition_fault e between classes ≡ None
unfolding partition_fault
no_fault_of_partition e between classes some nearer sizes is =
    let words = words_of_classes classes in
    let total = length words in
    let needs = needs_of_partition e.n e.d e.w between classes is in
    let long = length-tabulate (λ p. p) total in
    let equal = different_from_needs e.n e.d between classes some nearer needs in
    let close = least_pair-none (is_close e.n e.d between classes) (all_places total) (λ i j order within.
    ap₂ (is_close e.n e.d between classes) (get_or-tabulate (λ p. p) total i (omega arith)) (get_or-tabulate (λ p. p) total j (omega arith))
    ∙ le-ltb (distance_at e.n classes i j) (need e.d between classes i j) (needs i j order (omega arith))) in
    rw (size_none_from classes sizes, weights_none_from e.n e.w words is.union_is_code.weights, equal, close) refl

-- so what is accepted is a partition
pub sound_from_check : (e : Entry) (between : ℕ) (classes : List (List ℕ)) → IsEntry e → 1 ≤ between → between ≤ e.d
    → All (λ x. x < 2 ^ e.n) (words_of_classes classes) → partition_fault e between classes ≡ None
    → IsSoundPartition (record { entry = e; between = between; classes = classes })
sound_from_check e between classes entry some nearer below no_fault =
    let whole = partition_from_no_fault e between classes some nearer below no_fault in
    record {
      entry = entry;
      between_in_range = (some, nearer);
      class_count = whole.0.class_count;
      no_empty_class = whole.0.no_empty_class;
      few_words = whole.0.few_words;
      partition = whole.1;
    }
