-- Why lists of words are no classes of a partition.
use Rattle.std.proofs.Common.{◌≡◌, ℕ, ◌≤◌, ◌==◌, ◌||◌, Bool, true, false, cond, nat_lt, List, [], ◌∷◌, length, Option, Some, None, option_map, refl, sym, subst, inl, inr, ◌⊎◌, arith}
use Rattle.std.specs.List.{list_any}
use Rattle.std.proofs.lemmas.Bool.{eqb-false, ne_eqb, or_parts, or_from, both_ways}
use Rattle.std.proofs.lemmas.List.Elements.{All-nil, All-cons, All-head, All-tail}
use Rattle.ct_words.specs.PairProducts.{all_places}
use Rattle.ct_words.specs.declared.entry.Entry.{Entry}
use Rattle.ct_words.specs.declared.fault.TheConstants.{MAX_WORDS}
use Rattle.ct_words.specs.Pairs.{first_of, least_pair, IsLeastPair, NoPair}
use Rattle.ct_classes.specs.declared.fault.PartitionFault.{PartitionFault}
use Rattle.ct_classes.specs.declared.fault.PartitionFault.TheVariants as partition
use Rattle.ct_classes.specs.declared.fault.TheConstants.{MAX_CLASSES}
use Rattle.ct_classes.specs.Partition.{words_of_classes}
use Rattle.ct_partitions.specs.Check.{class_at, counted, need, distance_at, is_close, wrong_count, partition_weight_fault, partition_repeated_fault, partition_close_fault, partition_fault}
use Rattle.ct_laws.specs.Weights.{HaveWeight, IsFirstOfOtherWeight}
use Rattle.ct_kind.specs.Named.{NamedCode}
use Rattle.ct_kind.specs.declared.fault.SubmitFault.{SubmitFault}
use Rattle.ct_kind.specs.declared.fault.SubmitFault.TheVariants as fault
use Rattle.ct_laws.proofs.Says.{Says, says-also, says-map, says-first, says-if, says-count, says-above, says-pair, says-weight}
use Rattle.ct_partition_files.specs.PartitionKind.{partition_kind}
use Rattle.ct_laws.specs.PartitionRefusal.{HasNoEmptyClass, HasRightSizes, IsWrongSize, AreDifferent, IsClassesFault, IsPartitionRefusal}

-- each class has a word exactly where none is empty
full : (classes : List (List ℕ)) → list_any (λ c. length c == 0) classes ≡ false → HasNoEmptyClass classes
full [] none = All-nil (λ c. 1 ≤ length c)
full (c ∷ cs) none =
    let parts = or_parts (length c == 0) (list_any (λ c. length c == 0) cs) none in
    let some = eqb-false (length c) 0 parts.0 in
    All-cons (λ c. 1 ≤ length c) c cs (omega arith) (full cs parts.1)

none-empty : (classes : List (List ℕ)) → HasNoEmptyClass classes → list_any (λ c. length c == 0) classes ≡ false
none-empty [] each = refl
none-empty (c ∷ cs) each =
    let some = All-head (λ c. 1 ≤ length c) c cs each in
    or_from (length c == 0) (list_any (λ c. length c == 0) cs) (ne_eqb (length c) 0 (λ e. omega arith)) (none-empty cs (All-tail (λ c. 1 ≤ length c) c cs each))

some-empty : (classes : List (List ℕ)) → list_any (λ c. length c == 0) classes ≡ true → ¬ HasNoEmptyClass classes
some-empty classes some each = both_ways (list_any (λ c. length c == 0) classes) (none-empty classes each) some

empty-some : (classes : List (List ℕ)) → ¬ HasNoEmptyClass classes → list_any (λ c. length c == 0) classes ≡ true
empty-some classes empty = at (list_any (λ c. length c == 0) classes) refl where
  at : (b : Bool) → list_any (λ c. length c == 0) classes ≡ b → b ≡ true
  at true is = refl
  at false is = absurd (empty (full classes is))

-- the counts, one after the other
abbrev after_count : List (List ℕ) → Option ℕ
after_count classes =
    first_of (cond (list_any (λ c. length c == 0) classes) (Some 0) None) (cond (nat_lt MAX_WORDS (length (words_of_classes classes))) (Some (counted (length (words_of_classes classes)))) None)

counts-are : (classes : List (List ℕ))
    → wrong_count classes ≡ first_of (cond (length classes == 0 || nat_lt MAX_CLASSES (length classes)) (Some (length classes)) None) (after_count classes)
counts-are classes = at (length classes == 0 || nat_lt MAX_CLASSES (length classes)) (list_any (λ c. length c == 0) classes) where
  last : Option ℕ
  last = cond (nat_lt MAX_WORDS (length (words_of_classes classes))) (Some (counted (length (words_of_classes classes)))) None

  at : (a b : Bool) → cond a (Some (length classes)) (cond b (Some 0) last) ≡ first_of (cond a (Some (length classes)) None) (first_of (cond b (Some 0) None) last)
  at true b = refl
  at false true = refl
  at false false = refl

says-counts : (classes : List (List ℕ)) → Says (wrong_count classes) (HasRightSizes classes) (IsWrongSize classes)
says-counts classes =
    let total = length (words_of_classes classes) in
    subst (λ (o : Option ℕ). Says o (HasRightSizes classes) (IsWrongSize classes)) (sym (counts-are classes))
    (says-also
    (says-first (cond (length classes == 0 || nat_lt MAX_CLASSES (length classes)) (Some (length classes)) None) (after_count classes)
    (says-count (length classes) MAX_CLASSES (length classes))
    (says-first (cond (list_any (λ c. length c == 0) classes) (Some 0) None) (cond (nat_lt MAX_WORDS total) (Some (counted total)) None)
    (says-if (list_any (λ c. length c == 0) classes) 0 (full classes) (none-empty classes) (some-empty classes) (empty-some classes))
    (says-above total MAX_WORDS (counted total))))
    (λ h. (h.0, h.1.0, h.1.1)) (λ h. (h.0, (h.1, h.2)))
    (λ count h. elim h [
      | inl out ↦ inl (out.1, sym out.0)
      | inr after ↦ elim after.1 [
        | inl empty ↦ inr (inl (after.0, empty.1, sym empty.0))
        | inr last ↦ inr (inr (after.0, last.0, last.1.1, sym last.1.0))
      ]
    ])
    (λ count h. elim h [
      | inl out ↦ inl (sym out.1, out.0)
      | inr after ↦ elim after [ inl empty ↦ inr (empty.0, inl (sym empty.2, empty.1)) | inr last ↦ inr (last.0, inr (last.1, (sym last.3, last.2))) ]
    ]))

-- the reason of the least close pair
abbrev close_of : Entry → ℕ → List (List ℕ) → ℕ × ℕ → PartitionFault
close_of e between classes p =
    partition.Close p.0 p.1 (distance_at e.n classes p.0 p.1) (class_at classes p.0) (class_at classes p.1) (need e.d between classes p.0 p.1)

-- classes against which there is no reason
pub record AreRightClasses (e : Entry) (between : ℕ) (classes : List (List ℕ)) : Type 0 where
  pub sizes : HasRightSizes classes
  pub weights : HaveWeight e (words_of_classes classes)
  pub different : AreDifferent classes
  pub apart : NoPair (is_close e.n e.d between classes) (all_places (length (words_of_classes classes)))

-- the reasons, one after the other
abbrev IsAnyFault : Entry → ℕ → List (List ℕ) → PartitionFault → Type 0
IsAnyFault e between classes f =
    ((count : ℕ) × ◌≡◌ {A = PartitionFault} (partition.Size count) f × IsWrongSize classes count)
    ⊎ (HasRightSizes classes × (((i : ℕ) × ◌≡◌ {A = PartitionFault} (partition.Weight i) f × IsFirstOfOtherWeight e (words_of_classes classes) i)
    ⊎ (HaveWeight e (words_of_classes classes) × (((p : ℕ × ℕ) × ◌≡◌ {A = PartitionFault} (partition.Repeated p.0 p.1) f × IsLeastPair (λ x y. x == y) (words_of_classes classes) p.0 p.1)
    ⊎ (AreDifferent classes × ((p : ℕ × ℕ) × ◌≡◌ {A = PartitionFault} (close_of e between classes p) f
    × IsLeastPair (is_close e.n e.d between classes) (all_places (length (words_of_classes classes))) p.0 p.1))))))

any-fault : (e : Entry) (between : ℕ) (classes : List (List ℕ)) (f : PartitionFault) → IsAnyFault e between classes f → IsClassesFault e between classes f
any-fault e between classes f h = elim h [
  | inl size ↦ subst (IsClassesFault e between classes) size.1 size.2
  | inr after ↦ elim after.1 [
    | inl other ↦ subst (IsClassesFault e between classes) other.1 (after.0, other.2)
    | inr later ↦ elim later.1 [
      | inl twice ↦ subst (IsClassesFault e between classes) twice.1 (after.0, later.0, twice.2)
      | inr last ↦ subst (IsClassesFault e between classes) last.1.1 (after.0, later.0, last.0, (last.1.2, refl, refl, refl, refl))
    ]
  ]
]

fault-any : (e : Entry) (between : ℕ) (classes : List (List ℕ)) (f : PartitionFault) → IsClassesFault e between classes f → IsAnyFault e between classes f
fault-any e between classes (partition.Size count) h = inl (count, refl, h)
fault-any e between classes (partition.Weight i) h = inr (h.0, inl (i, refl, h.1))
fault-any e between classes (partition.Repeated i j) h = inr (h.0, inr (h.1, inl ((i, j), refl, h.2)))
fault-any e between classes (partition.Close i j apart class_i class_j needed) h =
    let close = h.3 in
    let same : close_of e between classes (i, j) ≡ partition.Close i j apart class_i class_j needed =
    λ k. partition.Close i j (sym close.1 k) (sym close.2 k) (sym close.3 k) (sym close.4 k) in
    inr (h.0, inr (h.1, inr (h.2, ((i, j), same, close.0))))
fault-any e between classes partition.Memory h = absurd h

pub says-classes : (e : Entry) (between : ℕ) (classes : List (List ℕ)) → Says (partition_fault e between classes) (AreRightClasses e between classes) (IsClassesFault e between classes)
unfolding partition_fault
says-classes e between classes =
    let words = words_of_classes classes in
    says-also
    (says-first (option_map partition.Size (wrong_count classes)) (first_of (partition_weight_fault e.n e.w words) (first_of (partition_repeated_fault words) (partition_close_fault e.n e.d between classes)))
    (says-map partition.Size (wrong_count classes) (says-counts classes))
    (says-first (partition_weight_fault e.n e.w words) (first_of (partition_repeated_fault words) (partition_close_fault e.n e.d between classes))
    (says-weight e words partition.Weight (λ (w : Option ℕ). partition_weight_fault e.n w words) refl (λ w. refl))
    (says-first (partition_repeated_fault words) (partition_close_fault e.n e.d between classes)
    (says-map (λ (p : ℕ × ℕ). partition.Repeated p.0 p.1) (least_pair (λ x y. x == y) words) (says-pair (λ x y. x == y) words))
    (says-map (close_of e between classes) (least_pair (is_close e.n e.d between classes) (all_places (length words)))
    (says-pair (is_close e.n e.d between classes) (all_places (length words)))))))
    (λ h. record { sizes = h.0; weights = h.1.0; different = h.1.1.0; apart = h.1.1.1 }) (λ h. (h.sizes, (h.weights, (h.different, h.apart))))
    (any-fault e between classes) (fault-any e between classes)

-- evidence of kind partition
partition-back : (e : Entry) (between : ℕ) (classes : List (List ℕ)) (reason : SubmitFault) → IsPartitionRefusal e between classes reason
    → (f : PartitionFault) × ◌≡◌ {A = SubmitFault} (fault.Partition f) reason × IsClassesFault e between classes f
partition-back e between classes (fault.Partition f) h = (f, refl, h)
partition-back e between classes reason h = absurd h

pub partition-reasons : (known : List NamedCode) (e : Entry) (between : ℕ) (classes : List (List ℕ))
    → Says ((partition_kind e between classes).reason known) (AreRightClasses e between classes) (IsPartitionRefusal e between classes)
partition-reasons known e between classes =
    says-also (says-map fault.Partition (partition_fault e between classes) (says-classes e between classes)) (λ right. right) (λ right. right)
    (λ reason h. subst (IsPartitionRefusal e between classes) h.1 h.2) (partition-back e between classes)
