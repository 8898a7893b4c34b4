-- The faults of pairs of words of a partition.
use Rattle.std.proofs.Common.{◌≡◌, ℕ, ◌+◌, ◌^◌, ◌<◌, ◌≤◌, Bool, true, false, if◌then◌else◌, ◌==◌, nat_lt, List, [], ◌∷◌, length, get_or, position, Some, None, All, refl, ap, ap₂, sym, ◌∙◌, arith, ne_eqb, not}
use Rattle.std.specs.List.{prefix_len}
use Rattle.std.proofs.lemmas.Bool.{ltb-false}
use Rattle.std.proofs.lemmas.List.Elements.{All-head, All-tail}
use Rattle.ct_words.specs.Word.{distance, weight}
use Rattle.ct_words.specs.PairProducts.{all_places}
use Rattle.ct_words.proofs.TextLemmas.{length-tabulate, get_or-tabulate}
use Rattle.ct_words.proofs.WordLemmas.{distance_same, weight_any_length}
use Rattle.ct_words.specs.Pairs.{first_of, least_pair}
use Rattle.ct_words.proofs.PairLemmas.{least_pair-none, NoPair-from}
use Rattle.ct_words.proofs.CheckLemmas.{equal_is_close}
use Rattle.ct_classes.specs.declared.fault.PartitionFault.TheVariants.{Repeated, Close}
use Rattle.ct_classes.specs.Partition.{words_of_classes}
use Rattle.ct_partitions.specs.Check.{class_at, need, distance_at, is_close, partition_repeated_fault, partition_close_fault}

-- what two places need is at least the distance between classes
pub between-le-need : (d between : ℕ) (classes : List (List ℕ)) (i j : ℕ) → between ≤ d → between ≤ need d between classes i j
between-le-need d between classes i j nearer = go (class_at classes i == class_at classes j)
  where
    go : (b : Bool) → between ≤ (if b then d else between)
    go true = nearer
    go false = omega arith

-- where no pair is too close, each pair has what it needs
pub needs_from_none : (n d between : ℕ) (classes : List (List ℕ))
    → least_pair (is_close n d between classes) (all_places (length (words_of_classes classes))) ≡ None
    → (i j : ℕ) → i < j → j < length (words_of_classes classes) → need d between classes i j ≤ distance_at n classes i j
needs_from_none n d between classes none i j order within =
    let total = length (words_of_classes classes) in
    let long = length-tabulate (λ p. p) total in
    let fails = NoPair-from (is_close n d between classes) (all_places total) none i j order (omega arith) in
    let here = ap₂ (is_close n d between classes) (get_or-tabulate (λ p. p) total i (omega arith)) (get_or-tabulate
    (λ p. p) total j within) in
    ltb-false (distance_at n classes i j) (need d between classes i j) (sym here ∙ fails)

-- then no two words are equal
pub different_from_needs : (n d between : ℕ) (classes : List (List ℕ)) → 1 ≤ between → between ≤ d
    → ((i j : ℕ) → i < j → j < length (words_of_classes classes) → need d between classes i j ≤ distance_at n classes i j)
    → least_pair (λ x y. x == y) (words_of_classes classes) ≡ None
different_from_needs n d between classes some nearer needs =
    let words = words_of_classes classes in
    least_pair-none (λ x y. x == y) words (λ i j order within.
    ne_eqb (get_or words i 0) (get_or words j 0) (λ same.
    let zero_is : distance n (get_or words i 0) (get_or words j 0) ≡ 0 =
    ap (λ z. distance n (get_or words i 0) z) (sym same) ∙ distance_same n (get_or words i 0) in
    let far = needs i j order within in
    let least = between-le-need d between classes i j nearer in
    absurd (omega arith)))

pub no_pair_fault : (n d between : ℕ) (classes : List (List ℕ)) (words : List ℕ) → words ≡ words_of_classes classes → 1 ≤ between → between ≤ d
    → least_pair (is_close n d between classes) (all_places (length words)) ≡ None
    → first_of (partition_repeated_fault words) (partition_close_fault n d between classes) ≡ None
no_pair_fault n d between classes words are some nearer none =
    let there : least_pair (is_close n d between classes) (all_places (length (words_of_classes classes))) ≡ None =
    ap (λ (ws : List ℕ). least_pair (is_close n d between classes) (all_places (length ws))) (sym are) ∙ none in
    let equal = ap (λ (ws : List ℕ). least_pair (λ x y. x == y) ws) are
    ∙ different_from_needs n d between classes some nearer (needs_from_none n d between classes there) in
    rw (equal, there)

-- the least pair of equal words comes first
pub repeated_pair_fault : (n d between : ℕ) (classes : List (List ℕ)) (words : List ℕ) (i j : ℕ) → All (λ x. x < 2 ^ n) words
    → least_pair (λ x y. nat_lt (distance n x y) 1) words ≡ Some (i, j)
    → first_of (partition_repeated_fault words) (partition_close_fault n d between classes) ≡ Some (Repeated i j)
repeated_pair_fault n d between classes words i j below found = rw (equal_is_close n words below ∙ found)

-- and then the least pair that is too close
pub close_pair_fault : (n d between : ℕ) (classes : List (List ℕ)) (words : List ℕ) (i j apart first second needed : ℕ)
    → words ≡ words_of_classes classes
    → All (λ x. x < 2 ^ n) words → least_pair (λ x y. nat_lt (distance n x y) 1) words ≡ None
    → least_pair (is_close n d between classes) (all_places (length words)) ≡ Some (i, j)
    → apart ≡ distance n (get_or words i 0) (get_or words j 0) → first ≡ class_at classes i → second ≡ class_at classes j
    → needed ≡ need d between classes i j
    → Some (Close i j apart first second needed) ≡ first_of (partition_repeated_fault words) (partition_close_fault n d between classes)
close_pair_fault n d between classes words i j apart first second needed are below different found apart_is first_is second_is needed_is =
    let there : least_pair (is_close n d between classes) (all_places (length (words_of_classes classes))) ≡ Some (i, j) =
    ap (λ (ws : List ℕ). least_pair (is_close n d between classes) (all_places (length ws))) (sym are) ∙ found in
    let far : apart ≡ distance_at n classes i j = apart_is ∙ ap (λ (ws : List ℕ). distance n (get_or ws i 0) (get_or ws j 0)) are in
    let fault : Some (Close i j apart first second needed)
    ≡ Some (Close i j (distance_at n classes i j) (class_at classes i) (class_at classes j) (need d between classes i j)) =
    (λ t. Some (Close i j (far t) (first_is t) (second_is t) (needed_is t))) in
    fault ∙ sym (rw (equal_is_close n words below ∙ different, there))

-- tests that agree on the items of a list find the same first one
prefix_same : (P : ℕ → Type 0) (p q : ℕ → Bool) (xs : List ℕ) → ((x : ℕ) → P x → p x ≡ q x) → All P xs → prefix_len p xs ≡ prefix_len q xs
prefix_same P p q [] same each = refl
prefix_same P p q (x ∷ xs) same each =
    let here = same x (All-head P x xs each) in
    let rest = prefix_same P p q xs same (All-tail P x xs each) in
    ap₂ (λ (b : Bool) (k : ℕ). if b then 1 + k else 0) here rest

-- the first word of another weight, whatever the length that the words are read at
pub other_weight_any_length : (n w : ℕ) (words : List ℕ) → All (λ x. x < 2 ^ n) words → All (λ x. x < 2 ^ 32) words
    → position (λ x. not (weight 32 x == w)) words ≡ position (λ x. not (weight n x == w)) words
other_weight_any_length n w words below fits =
    ap (λ k. if nat_lt k (length words) then Some k else None)
    (prefix_same (λ x. (x < 2 ^ n) × (x < 2 ^ 32)) (λ x. not (not (weight 32 x == w))) (λ x. not (not (weight n x == w))) words
    (λ x h. ap (λ t. not (not (t == w))) (weight_any_length 32 n x h.1 h.0)) (λ k z h. (below k z h, fits k z h)))
