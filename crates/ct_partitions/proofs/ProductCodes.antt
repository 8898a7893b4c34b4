-- The product of pairs of partitions is a code.
use Rattle.std.proofs.Common.{◌≡◌, ℕ, ◌+◌, ◌-◌, ◌*◌, ◌^◌, ◌<◌, ◌≤◌, Bool, true, false, ◌&&◌, ◌==◌, min, List, [], ◌∷◌, ◌++◌, length, map, get_or, Option, Some, None, IfSome, All, AllPairs, refl, ap, ap₂, sym, subst, ◌∙◌, arith, append-nil, length-append}
use Rattle.std.specs.Prelude.{fold, sum_by}
use Rattle.std.specs.Option.{unwrap_or}
use Rattle.std.specs.List.{zip}
use Rattle.std.proofs.lemmas.Bool.{false≢true}
use Rattle.std.proofs.lemmas.List.{length-map, get_or_append_left, get_or-append-add}
use Rattle.std.proofs.lemmas.List.Kept.{AllPairs-cons}
use Rattle.std.proofs.lemmas.List.Elements.{All-nil, All-cons, All-append, All-map, All-head, All-tail, All-weaker}
use Rattle.std.proofs.lemmas.List.Concat.{length-flat_map}
use Rattle.ct_words.proofs.Counting.Sums.{sum_by-congruence}
use Rattle.ct_words.proofs.Counting.Pairs.{AllPairs-head, AllPairs-tail, AllPairs-append, AllPairs-map, AllPairs-within, AllPairs-weaker}
use Rattle.ct_words.specs.Word.{places, digit, weight, distance}
use Rattle.ct_words.proofs.WordLemmas.{one, distance_comm, places_within_two, places-none, weights_of_pair}
use Rattle.ct_words.specs.Code.{IsCode}
use Rattle.ct_words.specs.Constructions.Joined.{followed_by}
use Rattle.ct_words.specs.Constructions.Juxtaposed.{added_weights}
use Rattle.ct_words.proofs.Constructions.JoinedLemmas.{followed_by-lt, weight-followed_by, distance-followed_by}
use Rattle.ct_words.proofs.Constructions.FarWords.{AreFar, code_from_far}
use Rattle.ct_classes.specs.Partition.{words_of_classes, IsPartition}
use Rattle.ct_partitions.specs.Product.{Factors, all_followed, class_products, product, partition_weight, pair_distance, weight_gap, distances, least, product_size, product_distance, AreFactors}

-- what holds of two lists in a row holds of each
All-parts : {X : Type 0} (P : X → Type 0) (xs ys : List X) → All P (xs ++ ys) → All P xs × All P ys
All-parts P xs ys each =
    let whole = length-append xs ys in (
      λ i z within. subst P (get_or_append_left xs ys z i within) (each i z (omega arith)),
      λ i z within. subst P (get_or-append-add xs ys i z) (each (length xs + i) z (omega arith)),
    )

-- and what holds of each two of them, of each two of both, and of one of the first with one of the second
AllPairs-parts : {X : Type 0} (R : X → X → Type 0) (xs ys : List X) → AllPairs R (xs ++ ys)
    → AllPairs R xs × AllPairs R ys × All (λ x. All (R x) ys) xs
AllPairs-parts R [] ys each = (λ i j z order within. absurd (omega arith), each, All-nil (λ x. All (R x) ys))
AllPairs-parts R (x ∷ xs) ys each =
    let rest = AllPairs-parts R xs ys (AllPairs-tail R x (xs ++ ys) each) in
    let first = All-parts (R x) xs ys (AllPairs-head R x (xs ++ ys) each) in
    (AllPairs-cons R x xs first.0 rest.0, rest.1, All-cons (λ z. All (R z) ys) x xs first.1 rest.2)

-- what holds of x followed by y holds of all words put together
All-followed : (P Q R : ℕ → Type 0) (m : ℕ) → ((x y : ℕ) → P x → Q y → R (followed_by m x y)) → (xs ys : List ℕ) → All P xs → All Q ys
    → All R (all_followed m xs ys)
All-followed P Q R m joined [] ys first second = All-nil R
All-followed P Q R m joined (x ∷ xs) ys first second =
    All-append R (map (λ y. followed_by m x y) ys) (all_followed m xs ys)
    (All-map R (λ y. followed_by m x y) ys (λ k z within. joined x (get_or ys k z) (All-head P x xs first) (second k z within)))
    (All-followed P Q R m joined xs ys (All-tail P x xs first) second)

All-classes : (P Q R : ℕ → Type 0) (m : ℕ) → ((x y : ℕ) → P x → Q y → R (followed_by m x y)) → (cs ds : List (List ℕ))
    → All P (words_of_classes cs) → All Q (words_of_classes ds) → All R (class_products m cs ds)
All-classes P Q R m joined [] ds first second = All-nil R
All-classes P Q R m joined (c ∷ cs) [] first second = All-nil R
All-classes P Q R m joined (c ∷ cs) (e ∷ es) first second =
    let one = All-parts P c (words_of_classes cs) first in
    let two = All-parts Q e (words_of_classes es) second in
    All-append R (all_followed m c e) (class_products m cs es) (All-followed P Q R m joined c e one.0 two.0)
    (All-classes P Q R m joined cs es one.1 two.1)

-- the words have distance d at least
abbrev Far : ℕ → ℕ → ℕ → ℕ → Type 0
Far n d x y = d ≤ distance n x y

-- words of two classes of distance d
far_followed : (n m d : ℕ) (xs ys : List ℕ) → All (λ y. y < 2 ^ m) ys → AllPairs (Far n d) xs → AllPairs (Far m d) ys
    → AllPairs (Far (n + m) d) (all_followed m xs ys)
far_followed n m d [] ys below first second = λ i j z order within. absurd (omega arith)
far_followed n m d (x ∷ xs) ys below first second =
    AllPairs-append (Far (n + m) d) (map (λ y. followed_by m x y) ys) (all_followed m xs ys) row
    (far_followed n m d xs ys below (AllPairs-tail (Far n d) x xs first) second) across
  where
    row : AllPairs (Far (n + m) d) (map (λ y. followed_by m x y) ys)
    row = AllPairs-map (Far (n + m) d) (λ y. followed_by m x y) ys
        (AllPairs-within (λ y. y < 2 ^ m) (Far m d) (λ y y'. Far (n + m) d (followed_by m x y) (followed_by m x y')) ys
        (λ y y' h h' far. let sum = distance-followed_by n m x y x y' h h' in omega arith) below second)

    across : All (λ z. All (Far (n + m) d z) (all_followed m xs ys)) (map (λ y. followed_by m x y) ys)
    across = All-map (λ z. All (Far (n + m) d z) (all_followed m xs ys)) (λ y. followed_by m x y) ys (λ k z within.
        All-followed (Far n d x) (λ y'. y' < 2 ^ m) (Far (n + m) d (followed_by m x (get_or ys k z))) m
        (λ x' y' far h'. let sum = distance-followed_by n m x (get_or ys k z) x' y' (below k z within) h' in omega arith)
        xs ys (AllPairs-head (Far n d) x xs first) below)

-- words of classes side by side
far_classes : (n m d b e : ℕ) (cs ds : List (List ℕ)) → d ≤ b + e → All (λ y. y < 2 ^ m) (words_of_classes ds)
    → All (AllPairs (Far n d)) cs → All (AllPairs (Far m d)) ds → AllPairs (Far n b) (words_of_classes cs) → AllPairs (Far m e) (words_of_classes ds)
    → AllPairs (Far (n + m) d) (class_products m cs ds)
far_classes n m d b e [] ds near below first second firsts seconds = λ i j z order within. absurd (omega arith)
far_classes n m d b e (c ∷ cs) [] near below first second firsts seconds = λ i j z order within. absurd (omega arith)
far_classes n m d b e (c ∷ cs) (g ∷ gs) near below first second firsts seconds =
    let belows = All-parts (λ y. y < 2 ^ m) g (words_of_classes gs) below in
    let one = AllPairs-parts (Far n b) c (words_of_classes cs) firsts in
    let two = AllPairs-parts (Far m e) g (words_of_classes gs) seconds in
    AllPairs-append (Far (n + m) d) (all_followed m c g) (class_products m cs gs)
    (far_followed n m d c g belows.0 (All-head (AllPairs (Far n d)) c cs first) (All-head (AllPairs (Far m d)) g gs second))
    (far_classes n m d b e cs gs near belows.1 (All-tail (AllPairs (Far n d)) c cs first) (All-tail (AllPairs
    (Far m d)) g gs second) one.1 two.1)
    (All-followed (λ x. All (Far n b x) (words_of_classes cs)) (λ y. (y < 2 ^ m) × All (Far m e y) (words_of_classes gs))
    (λ z. All (Far (n + m) d z) (class_products m cs gs)) m
    (λ x y far h. All-classes (Far n b x) (λ y'. (y' < 2 ^ m) × Far m e y y') (Far (n + m) d (followed_by m x y)) m
    (λ x' y' far' h'. let sum = distance-followed_by n m x y x' y' h.0 h'.0 in let more = h'.1 in omega arith)
    cs gs far (λ k z within. (belows.1 k z within, h.1 k z within)))
    c g one.2 (λ k z within. (belows.0 k z within, two.2 k z within)))

-- a least number is at most each
least-le : (d x : ℕ) (xs : List ℕ) → d ≤ fold min x xs → (d ≤ x) × All (λ v. d ≤ v) xs
least-le d x [] h = (h, All-nil (λ v. d ≤ v))
least-le d x (y ∷ ys) h =
    let rest = least-le d (min x y) ys h in
    let both = rest.0 in
    (omega arith, All-cons (λ v. d ≤ v) y ys (omega arith) rest.1)

pub below_each : (d : ℕ) (xs : List ℕ) → d ≤ least xs → All (λ v. d ≤ v) xs
below_each d [] h = All-nil (λ v. d ≤ v)
below_each d (x ∷ xs) h = let parts = least-le d x xs h in All-cons (λ v. d ≤ v) x xs parts.0 parts.1

-- ones in common are ones
common-le : (n x y : ℕ) → places (λ p. digit n x p == 1 && digit n y p == 1) n ≤ weight n y
unfolding weight
common-le n x y =
    let none = places-none (λ p. false) n (λ p h. refl) in
    let within = places_within_two (λ p. digit n x p == 1 && digit n y p == 1) (λ p. digit n y p == 1) (λ p. false) n
    (λ p h. both (digit n x p == 1) (digit n y p == 1)) in
    omega arith
  where
    both : (a b : Bool) → one (a && b) ≤ one b + one false
    both true true = omega arith
    both true false = omega arith
    both false true = omega arith
    both false false = omega arith

-- two words are at least as far apart as their weights
weights-apart : (n x y : ℕ) → weight n x - weight n y ≤ distance n x y
weights-apart n x y =
    let both = weights_of_pair n x y in
    let common = common-le n x y in
    omega arith

-- a word of a product, with the weights of its two parts
record Parts (a m v u : ℕ) (z : ℕ) : Type 0 where
  first : ℕ
  second : ℕ
  whole : z ≡ followed_by m first second
  first_below : first < 2 ^ a
  second_below : second < 2 ^ m
  first_weight : weight a first ≡ v
  second_weight : weight m second ≡ u

-- two such words, whose weights add up to the same, are twice as far apart as the weights of the first parts
parts-apart : (a m v u v' u' z z' : ℕ) → v + u ≡ v' + u' → Parts a m v u z → Parts a m v' u' z'
    → 2 * ((v - v') + (v' - v)) ≤ distance (a + m) z z'
parts-apart a m v u v' u' z z' same p q =
    let sum = distance-followed_by a m p.first p.second q.first q.second p.second_below q.second_below in
    let here = ap₂ (distance (a + m)) p.whole q.whole in
    let one = weights-apart a p.first q.first in
    let two = weights-apart a q.first p.first in
    let three = weights-apart m p.second q.second in
    let four = weights-apart m q.second p.second in
    let turned = distance_comm a q.first p.first in
    let turned' = distance_comm m q.second p.second in
    let w1 = p.first_weight in
    let w2 = p.second_weight in
    let w3 = q.first_weight in
    let w4 = q.second_weight in
    omega arith

-- the lengths of two partitions
record AreOfLengths (a m : ℕ) (p : Factors) : Type 0 where
  first_length : p.0.entry.n ≡ a
  second_length : p.1.entry.n ≡ m

-- two partitions
pub record ArePartitions (p : Factors) : Type 0 where
  pub first : IsPartition p.0.entry.n p.0.entry.d p.0.entry.w p.0.between p.0.classes
  pub second : IsPartition p.1.entry.n p.1.entry.d p.1.entry.w p.1.between p.1.classes

-- the words of the product of one pair
abbrev words_of_pair : Factors → List ℕ
words_of_pair p = class_products p.1.entry.n p.0.classes p.1.classes

-- they are words of both lengths together
pair-below : (p : Factors) → ArePartitions p → All (λ z. z < 2 ^ (p.0.entry.n + p.1.entry.n)) (words_of_pair p)
pair-below p are =
    All-classes (λ x. x < 2 ^ p.0.entry.n) (λ y. y < 2 ^ p.1.entry.n) (λ z. z < 2 ^ (p.0.entry.n + p.1.entry.n)) p.1.entry.n
    (followed_by-lt p.0.entry.n p.1.entry.n) p.0.classes p.1.classes are.first.union_is_code.lengths are.second.union_is_code.lengths

-- each two of them at the distance of the pair
pair-far : (p : Factors) (d : ℕ) → ArePartitions p → d ≤ pair_distance p → AllPairs (Far (p.0.entry.n + p.1.entry.n) d) (words_of_pair p)
pair-far p d are near =
    far_classes p.0.entry.n p.1.entry.n d p.0.between p.1.between p.0.classes p.1.classes (omega arith) are.second.union_is_code.lengths
    (nearer p.0.entry.n p.0.entry.d p.0.entry.w p.0.classes (omega arith) are.first.classes_are_codes)
    (nearer p.1.entry.n p.1.entry.d p.1.entry.w p.1.classes (omega arith) are.second.classes_are_codes)
    are.first.union_is_code.apart are.second.union_is_code.apart
  where
    nearer : (n e : ℕ) (w : Option ℕ) (cs : List (List ℕ)) → d ≤ e → All (IsCode n e w) cs → All (AllPairs (Far n d)) cs
    nearer n e w cs less codes =
        All-weaker (IsCode n e w) (AllPairs (Far n d)) (λ c code. AllPairs-weaker (Far n e) (Far n d) c
        (λ x y h. omega arith) code.apart) cs codes

-- and of the weights of their parts
pair-parts : (p : Factors) (v u : ℕ) → ArePartitions p → p.0.entry.w ≡ Some v → p.1.entry.w ≡ Some u
    → All (Parts p.0.entry.n p.1.entry.n v u) (words_of_pair p)
pair-parts p v u are one two =
    All-classes (λ x. (x < 2 ^ p.0.entry.n) × (weight p.0.entry.n x ≡ v)) (λ y. (y < 2 ^ p.1.entry.n) × (weight p.1.entry.n y ≡ u))
    (Parts p.0.entry.n p.1.entry.n v u) p.1.entry.n
    (λ x y h k. record {
      first = x;
      second = y;
      whole = refl;
      first_below = h.0;
      second_below = k.0;
      first_weight =
          h.1;
      second_weight = k.1;
    })
    p.0.classes p.1.classes
    (λ k z h. (
      are.first.union_is_code.lengths k z h,
      weights p.0.entry.n p.0.entry.w v
          (words_of_classes p.0.classes) one are.first.union_is_code.weights k z h,
    ))
    (λ k z h. (
      are.second.union_is_code.lengths k z h,
      weights p.1.entry.n p.1.entry.w u
          (words_of_classes p.1.classes) two are.second.union_is_code.weights k z h,
    ))
  where
    weights : (n : ℕ) (w : Option ℕ) (k : ℕ) (words : List ℕ) → w ≡ Some k → IfSome w (λ k. All (λ x. weight n x ≡ k) words)
        → All (λ x. weight n x ≡ k) words
    weights n w k words is each = subst (λ o. IfSome o (λ k. All (λ x. weight n x ≡ k) words)) is each

-- both weights of a pair whose weights add up to k
record HaveWeights (k : ℕ) (p : Factors) : Type 0 where
  first_weight : p.0.entry.w ≡ Some (partition_weight p.0)
  second_weight : p.1.entry.w ≡ Some (partition_weight p.1)
  sum : partition_weight p.0 + partition_weight p.1 ≡ k

have_weights : (k : ℕ) (p : Factors) → added_weights p.0.entry.w p.1.entry.w ≡ Some k → HaveWeights k p
have_weights k p is = go p.0.entry.w p.1.entry.w refl refl is
  where
    go : (v u : Option ℕ) → p.0.entry.w ≡ v → p.1.entry.w ≡ u → added_weights v u ≡ Some k → HaveWeights k p
    go None u one two h = cc
    go (Some i) None one two h = cc
    go (Some i) (Some j) one two h =
        let first : partition_weight p.0 ≡ i = ap (λ o. unwrap_or o 0) one in
        let second : partition_weight p.1 ≡ j = ap (λ o. unwrap_or o 0) two in
        let both : i + j ≡ k = cc in
        record { first_weight = one ∙ ap Some (sym first); second_weight = two ∙ ap Some (sym second); sum = omega arith }

-- what holds of the words of each pair holds of all words of the product
All-product : (R : ℕ → Type 0) (ps : List Factors) → All (λ p. All R (words_of_pair p)) ps → All R (product ps)
All-product R [] each = All-nil R
All-product R (p ∷ ps) each =
    All-append R (words_of_pair p) (product ps) (All-head (λ p. All R (words_of_pair p)) p ps each)
    (All-product R ps (All-tail (λ p. All R (words_of_pair p)) p ps each))

-- what is known of each pair of factors of lengths a and m and weight k
record Known (a m k : ℕ) (p : Factors) : Type 0 where
  partitions : ArePartitions p
  lengths : AreOfLengths a m p
  weights : HaveWeights k p

known-parts : (a m k : ℕ) (p : Factors) → Known a m k p → All (Parts a m (partition_weight p.0) (partition_weight p.1)) (words_of_pair p)
known-parts a m k p known =
    subst (λ i. All (Parts i m (partition_weight p.0) (partition_weight p.1)) (words_of_pair p)) known.lengths.first_length
    (subst (λ j. All (Parts p.0.entry.n j (partition_weight p.0) (partition_weight p.1)) (words_of_pair p)) known.lengths.second_length
    (pair-parts p (partition_weight p.0) (partition_weight p.1) known.partitions known.weights.first_weight known.weights.second_weight))

known-far : (a m k d : ℕ) (p : Factors) → Known a m k p → d ≤ pair_distance p → AllPairs (Far (a + m) d) (words_of_pair p)
known-far a m k d p known near =
    subst (λ i. AllPairs (Far (i + m) d) (words_of_pair p)) known.lengths.first_length
    (subst (λ j. AllPairs (Far (p.0.entry.n + j) d) (words_of_pair p)) known.lengths.second_length (pair-far p d known.partitions near))

-- words of several pairs
far_product : (a m k d : ℕ) (ps : List Factors) → All (Known a m k) ps → All (λ v. d ≤ v) (distances ps)
    → AllPairs (Far (a + m) d) (product ps)
far_product a m k d [] known near = λ i j z order within. absurd (omega arith)
far_product a m k d (p ∷ ps) known near =
    let here = All-head (Known a m k) p ps known in
    let rest = All-tail (Known a m k) p ps known in
    let gaps = All-parts (λ v. d ≤ v) (map (weight_gap p) ps) (distances ps) (All-tail (λ v. d ≤ v) (pair_distance p) (map
    (weight_gap p) ps ++ distances ps) near) in
    AllPairs-append (Far (a + m) d) (words_of_pair p) (product ps)
    (known-far a m k d p here (All-head (λ v. d ≤ v) (pair_distance p) (map (weight_gap p) ps ++ distances ps) near))
    (far_product a m k d ps rest gaps.1)
    (λ i z within. All-product (Far (a + m) d (get_or (words_of_pair p) i z)) ps
    (across (get_or (words_of_pair p) i z) (known-parts a m k p here i z within) here.weights ps rest gaps.0))
  where
    across : (x : ℕ) → Parts a m (partition_weight p.0) (partition_weight p.1) x → HaveWeights k p → (qs : List Factors) → All (Known a m k) qs
        → All (λ v. d ≤ v) (map (weight_gap p) qs) → All (λ q. All (Far (a + m) d x) (words_of_pair q)) qs
    across x parts weights [] others gaps = All-nil (λ q. All (Far (a + m) d x) (words_of_pair q))
    across x parts weights (q ∷ qs) others gaps =
        let other = All-head (Known a m k) q qs others in
        let gap = All-head (λ v. d ≤ v) (weight_gap p q) (map (weight_gap p) qs) gaps in
        let one = weights.sum in
        let two = other.weights.sum in
        let words = known-parts a m k q other in
        All-cons (λ r. All (Far (a + m) d x) (words_of_pair r)) q qs
        (λ i z within.
        let apart = parts-apart a m (partition_weight p.0) (partition_weight p.1) (partition_weight q.0) (partition_weight q.1) x (get_or (words_of_pair q) i z)
        (omega arith) parts (words i z within) in
        omega arith)
        (across x parts weights qs (All-tail (Known a m k) q qs others) (All-tail (λ v. d ≤ v) (weight_gap p q) (map
        (weight_gap p) qs) gaps))

-- a code from words that are far from each other
code_from_distances : (n d : ℕ) (w : Option ℕ) (words : List ℕ) → 1 ≤ d → All (λ x. x < 2 ^ n) words → AllPairs (Far n d) words
    → IfSome w (λ k. All (λ x. weight n x ≡ k) words) → IsCode n d w words
code_from_distances n d w words some below far weights =
    code_from_far n d w words below (AllPairs-weaker (Far n d) (AreFar n d) words (λ x y h. (omega arith, h)) far) weights

-- the words of the product of partitions of lengths a and m, and of weight k
code_of_weight : (a m k d : ℕ) (ps : List Factors) → 1 ≤ d → All (Known a m k) ps → All (λ v. d ≤ v) (distances ps)
    → IsCode (a + m) d (Some k) (product ps)
code_of_weight a m k d ps some known near =
    code_from_distances (a + m) d (Some k) (product ps) some
    (All-product (λ z. z < 2 ^ (a + m)) ps (λ i q within. All-weaker (Parts a m (partition_weight (get_or ps i q).0) (partition_weight
    (get_or ps i q).1)) (λ z. z < 2 ^ (a + m)) below
    (words_of_pair (get_or ps i q)) (known-parts a m k (get_or ps i q) (known i q within))))
    (far_product a m k d ps known near)
    (All-product (λ z. weight (a + m) z ≡ k) ps (λ i q within. All-weaker (Parts a m (partition_weight (get_or ps i q).0) (partition_weight
    (get_or ps i q).1)) (λ z. weight (a + m) z ≡ k)
    (λ z parts. sums z (partition_weight (get_or ps i q).0) (partition_weight (get_or ps i q).1) parts (known i q within).weights.sum)
    (words_of_pair (get_or ps i q)) (known-parts a m k (get_or ps i q) (known i q within))))
  where
    below : {v u : ℕ} (z : ℕ) → Parts a m v u z → z < 2 ^ (a + m)
    below z parts = subst (λ x. x < 2 ^ (a + m)) (sym parts.whole)
        (followed_by-lt a m parts.first parts.second parts.first_below parts.second_below)

    sums : (z v u : ℕ) → Parts a m v u z → v + u ≡ k → weight (a + m) z ≡ k
    sums z v u parts sum =
        ap (weight (a + m)) parts.whole ∙ weight-followed_by a m parts.first parts.second parts.second_below
        ∙ ap₂ (λ i j. i + j) parts.first_weight parts.second_weight ∙ sum

-- those of one pair
code_of_pair : (p : Factors) (d : ℕ) → 1 ≤ d → ArePartitions p → d ≤ pair_distance p
    → IsCode (p.0.entry.n + p.1.entry.n) d None (product (p ∷ []))
code_of_pair p d some are near =
    subst (IsCode (p.0.entry.n + p.1.entry.n) d None) (sym (append-nil (words_of_pair p)))
    (code_from_distances (p.0.entry.n + p.1.entry.n) d None (words_of_pair p) some (pair-below p are) (pair-far p d are near) tt)

-- a product is a code
pub IsCode-product : (n d : ℕ) (w : Option ℕ) (pairs : List Factors) → AreFactors n w pairs → All ArePartitions pairs → 1 ≤ d
    → d ≤ product_distance pairs → IsCode n d w (product pairs)
IsCode-product n d w [] factors are some near = let none = factors.some in absurd (omega arith)
IsCode-product n d None (p ∷ []) factors are some near =
    subst (λ j. IsCode j d None (product (p ∷ []))) (All-head (λ q. q.0.entry.n + q.1.entry.n ≡ n) p [] factors.lengths)
    (code_of_pair p d some (All-head ArePartitions p [] are) near)
IsCode-product n d None (p ∷ q ∷ ps) factors are some near = absurd (false≢true (factors.weighted (omega arith)))
IsCode-product n d (Some k) (p ∷ ps) factors are some near =
    let whole = All-head (λ q. q.0.entry.n + q.1.entry.n ≡ n) p ps factors.lengths in
    let same = All-cons (λ q. q.0.entry.n ≡ p.0.entry.n) p ps refl
    (λ i z within. sym (AllPairs-head (λ q r. q.0.entry.n ≡ r.0.entry.n) p ps factors.one_length i z within)) in
    subst (λ j. IsCode j d (Some k) (product (p ∷ ps))) whole
    (code_of_weight p.0.entry.n p.1.entry.n k d (p ∷ ps) some
    (λ i z within.
    let first = same i z within in
    let both = factors.lengths i z within in
    record {
      partitions = are i z within;
      lengths = record { first_length = first; second_length = omega arith };
      weights = have_weights k (get_or (p ∷ ps) i z) (factors.weights i z within);
    })
    (below_each d (distances (p ∷ ps)) near))

-- it has as many words as the products of the sizes of the classes, added up
pub length-followed : (m : ℕ) (xs ys : List ℕ) → length (all_followed m xs ys) ≡ length xs * length ys
length-followed m [] ys = omega arith
length-followed m (x ∷ xs) ys =
    let rest = length-followed m xs ys in
    let row = length-map ys (λ y. followed_by m x y) in
    length-append (map (λ y. followed_by m x y) ys) (all_followed m xs ys) ∙ omega arith

pub length-classes : (m : ℕ) (cs ds : List (List ℕ)) → length (class_products m cs ds) ≡ sum_by (λ c. length c.0 * length c.1) (zip cs ds)
length-classes m cs ds =
    length-flat_map (λ p. all_followed m p.0 p.1) (zip cs ds)
    ∙ sum_by-congruence (λ p. length (all_followed m p.0 p.1)) (λ c. length c.0 * length c.1) (zip cs ds) (λ p. length-followed m p.0 p.1)

pub length-product : (pairs : List Factors) → length (product pairs) ≡ product_size pairs
length-product pairs =
    length-flat_map (λ p. class_products p.1.entry.n p.0.classes p.1.classes) pairs
    ∙ sum_by-congruence (λ p. length (class_products p.1.entry.n p.0.classes p.1.classes)) (λ p. sum_by
    (λ c. length c.0 * length c.1) (zip p.0.classes p.1.classes)) pairs
    (λ p. length-classes p.1.entry.n p.0.classes p.1.classes)
