-- The distance and the size of a product, one pair and one class more.
use Rattle.std.proofs.Common.{◌≡◌, ℕ, zero, suc, ◌+◌, ◌*◌, ◌^◌, ◌<◌, ◌≤◌, min, List, [], ◌∷◌, ◌++◌, length, take, drop, get_or, map, All, refl, ap, ap₂, sym, subst, ◌∙◌, arith, length-append, append-nil, append_assoc, add-one, Option, Vec}
use Rattle.std.specs.Prelude.{fold, sum_by}
use Rattle.std.specs.declared.alloc.Global.{Global}
use Rattle.std.specs.List.{zip}
use Rattle.std.proofs.Math.Nat.{mul-le-mul_left}
use Rattle.std.proofs.lemmas.List.{length-map, flat_map_more, map-append, get_or-map, get_or_read, drop_more, drop_all, take_more}
use Rattle.std.proofs.lemmas.List.Sums.{fold-append, sum_by-append, sum_by-take-le}
use Rattle.std.proofs.lemmas.Slice.Zip.{length-zip, get_or-zip}
use Rattle.ct_classes.specs.Partition.{word_lists, words_of_classes, PartitionValue, IsSoundPartition}
use Rattle.ct_partitions.specs.Product.{Factors, all_followed, class_products, product, pair_distance, weight_gap, distances, least, product_size, product_distance, AreFactors, AreSound, no_partition, pairs_at, ArePairsOfPlaces}
use Rattle.ct_partitions.proofs.ProductCodes.{below_each, length-followed}
use Rattle.ct_words.specs.declared.limits.TheConstants.{MAX_N}
use Rattle.ct_words.proofs.EntryLemmas.{entry_limits}
use Rattle.std.proofs.lemmas.List.Elements.{All-nil, All-cons, All-append, All-head}
use Rattle.ct_partitions.specs.Inside.Pairs.{no_pair, nearest_at}

-- a pair of partitions that was read
pub first_read : (parts : List PartitionValue) (pairs : List (ℕ × ℕ)) (k : ℕ) (a : PartitionValue) → ArePairsOfPlaces (length parts) pairs
    → k < length pairs
    → a ≡ get_or parts (get_or pairs k (0, 0)).0 a → a ≡ (get_or (pairs_at parts pairs) k no_pair).0
first_read parts pairs k a places within is =
    get_or_read parts (get_or pairs k (0, 0)).0 a (places k (0, 0) within).0 is no_partition
    ∙ sym (ap (λ (p : Factors). p.0) (get_or-map (λ p. (get_or parts p.0 no_partition, get_or parts p.1 no_partition)) pairs k
    (0, 0) no_pair within))

pub second_read : (parts : List PartitionValue) (pairs : List (ℕ × ℕ)) (k : ℕ) (a : PartitionValue)
    → ArePairsOfPlaces (length parts) pairs → k < length pairs
    → a ≡ get_or parts (get_or pairs k (0, 0)).1 a → a ≡ (get_or (pairs_at parts pairs) k no_pair).1
second_read parts pairs k a places within is =
    get_or_read parts (get_or pairs k (0, 0)).1 a (places k (0, 0) within).1 is no_partition
    ∙ sym (ap (λ (p : Factors). p.1) (get_or-map (λ p. (get_or parts p.0 no_partition, get_or parts p.1 no_partition)) pairs k
    (0, 0) no_pair within))

-- there are as many pairs as pairs of places
pub length-pairs_at : (parts : List PartitionValue) (pairs : List (ℕ × ℕ)) → length (pairs_at parts pairs) ≡ length pairs
length-pairs_at parts pairs = length-map pairs (λ (p : ℕ × ℕ). at p)
  where
    at : ℕ × ℕ → Factors
    at p = (get_or parts p.0 no_partition, get_or parts p.1 no_partition)

-- the distances from a place on, one place further
pub distances_step : (pairs : List Factors) (place nearest : ℕ) → place < length pairs
    → fold min nearest (distances (drop place pairs)) ≡ fold min (nearest_at pairs place nearest) (distances (drop (place + 1) pairs))
distances_step pairs place nearest within =
    let p = get_or pairs place no_pair in
    ap (λ ps. fold min nearest (distances ps)) (drop_more pairs place no_pair within)
    ∙ fold-append min (min nearest (pair_distance p)) (map (weight_gap p) (drop (place + 1) pairs)) (distances (drop (place + 1) pairs))

-- the first distance, taken twice
pub distances_start : (pairs : List Factors) → 1 ≤ length pairs
    → fold min (pair_distance (get_or pairs 0 no_pair)) (distances pairs) ≡ least (distances pairs)
distances_start [] some = absurd (omega arith)
distances_start (p ∷ ps) some =
    let twice : min (pair_distance p) (pair_distance p) ≡ pair_distance p = omega arith in
    ap (λ v. fold min v (map (weight_gap p) ps ++ distances ps)) twice

pub distances_end : (pairs : List Factors) (place nearest : ℕ) → length pairs ≤ place
    → fold min nearest (distances (drop place pairs)) ≡ nearest
distances_end pairs place nearest all = ap (λ ps. fold min nearest (distances ps)) (drop_all place pairs all)

-- the gaps from a place on, one place further
pub gaps_step : (p : Factors) (pairs : List Factors) (later nearest : ℕ) → later < length pairs
    → fold min nearest (map (weight_gap p) (drop later pairs))
    ≡ fold min (min nearest (weight_gap p (get_or pairs later no_pair))) (map (weight_gap p) (drop (later + 1) pairs))
gaps_step p pairs later nearest within = ap (λ ps. fold min nearest (map (weight_gap p) ps)) (drop_more pairs later no_pair within)

pub gaps_end : (p : Factors) (pairs : List Factors) (later nearest : ℕ) → length pairs ≤ later
    → fold min nearest (map (weight_gap p) (drop later pairs)) ≡ nearest
gaps_end p pairs later nearest all = ap (λ ps. fold min nearest (map (weight_gap p) ps)) (drop_all later pairs all)

-- the products of the sizes of classes
abbrev pub sizes : List (List ℕ × List ℕ) → ℕ
sizes pairs = sum_by (λ c. length c.0 * length c.1) pairs

-- one class more
pub sizes_step : (cs ds : List (List ℕ)) (k : ℕ) → k < length cs → k < length ds
    → sizes (take (k + 1) (zip cs ds)) ≡ sizes (take k (zip cs ds)) + length (get_or cs k []) * length (get_or ds k [])
sizes_step cs ds k first second =
    let long = length-zip cs ds in
    let item : List ℕ × List ℕ = ([], []) in
    let f = λ (c : List ℕ × List ℕ). length c.0 * length c.1 in
    ap sizes (take_more (zip cs ds) k item (omega arith))
    ∙ sum_by-append f (take k (zip cs ds)) (get_or (zip cs ds) k item ∷ [])
    ∙ ap (λ c. sizes (take k (zip cs ds)) + (0 + f c)) (get_or-zip cs ds k item first second) ∙ omega arith

-- they add up to at most the product of the numbers of words
sizes-le : (cs ds : List (List ℕ)) → sizes (zip cs ds) ≤ length (words_of_classes cs) * length (words_of_classes ds)
sizes-le [] ds = omega arith
sizes-le (a ∷ cs) [] = omega arith
sizes-le (a ∷ cs) (b ∷ ds) =
    let rest = sizes-le cs ds in
    let first = sum_by-append (λ (c : List ℕ × List ℕ). length c.0 * length c.1) ((a, b) ∷ []) (zip cs ds) in
    let one = length-append a (words_of_classes cs) in
    let two = length-append b (words_of_classes ds) in
    let product = ap₂ (λ i j. i * j) one two in
    omega arith

pub sizes-small : (p q : PartitionValue) → IsSoundPartition p → IsSoundPartition q → (k : ℕ)
    → sizes (take k (zip p.classes q.classes)) ≤ 2 ^ 28
sizes-small p q first second k =
    let part = sum_by-take-le (λ (c : List ℕ × List ℕ). length c.0 * length c.1) (zip p.classes q.classes) k in
    let whole = sizes-le p.classes q.classes in
    let a = length (words_of_classes p.classes) in
    let b = length (words_of_classes q.classes) in
    let few : a ≤ 16384 = first.few_words in
    let few' : b ≤ 16384 = second.few_words in
    let more = mul-le-mul_left {m = b} {n = 16384} a few' in
    omega arith

-- the size of a class that was read
pub class_length : (vs : List (Vec ℕ Global)) (k : ℕ) (v : Vec ℕ Global) (cs : List (List ℕ)) → word_lists vs ≡ cs → k < length vs
    → v ≡ get_or vs k v
    → length v.items ≡ length (get_or cs k [])
class_length vs k v cs are within is =
    ap (λ u. length u.items) is ∙ sym (ap length (get_or-map (λ u. u.items) vs k v [] within)) ∙ ap (λ ls. length (get_or ls k [])) are

pub class_items : (vs : List (Vec ℕ Global)) (k : ℕ) (v : Vec ℕ Global) (cs : List (List ℕ)) → word_lists vs ≡ cs → k < length vs
    → v ≡ get_or vs k v
    → v.items ≡ get_or cs k []
class_items vs k v cs are within is =
    ap (λ u. u.items) is ∙ sym (get_or-map (λ u. u.items) vs k v [] within) ∙ ap (λ ls. get_or ls k []) are

pub class_count : (vs : List (Vec ℕ Global)) (cs : List (List ℕ)) → word_lists vs ≡ cs → length vs ≡ length cs
class_count vs cs are = sym (length-map vs (λ u. u.items)) ∙ ap length are

-- one pair more
pub size_step : (parts : List PartitionValue) (pairs : List (ℕ × ℕ)) (k : ℕ) → k < length pairs
    → product_size (pairs_at parts (take (k + 1) pairs))
    ≡ product_size (pairs_at parts (take k pairs))
    + sizes (zip (get_or (pairs_at parts pairs) k no_pair).0.classes (get_or (pairs_at parts pairs) k no_pair).1.classes)
size_step parts pairs k within =
    let read : ℕ × ℕ → Factors = λ p. (get_or parts p.0 no_partition, get_or parts p.1 no_partition) in
    let f = λ (p : Factors). sizes (zip p.0.classes p.1.classes) in
    ap (λ ps. product_size (map read ps)) (take_more pairs k (0, 0) within)
    ∙ ap product_size (map-append read (take k pairs) (get_or pairs k (0, 0) ∷ []))
    ∙ sum_by-append f (pairs_at parts (take k pairs)) (read (get_or pairs k (0, 0)) ∷ [])
    ∙ ap (λ p. product_size (pairs_at parts (take k pairs)) + (0 + f p)) (sym (get_or-map read pairs k (0, 0) no_pair within)) ∙ omega arith

-- the products of one class more
classes_more : (m : ℕ) (cs ds : List (List ℕ)) (k : ℕ) → k < length cs → k < length ds
    → class_products m (take (suc k) cs) (take (suc k) ds) ≡ class_products m (take k cs) (take k ds) ++ all_followed m
    (get_or cs k []) (get_or ds k [])
classes_more m [] ds k first second = absurd (omega arith)
classes_more m (c ∷ cs) [] k first second = absurd (omega arith)
classes_more m (c ∷ cs) (e ∷ es) zero first second = append-nil (all_followed m c e)
classes_more m (c ∷ cs) (e ∷ es) (suc k) first second =
    ap (λ ws. all_followed m c e ++ ws) (classes_more m cs es k (omega arith) (omega arith))
    ∙ sym (append_assoc (all_followed m c e) (class_products m (take k cs) (take k es)) (all_followed m (get_or cs k []) (get_or es k [])))

pub classes_step : (m : ℕ) (cs ds : List (List ℕ)) (k : ℕ) → k < length cs → k < length ds
    → class_products m (take (k + 1) cs) (take (k + 1) ds) ≡ class_products m (take k cs) (take k ds) ++ all_followed m
    (get_or cs k []) (get_or ds k [])
classes_step m cs ds k first second = ap (λ j. class_products m (take j cs) (take j ds)) (add-one k) ∙ classes_more m cs ds k first second

-- and of all classes
pub classes_all : (m : ℕ) (cs ds : List (List ℕ)) (k : ℕ) → min (length cs) (length ds) ≤ k
    → class_products m (take k cs) (take k ds) ≡ class_products m cs ds
classes_all m [] ds zero all = refl
classes_all m [] ds (suc k) all = refl
classes_all m (c ∷ cs) [] zero all = refl
classes_all m (c ∷ cs) [] (suc k) all = refl
classes_all m (c ∷ cs) (e ∷ es) zero all = absurd (omega arith)
classes_all m (c ∷ cs) (e ∷ es) (suc k) all = ap (λ ws. all_followed m c e ++ ws) (classes_all m cs es k (omega arith))

-- a product of partitions has a word
some_of_classes : (m : ℕ) (cs ds : List (List ℕ)) → 1 ≤ length cs → 1 ≤ length ds → All (λ c. 1 ≤ length c) cs → All (λ c. 1 ≤ length c) ds
    → 1 ≤ length (class_products m cs ds)
some_of_classes m [] ds first second some some' = absurd (omega arith)
some_of_classes m (c ∷ cs) [] first second some some' = absurd (omega arith)
some_of_classes m (c ∷ cs) (e ∷ es) first second some some' =
    let one = All-head (λ c. 1 ≤ length c) c cs some in
    let two = All-head (λ c. 1 ≤ length c) e es some' in
    let whole = length-append (all_followed m c e) (class_products m cs es) in
    let size = length-followed m c e in
    let more = mul-le-mul_left {m = 1} {n = length e} (length c) two in
    omega arith

pub some_of_product : (pairs : List Factors) → 1 ≤ length pairs → All AreSound pairs → 1 ≤ length (product pairs)
some_of_product [] some sound = absurd (omega arith)
some_of_product (p ∷ ps) some sound =
    let here = All-head AreSound p ps sound in
    let whole = length-append (class_products p.1.entry.n p.0.classes p.1.classes) (product ps) in
    let words = some_of_classes p.1.entry.n p.0.classes p.1.classes here.0.class_count.0 here.1.class_count.0 here.0.no_empty_class here.1.no_empty_class in
    omega arith

-- its length is at least 2, and its distance at most that of the first pair
pub limits_of_product : (n : ℕ) (w : Option ℕ) (pairs : List Factors) → AreFactors n w pairs → All AreSound pairs
    → (1 ≤ n) × (product_distance pairs ≤ MAX_N)
limits_of_product n w [] factors sound = let none = factors.some in absurd (omega arith)
limits_of_product n w (p ∷ ps) factors sound =
    let here = All-head AreSound p ps sound in
    let length_is = All-head (λ q. q.0.entry.n + q.1.entry.n ≡ n) p ps factors.lengths in
    let limits = entry_limits p.0.entry here.0.entry in
    let long = limits.length_from in
    let near = limits.distance_to in
    let least = All-head (λ v. product_distance (p ∷ ps) ≤ v) (pair_distance p) (map (weight_gap p) ps ++ distances ps)
    (below_each (product_distance (p ∷ ps)) (distances (p ∷ ps)) (omega arith)) in
    (omega arith, omega arith)

-- sound pairs, one more
pub sound_more : (parts : List PartitionValue) (pairs : List (ℕ × ℕ)) (k : ℕ) → k < length pairs
    → All AreSound (pairs_at parts (take k pairs))
    → AreSound (get_or (pairs_at parts pairs) k no_pair) → All AreSound (pairs_at parts (take (k + 1) pairs))
sound_more parts pairs k within before here =
    let at : ℕ × ℕ → Factors = λ p. (get_or parts p.0 no_partition, get_or parts p.1 no_partition) in
    subst (λ ps. All AreSound (map at ps)) (sym (take_more pairs k (0, 0) within))
    (subst (All AreSound) (sym (map-append at (take k pairs) (get_or pairs k (0, 0) ∷ [])))
    (All-append AreSound (pairs_at parts (take k pairs)) (at (get_or pairs k (0, 0)) ∷ []) before
    (All-cons AreSound (at (get_or pairs k (0, 0))) [] (subst AreSound (get_or-map at pairs k (0, 0) no_pair within) here)
    (All-nil AreSound))))

-- the words of one pair more
pub product_step : (parts : List PartitionValue) (pairs : List (ℕ × ℕ)) (k : ℕ) → k < length pairs
    → product (pairs_at parts (take (k + 1) pairs))
    ≡ product (pairs_at parts (take k pairs))
    ++ class_products (get_or (pairs_at parts pairs) k no_pair).1.entry.n (get_or (pairs_at parts pairs) k no_pair).0.classes
    (get_or (pairs_at parts pairs) k no_pair).1.classes
product_step parts pairs k within =
    let at : ℕ × ℕ → Factors = λ p. (get_or parts p.0 no_partition, get_or parts p.1 no_partition) in
    let words : Factors → List ℕ = λ p. class_products p.1.entry.n p.0.classes p.1.classes in
    ap (λ ps. product (map at ps)) (take_more pairs k (0, 0) within)
    ∙ ap product (map-append at (take k pairs) (get_or pairs k (0, 0) ∷ []))
    ∙ sym (flat_map_more words [] (pairs_at parts (take k pairs)) (at (get_or pairs k (0, 0))))
    ∙ ap (λ p. product (pairs_at parts (take k pairs)) ++ words p) (sym (get_or-map at pairs k (0, 0) no_pair within))
