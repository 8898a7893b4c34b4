-- Delsarte's inequalities of the Johnson scheme: over all pairs of words of one weight, signed counts of matchings add up to sums of squares.
use Rattle.std.proofs.Common.{◌≡◌, ℕ, zero, suc, ◌+◌, ◌-◌, ◌/◌, ◌^◌, ◌<◌, ◌≤◌, List, ap, ◌∙◌, subst, arith, pow_pos, min}
use Rattle.std.specs.Prelude.{ℤ, pos, negsuc, ◌-ℤ◌, ◌*ℤ◌, ◌≤ℤ◌, unsigned_abs}
use Rattle.std.specs.List.{All}
use Rattle.std.proofs.lemmas.Int.{ints}
use Rattle.std.proofs.Math.Nat.{mul-le-mul}
use Rattle.ct_words.specs.Counting.Sums.{total}
use Rattle.ct_words.specs.Counting.PairTotals.{pair_total, square}
use Rattle.ct_words.specs.Counting.PairLists.{pair_lists, product}
use Rattle.ct_words.proofs.Counting.Totals.{total-congruence, total_of_squares}
use Rattle.ct_words.proofs.Counting.Binomials.{one-le-factorial}
use Rattle.ct_words.proofs.Counting.PairTotals.{total-squares, pair_total-congruence_within, pair_total-scale}
use Rattle.ct_words.proofs.Counting.PairLists.{product-mul, total-pair_lists}
use Rattle.ct_words.proofs.Counting.Matchings.{signed_matchings, signed_matchings-le}
use Rattle.ct_words.proofs.MatchingSizes.{matchings-small}
use Rattle.ct_words.proofs.Counting.PlaceKinds.{weight_of_kinds, count, pair_list_total-by_kinds}
use Rattle.ct_words.proofs.Counting.KindMatchings.{orders, by_kinds-matchings}
use Rattle.ct_words.specs.declared.limits.TheConstants.{MAX_N}
use Rattle.ct_words.specs.Word.{digit, weight, distance}
use Rattle.ct_words.specs.PairProducts.{all_places, difference_product}
use Rattle.ct_words.proofs.WordLemmas.{distance_same}
use Rattle.ct_words.proofs.PairKinds.{kind_at, differences-kinds, kinds_of_pair}

-- two words of weight w: the products of their differences, added over all lists of k pairs of places
pub total-difference_products : (n w k x y : ℕ) → weight n x ≡ w → weight n y ≡ w
    → total (λ pairs. difference_product n x pairs *ℤ difference_product n y pairs) (pair_lists k (all_places n))
    ≡ pos (orders k) *ℤ signed_matchings (w - distance n x y / 2) (n - w - distance n x y / 2) (distance n x y / 2) k
total-difference_products n w k x y p q =
    let places = all_places n in
    let kind = kind_at n x y in
    let f : ℕ × ℕ → ℤ = λ t. pos (digit n x t.0) -ℤ pos (digit n x t.1) in
    let g : ℕ × ℕ → ℤ = λ t. pos (digit n y t.0) -ℤ pos (digit n y t.1) in
    let m = count kind places in
    let counts = kinds_of_pair n w x y p q in
    total-congruence (λ pairs. product f pairs *ℤ product g pairs) (λ pairs. product (λ t. f t *ℤ g t) pairs) (pair_lists k places) (λ pairs. product-mul f g pairs)
    ∙ (λ i. total (λ pairs. product (λ t. differences-kinds n x y t.0 t.1 i) pairs) (pair_lists k places))
    ∙ total-pair_lists (λ a b. weight_of_kinds (kind a) (kind b)) k places
    ∙ pair_list_total-by_kinds kind k places
    ∙ by_kinds-matchings k m counts.mixed
    ∙ (λ i. pos (orders k) *ℤ signed_matchings (counts.in_both i) (counts.in_neither i) (counts.in_first i) k)

-- over all pairs of words of a list
pub total-squares_of_differences : (n w k : ℕ) (words : List ℕ) → All (λ x. weight n x ≡ w) words
    → total (λ pairs. square (total (λ x. difference_product n x pairs) words)) (pair_lists k (all_places n))
    ≡ pos (orders k) *ℤ pair_total (λ x y. signed_matchings (w - distance n x y / 2) (n - w - distance n x y / 2) (distance n x y / 2) k) words
total-squares_of_differences n w k words weights =
    let J : ℕ → ℕ → ℤ = λ x y. signed_matchings (w - distance n x y / 2) (n - w - distance n x y / 2) (distance n x y / 2) k in
    total-squares (λ pairs x. difference_product n x pairs) (pair_lists k (all_places n)) words
    ∙ pair_total-congruence_within (λ x. weight n x ≡ w) (λ x y. total (λ pairs. difference_product n x pairs *ℤ difference_product n y pairs) (pair_lists k (all_places n)))
    (λ x y. pos (orders k) *ℤ J x y) words (total-difference_products n w k) weights
    ∙ pair_total-scale (pos (orders k)) J words

-- what is not negative where it is multiplied by a positive number
nonneg_from_scaled : (m : ℕ) (z : ℤ) → 1 ≤ m → pos 0 ≤ℤ (pos m *ℤ z) → pos 0 ≤ℤ z
nonneg_from_scaled zero z l h = absurd (omega arith)
nonneg_from_scaled (suc m) (pos n) l h = omega (arith, ints)
nonneg_from_scaled (suc m) (negsuc n) l h = absurd (omega (arith, ints))

-- there is at least one order
orders-pos : (k : ℕ) → 1 ≤ orders k
orders-pos k =
    let p = pow_pos k in
    let f = one-le-factorial k in
    let product = mul-le-mul p f in
    omega arith

-- over all pairs of words of a list, the counts add up to at least 0
pub pair_total-matchings_nonneg : (n w k : ℕ) (words : List ℕ) → All (λ x. weight n x ≡ w) words
    → pos 0 ≤ℤ pair_total (λ x y. signed_matchings (w - distance n x y / 2) (n - w - distance n x y / 2) (distance n x y / 2) k) words
pair_total-matchings_nonneg n w k words weights =
    let J : ℕ → ℕ → ℤ = λ x y. signed_matchings (w - distance n x y / 2) (n - w - distance n x y / 2) (distance n x y / 2) k in
    let P : ℤ → Type 0 = λ z. pos 0 ≤ℤ z in
    nonneg_from_scaled (orders k) (pair_total J words) (orders-pos k)
    (subst P (total-squares_of_differences n w k words weights) (total_of_squares (λ pairs. total (λ x. difference_product n x pairs) words) (pair_lists k (all_places n))))

-- half the distance of two words of weight w is at most w, and at most n - w
pub half_distance-le : (n w x y : ℕ) → weight n x ≡ w → weight n y ≡ w → distance n x y / 2 ≤ min w (n - w)
half_distance-le n w x y p q =
    let counts = kinds_of_pair n w x y p q in
    let a = counts.index_within in
    let b = counts.index_outside in
    omega arith

-- for words of the table these counts lie strictly between -2^47 and 2^47
pub signed_matchings-small : (n w k i : ℕ) → n ≤ MAX_N → w ≤ n → k ≤ min w (n - w) → i ≤ min w (n - w) → unsigned_abs (signed_matchings (w - i) (n - w - i) i k) < 2 ^ 47
signed_matchings-small n w k i short within row index =
    let bound = signed_matchings-le (w - i) (n - w - i) i k in
    let small = matchings-small (w - i + i) (n - w - i + i) k (omega arith) (omega arith) in
    omega arith

-- half the distance of a word to itself is 0
pub half_distance-same : (n x : ℕ) → distance n x x / 2 ≡ 0
half_distance-same n x = ap (λ d. d / 2) (distance_same n x)
