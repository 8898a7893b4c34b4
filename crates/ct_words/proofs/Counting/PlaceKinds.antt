-- The four kinds of a place of two words, and sums over lists of pairs of places by how many places of each kind there are.
use Rattle.std.proofs.Common.{◌≡◌, ℕ, zero, suc, ◌+◌, ◌-◌, ◌*◌, List, [], ◌∷◌, map, refl, sym, ap, ◌∙◌, arith}
use Rattle.std.specs.Prelude.{ℤ, pos, negsuc, neg_ℤ, ◌+ℤ◌, ◌-ℤ◌, ◌*ℤ◌}
use Rattle.std.specs.List.{AllByRecursion}
use Rattle.std.proofs.lemmas.Int.{ints}
use Rattle.ct_words.specs.Counting.Sums.{total}
use Rattle.ct_words.specs.Counting.PairLists.{picks}
use Rattle.ct_words.proofs.Counting.Totals.{total-congruence_within}
use Rattle.ct_words.proofs.Counting.Products.{int_mul_assoc, int_mul_neg}
use Rattle.ct_words.proofs.Counting.PairLists.{pair_list_total, total-picks}

-- the kinds of a place: both words hold a one there, neither does, the first alone, the second alone
pub data Kind : Type 0 where
  both : Kind
  neither : Kind
  first : Kind
  second : Kind

-- 1 where two kinds are the same
abbrev pub same : Kind → Kind → ℕ
same both both = 1
same neither neither = 1
same first first = 1
same second second = 1
same _ _ = 0

-- what a pair of places counts by its kinds: 1 for a one in both and one in neither, -1 for the two mixed kinds
abbrev pub weight_of_kinds : Kind → Kind → ℤ
weight_of_kinds both neither = pos 1
weight_of_kinds neither both = pos 1
weight_of_kinds first second = negsuc 0
weight_of_kinds second first = negsuc 0
weight_of_kinds _ _ = pos 0

-- how many elements of a list are of a kind
abbrev pub count : {X : Type 0} → (X → Kind) → List X → Kind → ℕ
count kind [] K = 0
count kind (x ∷ xs) K = same K (kind x) + count kind xs K

-- one less of a kind
abbrev pub less : Kind → (Kind → ℕ) → Kind → ℕ
less q m K = m K - same K q

-- a sum over the four kinds
abbrev pub by_kind : (Kind → ℕ) → (Kind → ℤ) → ℤ
by_kind m f = (pos (m both) *ℤ f both) +ℤ (pos (m neither) *ℤ f neither) +ℤ (pos (m first) *ℤ f first) +ℤ (pos (m second) *ℤ f second)

-- one more of a kind, and none more
one_more : (n : ℕ) (z : ℤ) → pos (1 + n) *ℤ z ≡ z +ℤ (pos n *ℤ z)
one_more n z = omega (arith, ints)

none_more : (n : ℕ) (z : ℤ) → pos (0 + n) *ℤ z ≡ pos n *ℤ z
none_more n z = ap (λ k. pos k *ℤ z) (omega arith)

-- a number from one of four terms to the front
from_first : (z a b c d : ℤ) → (z +ℤ a) +ℤ b +ℤ c +ℤ d ≡ z +ℤ (a +ℤ b +ℤ c +ℤ d)
from_first z a b c d = omega (arith, ints)

from_second : (z a b c d : ℤ) → a +ℤ (z +ℤ b) +ℤ c +ℤ d ≡ z +ℤ (a +ℤ b +ℤ c +ℤ d)
from_second z a b c d = omega (arith, ints)

from_third : (z a b c d : ℤ) → a +ℤ b +ℤ (z +ℤ c) +ℤ d ≡ z +ℤ (a +ℤ b +ℤ c +ℤ d)
from_third z a b c d = omega (arith, ints)

from_fourth : (z a b c d : ℤ) → a +ℤ b +ℤ c +ℤ (z +ℤ d) ≡ z +ℤ (a +ℤ b +ℤ c +ℤ d)
from_fourth z a b c d = omega (arith, ints)

-- one more of a kind in such a sum
by_kind-more : (q : Kind) (m : Kind → ℕ) (f : Kind → ℤ) → by_kind (λ K. same K q + m K) f ≡ f q +ℤ by_kind m f
by_kind-more both m f =
    (λ i. one_more (m both) (f both) i +ℤ none_more (m neither) (f neither) i +ℤ none_more (m first) (f first) i +ℤ none_more (m second) (f second) i)
    ∙ from_first (f both) (pos (m both) *ℤ f both) (pos (m neither) *ℤ f neither) (pos (m first) *ℤ f first) (pos (m second) *ℤ f second)
by_kind-more neither m f =
    (λ i. none_more (m both) (f both) i +ℤ one_more (m neither) (f neither) i +ℤ none_more (m first) (f first) i +ℤ none_more (m second) (f second) i)
    ∙ from_second (f neither) (pos (m both) *ℤ f both) (pos (m neither) *ℤ f neither) (pos (m first) *ℤ f first) (pos (m second) *ℤ f second)
by_kind-more first m f =
    (λ i. none_more (m both) (f both) i +ℤ none_more (m neither) (f neither) i +ℤ one_more (m first) (f first) i +ℤ none_more (m second) (f second) i)
    ∙ from_third (f first) (pos (m both) *ℤ f both) (pos (m neither) *ℤ f neither) (pos (m first) *ℤ f first) (pos (m second) *ℤ f second)
by_kind-more second m f =
    (λ i. none_more (m both) (f both) i +ℤ none_more (m neither) (f neither) i +ℤ none_more (m first) (f first) i +ℤ one_more (m second) (f second) i)
    ∙ from_fourth (f second) (pos (m both) *ℤ f both) (pos (m neither) *ℤ f neither) (pos (m first) *ℤ f first) (pos (m second) *ℤ f second)

-- a sum of what depends on the kind alone
pub total-kind : {X : Type 0} (kind : X → Kind) (f : Kind → ℤ) (xs : List X) → total (λ x. f (kind x)) xs ≡ by_kind (count kind xs) f
total-kind kind f [] = omega (arith, ints)
total-kind kind f (x ∷ xs) = ap (λ z. f (kind x) +ℤ z) (total-kind kind f xs) ∙ sym (by_kind-more (kind x) (count kind xs) f)

-- what holds of each image, or follows from what holds of each element
all_map : {X Y : Type 0} (P : Y → Type 0) (f : X → Y) (xs : List X) → AllByRecursion (λ x. P (f x)) xs → AllByRecursion P (map f xs)
all_map P f [] h = h
all_map P f (x ∷ xs) h = (h.0, all_map P f xs h.1)

all_weaker : {X : Type 0} (P Q : X → Type 0) (xs : List X) → ((x : X) → P x → Q x) → AllByRecursion P xs → AllByRecursion Q xs
all_weaker P Q [] f h = h
all_weaker P Q (x ∷ xs) f h = (f x h.0, all_weaker P Q xs f h.1)

-- an element that was taken out and the others have together the kinds of all
abbrev IsSplit : {X : Type 0} → (X → Kind) → List X → X × List X → Type 0
IsSplit kind xs p = (K : Kind) → count kind xs K ≡ same K (kind p.0) + count kind p.1 K

-- each way to take one out is such a split
picks-split : {X : Type 0} (kind : X → Kind) (xs : List X) → AllByRecursion (IsSplit kind xs) (picks xs)
picks-split kind [] = tt
picks-split {X} kind (x ∷ xs) =
    let longer : X × List X → X × List X = λ p. (p.0, x ∷ p.1) in
    let Q : X × List X → Type 0 = λ p. IsSplit kind (x ∷ xs) (longer p) in (
      λ K. refl,
      all_map (IsSplit kind (x ∷ xs)) longer (picks xs)
          (all_weaker (IsSplit kind xs) Q (picks xs) (λ p h K. let e = h K in omega arith) (picks-split kind xs)),
    )

-- so the others have one less of its kind
less_of_split : {X : Type 0} (kind : X → Kind) (xs : List X) (p : X × List X) → IsSplit kind xs p → count kind p.1 ≡ less (kind p.0) (count kind xs)
less_of_split kind xs p h = λ i K. at K i
  where
    at : (K : Kind) → count kind p.1 K ≡ count kind xs K - same K (kind p.0)
    at K = let e = h K in omega arith

-- the sum over the lists of k pairs, by how many places of each kind there are
abbrev pub by_kinds : ℕ → (Kind → ℕ) → ℤ
by_kinds zero m = pos 1
by_kinds (suc k) m =
    (pos (2 * (m both * m neither)) *ℤ by_kinds k (less both (less neither m))) -ℤ (pos (2 * (m first * m second)) *ℤ by_kinds k (less first (less second m)))

-- the pairs whose first place is of a kind, where a place of that kind has been taken out
abbrev row : ℕ → Kind → (Kind → ℕ) → ℤ
row k q m = by_kind m (λ K. weight_of_kinds q K *ℤ by_kinds k (less K m))

-- a value at one kind, and 0 at the others
abbrev only : Kind → ℤ → Kind → ℤ
only both v both = v
only neither v neither = v
only first v first = v
only second v second = v
only _ v _ = pos 0

-- its sum over the kinds
by_kind-only : (q : Kind) (v : ℤ) (m : Kind → ℕ) → by_kind m (only q v) ≡ pos (m q) *ℤ v
by_kind-only both v m = omega (arith, ints)
by_kind-only neither v m = omega (arith, ints)
by_kind-only first v m = omega (arith, ints)
by_kind-only second v m = omega (arith, ints)

-- products with 0, 1 and -1
times_zero : (z : ℤ) → pos 0 *ℤ z ≡ pos 0
times_zero z = omega (arith, ints)

times_one : (z : ℤ) → pos 1 *ℤ z ≡ z
times_one z = omega (arith, ints)

times_minus_one : (z : ℤ) → negsuc 0 *ℤ z ≡ neg_ℤ z
times_minus_one z = omega (arith, ints)

-- a place of a kind makes pairs with places of one other kind
partner_of_both : (f : Kind → ℤ) (K : Kind) → weight_of_kinds both K *ℤ f K ≡ only neither (f neither) K
partner_of_both f both = times_zero (f both)
partner_of_both f neither = times_one (f neither)
partner_of_both f first = times_zero (f first)
partner_of_both f second = times_zero (f second)

partner_of_neither : (f : Kind → ℤ) (K : Kind) → weight_of_kinds neither K *ℤ f K ≡ only both (f both) K
partner_of_neither f both = times_one (f both)
partner_of_neither f neither = times_zero (f neither)
partner_of_neither f first = times_zero (f first)
partner_of_neither f second = times_zero (f second)

partner_of_first : (f : Kind → ℤ) (K : Kind) → weight_of_kinds first K *ℤ f K ≡ only second (neg_ℤ (f second)) K
partner_of_first f both = times_zero (f both)
partner_of_first f neither = times_zero (f neither)
partner_of_first f first = times_zero (f first)
partner_of_first f second = times_minus_one (f second)

partner_of_second : (f : Kind → ℤ) (K : Kind) → weight_of_kinds second K *ℤ f K ≡ only first (neg_ℤ (f first)) K
partner_of_second f both = times_zero (f both)
partner_of_second f neither = times_zero (f neither)
partner_of_second f first = times_minus_one (f first)
partner_of_second f second = times_zero (f second)

-- so the pairs that begin with a kind are those that end with its partner
by_partner : (q r : Kind) (m : Kind → ℕ) (f : Kind → ℤ) (v : ℤ) → ((K : Kind) → weight_of_kinds q K *ℤ f K ≡ only r v K) → by_kind m (λ K. weight_of_kinds q K *ℤ f K) ≡ pos (m r) *ℤ v
by_partner q r m f v h = (λ i. by_kind m (λ K. h K i)) ∙ by_kind-only r v m

-- a pair of two kinds can be taken out in either order
less_comm : (p q : Kind) (m : Kind → ℕ) → less p (less q m) ≡ less q (less p m)
less_comm p q m = λ i K. at K i
  where
    at : (K : Kind) → m K - same K q - same K p ≡ m K - same K p - same K q
    at K = omega arith

-- the places of one kind, each with the places of its partner
pairs_of : (a b c : ℕ) (z w : ℤ) → c ≡ b → z ≡ pos c *ℤ w → pos a *ℤ z ≡ pos (a * b) *ℤ w
pairs_of a b c z w e f = ap (λ t. pos a *ℤ t) (f ∙ ap (λ n. pos n *ℤ w) e) ∙ sym (int_mul_assoc (pos a) (pos b) w)

-- the four sums together
four : (h n s t : ℕ) (a b w x y z : ℤ) → w ≡ pos (h * n) *ℤ a → x ≡ pos (n * h) *ℤ a → y ≡ pos (s * t) *ℤ neg_ℤ b → z ≡ pos (t * s) *ℤ neg_ℤ b
    → w +ℤ x +ℤ y +ℤ z ≡ (pos (2 * (h * n)) *ℤ a) -ℤ (pos (2 * (s * t)) *ℤ b)
four h n s t a b w x y z e f g i =
    let turned = int_mul_neg (pos (s * t)) b in
    let turned' = int_mul_neg (pos (t * s)) b in
    omega (arith, ints)

-- the pairs by both kinds
row_total : (k : ℕ) (m : Kind → ℕ) → by_kind m (λ q. row k q (less q m)) ≡ by_kinds (suc k) m
row_total k m =
    let a = by_kinds k (less both (less neither m)) in
    let b = by_kinds k (less first (less second m)) in
    let f : Kind → Kind → ℤ = λ q K. by_kinds k (less K (less q m)) in
    let turned_a : f both neither ≡ a = ap (by_kinds k) (less_comm neither both m) in
    let turned_b : neg_ℤ (f first second) ≡ neg_ℤ b = ap (λ n. neg_ℤ (by_kinds k n)) (less_comm second first m) in
    let p = pairs_of (m both) (m neither) (m neither - 0) (row k both (less both m)) a (omega arith)
    (by_partner both neither (less both m) (f both) (f both neither) (partner_of_both (f both)) ∙ ap (λ z. pos (m neither - 0) *ℤ z) turned_a) in
    let q = pairs_of (m neither) (m both) (m both - 0) (row k neither (less neither m)) a (omega arith)
    (by_partner neither both (less neither m) (f neither) a (partner_of_neither (f neither))) in
    let r = pairs_of (m first) (m second) (m second - 0) (row k first (less first m)) (neg_ℤ b) (omega arith)
    (by_partner first second (less first m) (f first) (neg_ℤ (f first second)) (partner_of_first (f first)) ∙ ap (λ z. pos (m second - 0) *ℤ z) turned_b) in
    let s = pairs_of (m second) (m first) (m first - 0) (row k second (less second m)) (neg_ℤ b) (omega arith)
    (by_partner second first (less second m) (f second) (neg_ℤ b) (partner_of_second (f second))) in
    four (m both) (m neither) (m first) (m second) a b _ _ _ _ p q r s

-- the sum over the lists of k pairs of elements, by the kinds of the elements
pub pair_list_total-by_kinds : {X : Type 0} (kind : X → Kind) (k : ℕ) (xs : List X) → pair_list_total (λ a b. weight_of_kinds (kind a) (kind b)) k xs ≡ by_kinds k (count kind xs)
pair_list_total-by_kinds kind zero xs = refl
pair_list_total-by_kinds {X} kind (suc k) xs =
    let m = count kind xs in
    let h : X → X → ℤ = λ a b. weight_of_kinds (kind a) (kind b) in
    let inner : X × List X → ℤ = λ p. total (λ q. h p.0 q.0 *ℤ pair_list_total h k q.1) (picks p.1) in
    let at : Kind → X × List X → X × List X → ℤ = λ t p q. weight_of_kinds t (kind q.0) *ℤ by_kinds k (less (kind q.0) (count kind p.1)) in
    let of_second : (p q : X × List X) → IsSplit kind p.1 q → h p.0 q.0 *ℤ pair_list_total h k q.1 ≡ at (kind p.0) p q =
    λ p q split. ap (λ z. h p.0 q.0 *ℤ z) (pair_list_total-by_kinds kind k q.1 ∙ ap (by_kinds k) (less_of_split kind p.1 q split)) in
    let of_first : (p : X × List X) → IsSplit kind xs p → inner p ≡ row k (kind p.0) (less (kind p.0) m) =
    λ p split.
    total-congruence_within (λ q. h p.0 q.0 *ℤ pair_list_total h k q.1) (at (kind p.0) p) (picks p.1)
    (all_weaker (IsSplit kind p.1) (λ q. h p.0 q.0 *ℤ pair_list_total h k q.1 ≡ at (kind p.0) p q) (picks p.1) (of_second p) (picks-split kind p.1))
    ∙ total-picks (λ y. weight_of_kinds (kind p.0) (kind y) *ℤ by_kinds k (less (kind y) (count kind p.1))) p.1
    ∙ total-kind kind (λ K. weight_of_kinds (kind p.0) K *ℤ by_kinds k (less K (count kind p.1))) p.1
    ∙ ap (row k (kind p.0)) (less_of_split kind xs p split) in
    total-congruence_within inner (λ p. row k (kind p.0) (less (kind p.0) m)) (picks xs)
    (all_weaker (IsSplit kind xs) (λ p. inner p ≡ row k (kind p.0) (less (kind p.0) m)) (picks xs) of_first (picks-split kind xs))
    ∙ total-picks (λ x. row k (kind x) (less (kind x) m)) xs
    ∙ total-kind kind (λ q. row k q (less q m)) xs
    ∙ row_total k m
