-- The least pair of places whose words are closer than they need to be: the least of all words, or the least of a class.
use Rattle.std.proofs.Common.{◌≡◌, ℕ, zero, suc, ◌+◌, ◌-◌, ◌<◌, ◌≤◌, ◌^◌, ◌==◌, ◌⊎◌, Bool, true, false, if◌then◌else◌, nat_lt, List, [], ◌∷◌, ◌++◌, length, take, drop, get_or, Option, Some, None, ap, ap₂, sym, subst, refl, ◌∙◌, inl, inr, arith, Vec}
use Rattle.std.specs.Prelude.{MatchOption, IfSome, All}
use Rattle.std.specs.declared.alloc.Global.{Global}
use Rattle.std.proofs.lemmas.Bool.{both_ways, cases_lt, cases_Bool, lt-ltb, le-ltb, ltb-true}
use Rattle.std.proofs.lemmas.List.{get_or-append-add}
use Rattle.std.proofs.lemmas.List.Elements.{All-from_get_or}
use Rattle.std.proofs.lemmas.List.Concat.{flat_map-append}
use Rattle.ct_words.proofs.TextLemmas.{length-tabulate}
use Rattle.ct_words.specs.Word.{distance}
use Rattle.ct_words.specs.PairProducts.{all_places}
use Rattle.ct_words.specs.Pairs.{least_pair, IsLeastPair}
use Rattle.ct_words.proofs.PairLemmas.{least_pair-at, IsLeastPair-from, NoPair-from}
use Rattle.ct_classes.specs.Partition.{word_lists, words_of_classes}
use Rattle.ct_partitions.specs.Check.{is_close, class_at}
use Rattle.ct_partitions.specs.Inside.Rows.{NotAfter, IsLesser}
use Rattle.ct_partitions.proofs.ClassLemmas.{lists_split, words_up_to, row_same}
use Rattle.ct_partitions.proofs.RowLemmas.{place_is, least_from_none}

-- one pair after another
not_after-trans : (p q r : ℕ × ℕ) → NotAfter p q → NotAfter q r → NotAfter p r
not_after-trans p q r (inl h) (inl g) = inl (omega arith)
not_after-trans p q r (inl h) (inr g) = let e = g.0 in inl (omega arith)
not_after-trans p q r (inr h) (inl g) = let e = h.0 in inl (omega arith)
not_after-trans p q r (inr h) (inr g) = let a = h.1 in let b = g.1 in inr (h.0 ∙ g.0, omega arith)

-- a pair of places that passes, and comes after no other that does
pub record IsLeastOf (test : ℕ → ℕ → Bool) (total : ℕ) (p : ℕ × ℕ) : Type 0 where
  pub places : (p.0 < p.1) × (p.1 < total)
  pub passes : test p.0 p.1 ≡ true
  pub least : (k m : ℕ) → k < m → m < total → test k m ≡ true → NotAfter p (k, m)

-- it is the least pair
pub least_of_places : (test : ℕ → ℕ → Bool) (total : ℕ) (p : ℕ × ℕ) → IsLeastOf test total p → least_pair test (all_places total) ≡ Some (p.0, p.1)
least_of_places test total p least =
    let long = length-tabulate (λ k. k) total in
    let order_is = least.places.0 in
    let within_is = least.places.1 in
    least_pair-at test (all_places total) p.0 p.1 (record {
      order = order_is;
      within = omega arith;
      passes = at p.0 p.1 (omega arith) within_is ∙ least.passes;
      least = λ k m order within passes. least.least k m order (omega arith) (sym (at k m (omega arith) (omega arith)) ∙ passes);
    })
  where
    at : (k m : ℕ) → k < total → m < total → test (get_or (all_places total) k 0) (get_or (all_places total) m 0) ≡ test k m
    at k m h l = ap₂ test (place_is total k h) (place_is total m l)

-- a test of words as one of their places
abbrev pub at_places : (ℕ → ℕ → Bool) → List ℕ → ℕ → ℕ → Bool
at_places test words i j = test (get_or words i 0) (get_or words j 0)

-- where only words that pass one test pass another, and these do, both have one least pair
pub least_of_all : (test : ℕ → ℕ → Bool) (close : ℕ → ℕ → Bool) (words : List ℕ) (found : Option (ℕ × ℕ)) → found ≡ least_pair test words
    → ((k m : ℕ) → k < m → m < length words → close k m ≡ true → at_places test words k m ≡ true)
    → ((k m : ℕ) → at_places test words k m ≡ true → close k m ≡ true)
    → found ≡ least_pair close (all_places (length words))
least_of_all test close words None e only all =
    let none = NoPair-from test words (sym e) in
    sym (least_from_none close (length words) (λ k m from within order inside. elim (cases_Bool (close k m)) [
      | inl passes ↦ absurd (both_ways (at_places test words k m) (none k m order inside) (only k m order inside passes))
      | inr fails ↦ fails
    ]))
least_of_all test close words (Some p) e only all =
    let least = IsLeastPair-from test words p.0 p.1 (sym e) in
    sym (least_of_places close (length words) p (record {
      places = (least.order, least.within);
      passes = all p.0 p.1 least.passes;
      least = λ k m order within passes. least.least k m order within (only k m order within passes);
    }))

-- where each close pair is one of all that pass, or does not come before another close pair, the lesser of the least that passes and that other is the least
pub least_of_two : (test : ℕ → ℕ → Bool) (close : ℕ → ℕ → Bool) (words : List ℕ) (found : Option (ℕ × ℕ)) (other result : ℕ × ℕ)
    → found ≡ least_pair test words
    → MatchOption found (result ≡ other) (λ p. IsLesser p other result)
    → (other.0 < other.1) × (other.1 < length words) → close other.0 other.1 ≡ true
    → ((k m : ℕ) → k < m → m < length words → close k m ≡ true → (at_places test words k m ≡ true) ⊎ NotAfter other (k, m))
    → ((k m : ℕ) → at_places test words k m ≡ true → close k m ≡ true)
    → IsLeastOf close (length words) result
least_of_two test close words None other result e is places passes covered all =
    let none = NoPair-from test words (sym e) in
    subst (IsLeastOf close (length words)) (sym is) (record {
      places = places;
      passes = passes;
      least = λ k m order within closer. elim (covered k m order within closer) [
        | inl h ↦ absurd (both_ways (at_places test words k m) (none k m order within) h)
        | inr h ↦ h
      ];
    })
least_of_two test close words (Some p) other result e is places passes covered all = elim is.one [
  | inl first ↦ record {
    places = subst (λ (q : ℕ × ℕ). (q.0 < q.1) × (q.1 < length words)) (sym first) (least.order, least.within);
    passes = subst (λ (q : ℕ × ℕ). close q.0 q.1 ≡ true) (sym first) (all p.0 p.1 least.passes);
    least = least_is;
  }
  | inr second ↦ record {
    places = subst (λ (q : ℕ × ℕ). (q.0 < q.1) × (q.1 < length words)) (sym second) places;
    passes = subst (λ (q : ℕ × ℕ). close q.0 q.1 ≡ true) (sym second) passes;
    least = least_is;
  }
]
  where
    least : IsLeastPair test words p.0 p.1
    least = IsLeastPair-from test words p.0 p.1 (sym e)

    least_is : (k m : ℕ) → k < m → m < length words → close k m ≡ true → NotAfter result (k, m)
    least_is k m order within closer = elim (covered k m order within closer) [
      | inl h ↦ not_after-trans result p (k, m) is.first (least.least k m order within h)
      | inr h ↦ not_after-trans result other (k, m) is.second h
    ]

-- an item of the first of two lists
item_left : (xs ys : List ℕ) (x : ℕ) → x < length xs → get_or (xs ++ ys) x 0 ≡ get_or xs x 0
item_left [] ys x h = absurd (omega arith)
item_left (a ∷ xs) ys zero h = refl
item_left (a ∷ xs) ys (suc x) h = item_left xs ys x (omega arith)

-- a word of a class among all words
pub word_of_class : (vs : List (Vec ℕ Global)) (k : ℕ) (v : Vec ℕ Global) (words : List ℕ) → k < length vs → words ≡ words_of_classes (word_lists vs)
    → (x : ℕ) → x < length (get_or vs k v).items
    → get_or words (length (words_of_classes (word_lists (take k vs))) + x) 0 ≡ get_or (get_or vs k v).items x 0
word_of_class vs k v words within are x inside =
    let before = word_lists (take k vs) in
    let after = word_lists (drop (k + 1) vs) in
    let class = (get_or vs k v).items in
    ap (λ (ws : List ℕ). get_or ws (length (words_of_classes before) + x) 0)
    (are ∙ ap words_of_classes (lists_split vs k v within) ∙ flat_map-append (λ (c : List ℕ). c) before (class ∷ after))
    ∙ get_or-append-add (words_of_classes before) (class ++ words_of_classes after) x 0 ∙ item_left class (words_of_classes after) x inside

-- words closer than the least need are closer than they need to be
pub close_between : (d between : ℕ) (classes : List (List ℕ)) (words : List ℕ) → words ≡ words_of_classes classes → between ≤ d
    → (k m : ℕ) → at_places (λ x y. nat_lt (distance 32 x y) between) words k m ≡ true → is_close 32 d between classes k m ≡ true
close_between d between classes words are nearer k m passes = go (class_at classes k == class_at classes m)
  where
    apart : ℕ
    apart = distance 32 (get_or (words_of_classes classes) k 0) (get_or (words_of_classes classes) m 0)

    here : nat_lt apart between ≡ true
    here = ap (λ (ws : List ℕ). nat_lt (distance 32 (get_or ws k 0) (get_or ws m 0)) between) (sym are) ∙ passes

    go : (same : Bool) → nat_lt apart (if same then d else between) ≡ true
    go true = let h = ltb-true apart between here in lt-ltb apart d (omega arith)
    go false = here

-- words of a class and later ones that are closer than they need to be
pub close_from_class : (d between : ℕ) (vs : List (Vec ℕ Global)) (c : ℕ) (v : Vec ℕ Global) (words : List ℕ) → c < length vs
    → words ≡ words_of_classes (word_lists vs)
    → (k m : ℕ) → length (words_of_classes (word_lists (take c vs))) ≤ k
    → k < length (words_of_classes (word_lists (take c vs))) + length (get_or vs c v).items → k < m → is_close 32 d between (word_lists vs) k m ≡ true
    → (at_places (λ x y. nat_lt (distance 32 x y) between) words k m ≡ true)
    ⊎ ((m < length (words_of_classes (word_lists (take c vs))) + length (get_or vs c v).items)
    × (at_places (λ x y. nat_lt (distance 32 x y) d) (get_or vs c v).items (k - length (words_of_classes (word_lists (take c vs))))
    (m - length (words_of_classes (word_lists (take c vs)))) ≡ true))
close_from_class d between vs c v words within are k m from inside order closer =
    let start = length (words_of_classes (word_lists (take c vs))) in
    let end = start + length (get_or vs c v).items in
    let apart = distance 32 (get_or words k 0) (get_or words m 0) in
    let near = sym (row_same d between vs c v words within are k m from inside order) ∙ closer in
    elim (cases_lt m end) [
      | inl h ↦
          let first : start + (k - start) ≡ k = omega arith in
          let second : start + (m - start) ≡ m = omega arith in
          inr (
            h,
            ap₂ (λ (x y : ℕ). nat_lt (distance 32 x y) d)
                (sym (word_of_class vs c v words within are (k - start) (omega arith)) ∙ ap (λ z. get_or words z 0) first)
                (sym (word_of_class vs c v words within are (m - start) (omega arith)) ∙ ap (λ z. get_or words z 0) second)
                ∙ sym (ap (λ b. nat_lt apart (if b then d else between)) (lt-ltb m end h)) ∙ near,
          )
      | inr h ↦ inl (sym (ap (λ b. nat_lt apart (if b then d else between)) (le-ltb m end h)) ∙ near)
    ]

-- words of length 32 are so in each class
pub class_fits : (vs : List (Vec ℕ Global)) (c : ℕ) (v : Vec ℕ Global) (words : List ℕ) → c < length vs → words ≡ words_of_classes (word_lists vs)
    → All (λ x. x < 2 ^ 32) words → All (λ x. x < 2 ^ 32) (get_or vs c v).items
class_fits vs c v words within are fits =
    All-from_get_or (λ (x : ℕ). x < 2 ^ 32) (get_or vs c v).items 0 (λ x inside.
    let most = words_up_to vs c v within in
    let all = ap length are in
    subst (λ (z : ℕ). z < 2 ^ 32) (word_of_class vs c v words within are x inside)
    (fits (length (words_of_classes (word_lists (take c vs))) + x) 0 (omega arith)))

-- where the words before a class that are too close to a later one pass a test, so do those up to its end, if no two of its words are closer than d
pub class_passed : (d between : ℕ) (vs : List (Vec ℕ Global)) (c : ℕ) (v : Vec ℕ Global) (words : List ℕ) → c < length vs
    → words ≡ words_of_classes (word_lists vs)
    → ((k m : ℕ) → k < length (words_of_classes (word_lists (take c vs))) → k < m → m < length words → is_close 32 d between (word_lists vs) k m ≡ true
    → at_places (λ x y. nat_lt (distance 32 x y) between) words k m ≡ true)
    → least_pair (λ x y. nat_lt (distance 32 x y) d) (get_or vs c v).items ≡ None
    → (k m : ℕ) → k < length (words_of_classes (word_lists (take c vs))) + length (get_or vs c v).items → k < m → m < length words
    → is_close 32 d between (word_lists vs) k m ≡ true → at_places (λ x y. nat_lt (distance 32 x y) between) words k m ≡ true
class_passed d between vs c v words within are only none k m sooner order below closer =
    let start = length (words_of_classes (word_lists (take c vs))) in
    elim (cases_lt k start) [
      | inl early ↦ only k m early order below closer
      | inr late ↦ elim (close_from_class d between vs c v words within are k m late sooner order closer) [
        | inl h ↦ h
        | inr h ↦
            let inside = h.0 in
            absurd (both_ways (at_places (λ x y. nat_lt (distance 32 x y) d) (get_or vs c v).items (k - start) (m - start))
            (NoPair-from (λ x y. nat_lt (distance 32 x y) d) (get_or vs c v).items none (k - start) (m - start) (omega arith) (omega arith)) h.1)
      ]
    ]

-- the least pair of a class that is closer than d is too close
pub class_close : (d between : ℕ) (vs : List (Vec ℕ Global)) (c : ℕ) (v : Vec ℕ Global) (words : List ℕ) → c < length vs
    → words ≡ words_of_classes (word_lists vs) → (i j : ℕ) → IsLeastPair (λ x y. nat_lt (distance 32 x y) d) (get_or vs c v).items i j
    → is_close 32 d between (word_lists vs) (length (words_of_classes (word_lists (take c vs))) + i) (length (words_of_classes (word_lists (take c vs))) + j) ≡ true
class_close d between vs c v words within are i j least =
    let start = length (words_of_classes (word_lists (take c vs))) in
    let end = start + length (get_or vs c v).items in
    let order_is = least.order in
    let within_is = least.within in
    let apart = distance 32 (get_or words (start + i) 0) (get_or words (start + j) 0) in
    row_same d between vs c v words within are (start + i) (start + j) (omega arith) (omega arith) (omega arith)
    ∙ ap (λ b. nat_lt apart (if b then d else between)) (lt-ltb (start + j) end (omega arith))
    ∙ ap₂ (λ (x y : ℕ). nat_lt (distance 32 x y) d) (word_of_class vs c v words within are i (omega arith)) (word_of_class vs c v words within are j within_is)
    ∙ least.passes

-- and words that are too close pass the test, or do not come before that pair
pub class_covered : (d between : ℕ) (vs : List (Vec ℕ Global)) (c : ℕ) (v : Vec ℕ Global) (words : List ℕ) → c < length vs
    → words ≡ words_of_classes (word_lists vs) → (i j : ℕ) → IsLeastPair (λ x y. nat_lt (distance 32 x y) d) (get_or vs c v).items i j
    → ((k m : ℕ) → k < length (words_of_classes (word_lists (take c vs))) → k < m → m < length words → is_close 32 d between (word_lists vs) k m ≡ true
    → at_places (λ x y. nat_lt (distance 32 x y) between) words k m ≡ true)
    → (k m : ℕ) → k < m → m < length words → is_close 32 d between (word_lists vs) k m ≡ true
    → (at_places (λ x y. nat_lt (distance 32 x y) between) words k m ≡ true)
    ⊎ NotAfter (length (words_of_classes (word_lists (take c vs))) + i, length (words_of_classes (word_lists (take c vs))) + j) (k, m)
class_covered d between vs c v words within are i j least only k m order below closer =
    elim (cases_lt k start) [
      | inl early ↦ inl (only k m early order below closer)
      | inr late ↦ elim (cases_lt k end) [
        | inl here ↦ elim (close_from_class d between vs c v words within are k m late here order closer) [
          | inl h ↦ inl h
          | inr h ↦ let inside = h.0 in inr (moved late (least.least (k - start) (m - start) (omega arith) (omega arith) h.1))
        ]
        | inr after ↦
            let order_is = least.order in
            let within_is = least.within in
            inr (inl (omega arith))
      ]
    ]
  where
    start : ℕ
    start = length (words_of_classes (word_lists (take c vs)))

    end : ℕ
    end = start + length (get_or vs c v).items

    moved : start ≤ k → (i < k - start) ⊎ ((i ≡ k - start) × (j ≤ m - start)) → NotAfter (start + i, start + j) (k, m)
    moved late (inl h) = inl (omega arith)
    moved late (inr h) = let e = h.0 in let g = h.1 in inr (omega arith, omega arith)

-- the lesser of two pairs of places is one
pub lesser_places : (total : ℕ) (found : Option (ℕ × ℕ)) (other result : ℕ × ℕ) → IfSome found (λ p. (p.0 < p.1) × (p.1 < total))
    → MatchOption found (result ≡ other) (λ p. IsLesser p other result) → (other.0 < other.1) × (other.1 < total)
    → (result.0 < result.1) × (result.1 < total)
lesser_places total None other result found is places = subst (λ (q : ℕ × ℕ). (q.0 < q.1) × (q.1 < total)) (sym is) places
lesser_places total (Some p) other result found is places = elim is.one [
  | inl first ↦ subst (λ (q : ℕ × ℕ). (q.0 < q.1) × (q.1 < total)) (sym first) found
  | inr second ↦ subst (λ (q : ℕ × ℕ). (q.0 < q.1) × (q.1 < total)) (sym second) places
]
