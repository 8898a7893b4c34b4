-- The words of a code about one of its words, and a code of even distance whose weights are all even.
use Rattle.std.proofs.Common.{◌≡◌, ◌≢◌, ℕ, refl, eq-eqb, ◌+◌, ◌-◌, ◌*◌, ◌%◌, ◌^◌, ◌<◌, ◌≤◌, Bool, true, false, cond, ◌==◌, List, [], ◌∷◌, map, length, get_or, sym, ap, ◌∙◌, subst, arith, inl, inr, eqb-true, leb-true}
use Rattle.std.specs.Prelude.{ℤ, Option, None, Some, IfSome, bit_xor}
use Rattle.std.specs.List.{All, AllPairs}
use Rattle.std.proofs.lemmas.Bool.{cases_Bool}
use Rattle.std.proofs.lemmas.List.Elements.{All-map, All-cons, All-nil, recursion_from_All}
use Rattle.std.proofs.lemmas.List.Sums.{length-filter}
use Rattle.ct_words.specs.Counting.Words.{apart, differ}
use Rattle.ct_words.proofs.Counting.Sums.{sum_by-map, sum_by-congruence_within, sum_by-le_within}
use Rattle.ct_words.proofs.Counting.Pairs.{AllPairs-others}
use Rattle.ct_words.proofs.Counting.DoubleCounting.{count_by-none}
use Rattle.ct_words.specs.Word.{weight, distance}
use Rattle.ct_words.proofs.WordLemmas.{IsSum-bit_xor, distance-is_weight, distance_comm, weights_of_pair}
use Rattle.ct_words.proofs.DigitLists.{digits_of, length-digits_of, apart-digits_of}
use Rattle.ct_words.specs.declared.entry.Entry.{Entry}
use Rattle.ct_words.specs.Entry.{constant_weight}
use Rattle.ct_words.specs.Code.{IsCode, IsCodeOf}
use Rattle.ct_words.specs.Constructions.Even.{even_from}
use Rattle.ct_words.specs.Constructions.Translation.{selected}
use Rattle.ct_words.specs.Constructions.Append.{with_parity}
use Rattle.ct_words.specs.Constructions.Joined.{followed_by}
use Rattle.ct_words.specs.Constructions.Places.{ArePlaces}
use Rattle.ct_words.specs.Constructions.Punctured.{punctured}
use Rattle.ct_words.proofs.Constructions.TranslationLemmas.{IsCode-selected}
use Rattle.ct_words.proofs.Constructions.AppendLemmas.{IsCode-with_parity, length-with_parity, weight-with_parity}
use Rattle.ct_words.proofs.Constructions.PuncturedCodes.{IsCode-punctured, length-punctured}
use Rattle.ct_duals.specs.Dual.{IsWordOf, as_index, as_distance, index_of}
use Rattle.ct_duals.specs.Bound.{AreTrueUppers, is_far}
use Rattle.ct_duals.proofs.Allowed.{count_at, AreWithin}

-- of three digits at most two pairs differ
digits_perimeter : (a b c : Bool) → cond {A = ℕ} (differ a b) 1 0 + (cond {A = ℕ} (differ b c) 1 0 + cond {A = ℕ} (differ a c) 1 0) ≤ 2
digits_perimeter false false false = omega arith
digits_perimeter false false true = omega arith
digits_perimeter false true false = omega arith
digits_perimeter false true true = omega arith
digits_perimeter true false false = omega arith
digits_perimeter true false true = omega arith
digits_perimeter true true false = omega arith
digits_perimeter true true true = omega arith

-- so the distances of three words add up to at most twice their length
apart_perimeter : (x y z : List Bool) → length x ≡ length y → length y ≡ length z → apart x y + (apart y z + apart x z) ≤ 2 * length x
apart_perimeter [] [] z e f = omega arith
apart_perimeter [] (b ∷ y) z e f = absurd (omega arith)
apart_perimeter (a ∷ x) [] z e f = absurd (omega arith)
apart_perimeter (a ∷ x) (b ∷ y) [] e f = absurd (omega arith)
apart_perimeter (a ∷ x) (b ∷ y) (c ∷ z) e f =
    let ih = apart_perimeter x y z (omega arith) (omega arith) in
    let heads = digits_perimeter a b c in
    omega arith

distance_perimeter : (n x y z : ℕ) → distance n x y + (distance n y z + distance n x z) ≤ 2 * n
distance_perimeter n x y z =
    let long = length-digits_of n x in
    let first = apart-digits_of n x y in
    let second = apart-digits_of n y z in
    let third = apart-digits_of n x z in
    let all = apart_perimeter (digits_of n x) (digits_of n y) (digits_of n z) (long ∙ sym (length-digits_of n y)) (length-digits_of n y ∙ sym (length-digits_of n z)) in
    omega arith

-- the words at distance i from x are, with x added, those of weight i
count_at-selected : (n x i : ℕ) (words : List ℕ) → x < 2 ^ n → All (λ z. z < 2 ^ n) words
    → length (selected n x i words) ≡ count_at (distance n x) words i
count_at-selected n x i words below all =
    let moved : ℕ → ℕ = λ z. bit_xor z x in
    let test : ℕ → Bool = λ z. weight n z == i in
    let same : (z : ℕ) → z < 2 ^ n → weight n (bit_xor z x) ≡ distance n x z =
    λ z l. sym (distance-is_weight n z x (bit_xor z x) (IsSum-bit_xor n z x l below)) ∙ distance_comm n z x in
    length-filter test (map moved words)
    ∙ sum_by-map (λ z. cond (test z) 1 0) moved words
    ∙ sum_by-congruence_within (λ z. cond (test (moved z)) 1 0) (λ z. cond (distance n x z == i) 1 0) words
    (recursion_from_All (λ z. cond {A = ℕ} (test (moved z)) 1 0 ≡ cond (distance n x z == i) 1 0) words
    (λ k d l. ap (λ w. cond {A = ℕ} (w == i) 1 0) (same _ (all k d l))))

-- the words of a code are words of the space
pub words_of_code : (e : Entry) (words : List ℕ) → IsCodeOf e words → All (IsWordOf e) words
words_of_code e words code = λ k o l. (code.lengths k o l, weighted e.w code.weights k o l)
  where
    weighted : (w : Option ℕ) → IfSome w (λ v. All (λ x. weight e.n x ≡ v) words) → (k o : ℕ) → k < length words → IfSome w (λ v. weight e.n (get_or words k o) ≡ v)
    weighted None h k o l = tt
    weighted (Some w) h k o l = h k o l

-- two words of the space are at the distance of their index: with a weight they differ at an even number of places
pub distance-index : (e : Entry) (x y : ℕ) → IsWordOf e x → IsWordOf e y → distance e.n x y ≡ as_distance e.w (index_of e x y)
distance-index e x y p q = go e.w p.1 q.1
  where
    go : (w : Option ℕ) → IfSome w (λ v. weight e.n x ≡ v) → IfSome w (λ v. weight e.n y ≡ v) → distance e.n x y ≡ as_distance w (as_index w (distance e.n x y))
    go None first second = refl
    go (Some v) first second = let pair = weights_of_pair e.n x y in omega arith

-- a greater index has a greater distance
as_distance-lt : (w : Option ℕ) (i j : ℕ) → i < j → as_distance w i < as_distance w j
as_distance-lt None i j less = less
as_distance-lt (Some w) i j less = omega arith

-- the words of a code at an index from a word are, with that word added, among those of the weight that is its distance
pub count_at-index : (e : Entry) (x i : ℕ) (words : List ℕ) → IsWordOf e x → IsCodeOf e words
    → count_at (index_of e x) words i ≤ length (selected e.n x (as_distance e.w i) words)
count_at-index e x i words word code =
    let n = e.n in
    let t = as_distance e.w i in
    let all = words_of_code e words code in
    let size = count_at-selected n x t words word.0 code.lengths in
    let each : All (λ z. cond {A = ℕ} (index_of e x z == i) 1 0 ≤ cond (distance n x z == t) 1 0) words =
    λ k d l.
    let z = get_or words k d in
    at (index_of e x z) (distance n x z) (distance-index e x z word (all k d l)) in
    let less = sum_by-le_within (λ z. cond {A = ℕ} (index_of e x z == i) 1 0) (λ z. cond {A = ℕ} (distance n x z == t) 1 0) words
    (recursion_from_All (λ z. cond {A = ℕ} (index_of e x z == i) 1 0 ≤ cond (distance n x z == t) 1 0) words each) in
    omega arith
  where
    at : (j s : ℕ) → s ≡ as_distance e.w j → cond {A = ℕ} (j == i) 1 0 ≤ cond (s == as_distance e.w i) 1 0
    at j s is = elim (cases_Bool (j == i)) [
      | inr fails ↦ rw fails (omega arith)
      | inl there ↦ rw (there, eq-eqb s (as_distance e.w i) (is ∙ ap (as_distance e.w) (eqb-true j i there))) (omega arith)
    ]

-- so there are at most as many as a bound of the codes of that weight allows
pub within_uppers : (e : Entry) (x : ℕ) (words : List ℕ) → IsWordOf e x → IsCodeOf e words → (ps : List (ℕ × ℤ)) (us : List ℕ)
    → AreTrueUppers (map (λ p. constant_weight e.n (even_from e.d) (as_distance e.w p.0)) ps) us → AreWithin (count_at (index_of e x) words) ps us
within_uppers e x words word code [] [] known = tt
within_uppers e x words word code [] (u ∷ us) known = absurd known
within_uppers e x words word code (p ∷ ps) [] known = absurd known
within_uppers e x words word code (p ∷ ps) (u ∷ us) known =
    let t = as_distance e.w p.0 in
    let most = known.0 (selected e.n x t words) (IsCode-selected e.n e.d x t e.w words word.0 code) in
    let size = count_at-index e x p.0 words word code in
    (omega arith, within_uppers e x words word code ps us known.1)

-- a word has no words at two different indices of the group
pub one_far : (e : Entry) (x i j : ℕ) (words : List ℕ) → IsWordOf e x → IsCodeOf e words → i < j → is_far e i ≡ true → is_far e j ≡ true
    → count_at (index_of e x) words i ≢ 0 → count_at (index_of e x) words j ≡ 0
one_far e x i j words word code less first second some =
    let all = words_of_code e words code in
    count_by-none (λ z. index_of e x z == j) words (λ k f l. elim (cases_Bool (index_of e x (get_or words k f) == j)) [
      | inr fails ↦ fails
      | inl at_j ↦ absurd (some (count_by-none (λ z. index_of e x z == i) words (λ m g r. elim (cases_Bool (index_of e x (get_or words m g) == i)) [
        | inr fails ↦ fails
        | inl at_i ↦
            let n = e.n in
            let y = get_or words k f in
            let z = get_or words m g in
            let y_is = eqb-true (index_of e x y) j at_j in
            let z_is = eqb-true (index_of e x z) i at_i in
            let y_at = distance-index e x y word (all k f l) ∙ ap (as_distance e.w) y_is in
            let z_at = distance-index e x z word (all m g r) ∙ ap (as_distance e.w) z_is in
            let nearer = as_distance-lt e.w i j less in
            let low = leb-true (2 * n) (2 * as_distance e.w i + e.d) first in
            let high = leb-true (2 * n) (2 * as_distance e.w j + e.d) second in
            absurd (elim (AllPairs-others (λ a b. e.d ≤ distance n a b) words (λ a b h. let turned = distance_comm n a b in omega arith) code.apart k f l m g r) [
              | inl same ↦ let equal = ap (index_of e x) same in omega arith
              | inr far ↦ let three = distance_perimeter n x y z in omega arith
            ])
      ])))
    ])

-- the words without their first digits, each followed by its parity
abbrev pub evened : ℕ → List ℕ → List ℕ
evened n words = with_parity (n - 1) (punctured n (0 ∷ []) words)

pub length-evened : (n : ℕ) (words : List ℕ) → length (evened n words) ≡ length words
length-evened n words = length-with_parity (n - 1) (punctured n (0 ∷ []) words) ∙ length-punctured n (0 ∷ []) words

-- the first place alone
first_place : (n : ℕ) → 1 ≤ n → ArePlaces n (0 ∷ [])
first_place n some = record {
  ascending = λ k l. absurd (omega arith);
  within = All-cons (λ p. p < n) 0 [] some (All-nil (λ p. p < n));
}

-- a code of even distance becomes one of the same length and distance
pub IsCode-evened : (n d : ℕ) (words : List ℕ) → 1 ≤ n → 2 ≤ d → d % 2 ≡ 0 → IsCode n d None words → IsCode n d None (evened n words)
IsCode-evened n d words some least even code =
    let shorter = IsCode-punctured n d None words (0 ∷ []) (first_place n some) (omega arith) code in
    let longer = IsCode-with_parity (n - 1) (d - 1) None (punctured n (0 ∷ []) words) shorter in
    let length_is : n - 1 + 1 ≡ n = omega arith in
    let distance_is : even_from (d - 1) ≡ d = omega arith in
    subst (λ m. IsCode m d None (evened n words)) length_is (subst (λ t. IsCode (n - 1 + 1) t None (evened n words)) distance_is longer)

-- whose words are at even distances
pub distances-evened : (n : ℕ) (words : List ℕ) → 1 ≤ n → AllPairs (λ x y. distance n x y % 2 ≡ 0) (evened n words)
distances-evened n words some =
    let length_is : n - 1 + 1 ≡ n = omega arith in
    let even : (x : ℕ) → weight n (followed_by 1 x (weight (n - 1) x % 2)) % 2 ≡ 0 =
    λ x. ap (λ m. weight m (followed_by 1 x (weight (n - 1) x % 2)) % 2) (sym length_is) ∙ weight-with_parity (n - 1) x in
    let weights : All (λ x. weight n x % 2 ≡ 0) (evened n words) =
    All-map (λ x. weight n x % 2 ≡ 0) (λ x. followed_by 1 x (weight (n - 1) x % 2)) (punctured n (0 ∷ []) words) (λ k d l. even _) in
    λ i j d l m.
    let x = get_or (evened n words) i d in
    let y = get_or (evened n words) j d in
    let pair = weights_of_pair n x y in
    let first = weights i d (omega arith) in
    let second = weights j d m in
    omega arith
