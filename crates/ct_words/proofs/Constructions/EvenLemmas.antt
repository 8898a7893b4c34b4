-- The words of even weight.
use Rattle.std.proofs.Common.{◌≡◌, ◌≢◌, ℕ, zero, suc, ◌+◌, ◌-◌, ◌*◌, ◌%◌, ◌^◌, ◌<◌, ◌≤◌, Bool, true, false, cond, ◌==◌, List, [], ◌∷◌, ◌++◌, length, None, All, AllPairs, refl, sym, ap, ap₂, ◌∙◌, inl, inr, arith, append_assoc, append-nil, pow_pos, pow-suc, add-one, eq-eqb, ne_eqb, eqb-true}
use Rattle.std.specs.List.{filter}
use Rattle.std.specs.List.Sorted.{IsStrictlyIncreasing}
use Rattle.std.proofs.lemmas.Bool.{cases_eq}
use Rattle.std.proofs.lemmas.Nat.{mod_below}
use Rattle.std.proofs.lemmas.List.{map_push, length-map}
use Rattle.std.proofs.lemmas.List.Elements.{All-from_get_or, All-filter, All-weaker, filter_passes, filter-append}
use Rattle.std.proofs.lemmas.List.Kept.{AllPairs-from_increasing, IsStrictlyIncreasing-filter}
use Rattle.ct_words.proofs.Counting.Pairs.{AllPairs-weaker, AllPairs-within}
use Rattle.ct_words.specs.Word.{weight, distance}
use Rattle.ct_words.specs.Text.{tabulate}
use Rattle.ct_words.specs.Characters.{words_of_length}
use Rattle.ct_words.proofs.TextLemmas.{length-tabulate, get_or-tabulate}
use Rattle.ct_words.proofs.WordLemmas.{weights_of_pair, distance-pos}
use Rattle.ct_words.specs.declared.limits.TheConstants.{MAX_N}
use Rattle.ct_words.specs.Code.{IsCode, IsSoundCode}
use Rattle.ct_words.specs.Constructions.Joined.{followed_by}
use Rattle.ct_words.specs.Constructions.Even.{even_words}
use Rattle.ct_words.specs.Constructions.Append.{with_parity}
use Rattle.ct_words.proofs.Constructions.AppendLemmas.{weight-followed}

-- the list f 0, .., f n ends with f n
pub tabulate-push : (f : ℕ → ℕ) (n : ℕ) → tabulate f (suc n) ≡ tabulate f n ++ f n ∷ []
tabulate-push f zero = refl
tabulate-push f (suc n) = ap (λ z. f 0 ∷ z) (tabulate-push (λ p. f (suc p)) n)

-- all words of a length are words of it, and ascend
pub words_of_length-below : (n : ℕ) → All (λ x. x < 2 ^ n) (words_of_length n)
words_of_length-below n =
    All-from_get_or (λ x. x < 2 ^ n) (words_of_length n) 0 (λ k h.
    let long = length-tabulate (λ x. x) (2 ^ n) in
    let at = get_or-tabulate (λ x. x) (2 ^ n) k (omega arith) in
    omega arith)

pub words_of_length-ascending : (n : ℕ) → IsStrictlyIncreasing (words_of_length n)
words_of_length-ascending n = λ k h.
    let long = length-tabulate (λ x. x) (2 ^ n) in
    let here = get_or-tabulate (λ x. x) (2 ^ n) k (omega arith) in
    let next = get_or-tabulate (λ x. x) (2 ^ n) (k + 1) (omega arith) in
    omega arith

-- the words of even weight ascend
pub even_words-ascending : (n : ℕ) → IsStrictlyIncreasing (even_words n)
even_words-ascending n = IsStrictlyIncreasing-filter (λ x. weight n x % 2 == 0) (words_of_length n) (words_of_length-ascending n)

-- two different words of even weight have distance 2 at least
even_distance : (n x y : ℕ) → x < 2 ^ n → y < 2 ^ n → weight n x % 2 ≡ 0 → weight n y % 2 ≡ 0 → x ≢ y → 2 ≤ distance n x y
even_distance n x y p q first second other =
    let both = weights_of_pair n x y in
    let some = distance-pos n x y p q other in
    omega arith

-- the words of even weight are a code of distance 2
pub IsCode-even_words : (n : ℕ) → IsCode n 2 None (even_words n)
IsCode-even_words n =
    let is_even : ℕ → Bool = λ x. weight n x % 2 == 0 in
    let below : All (λ x. x < 2 ^ n) (even_words n) = All-filter is_even (λ x. x < 2 ^ n) (words_of_length n) (words_of_length-below n) in
    let even : All (λ x. weight n x % 2 ≡ 0) (even_words n) =
    All-weaker (λ x. is_even x ≡ true) (λ x. weight n x % 2 ≡ 0) (λ x h. eqb-true (weight n x % 2) 0 h) (even_words n) (filter_passes is_even (words_of_length n)) in
    let other : AllPairs (λ x y. x ≢ y) (even_words n) =
    AllPairs-weaker (λ x y. x < y) (λ x y. x ≢ y) (even_words n) (λ x y less same. omega arith) (AllPairs-from_increasing (even_words n) (even_words-ascending n)) in
    record {
      lengths = below;
      different = other;
      apart = AllPairs-within (λ x. (x < 2 ^ n) × (weight n x % 2 ≡ 0)) (λ x y. x ≢ y) (λ x y. 2 ≤ distance n x y) (even_words n)
          (λ x y p q. even_distance n x y p.0 q.0 p.1 q.1) (λ k z h. (below k z h, even k z h)) other;
      weights = tt;
    }

-- of the two words that a word followed by a digit is, one has even weight
one_of_two : (n k : ℕ)
    → filter (λ x. weight (suc n) x % 2 == 0) (followed_by 1 k 0 ∷ followed_by 1 k 1 ∷ []) ≡ followed_by 1 k (weight n k % 2) ∷ []
one_of_two n k = elim (cases_eq (weight n k % 2) 0) [
  | inl even ↦
      let first = weight-followed n k 0 (omega arith) in
      let second = weight-followed n k 1 (omega arith) in
      let keeps = eq-eqb (weight (suc n) (followed_by 1 k 0) % 2) 0 (omega arith) in
      let drops = ne_eqb (weight (suc n) (followed_by 1 k 1) % 2) 0 (λ e. omega arith) in
      rw (keeps, drops, even)
  | inr odd ↦
      let first = weight-followed n k 0 (omega arith) in
      let second = weight-followed n k 1 (omega arith) in
      let digit_is : weight n k % 2 ≡ 1 = let few = mod_below (weight n k) 2 (omega arith) in omega arith in
      let drops = ne_eqb (weight (suc n) (followed_by 1 k 0) % 2) 0 (λ e. omega arith) in
      let keeps = eq-eqb (weight (suc n) (followed_by 1 k 1) % 2) 0 (omega arith) in
      rw (drops, keeps, digit_is)
]

-- the first m + 2 numbers end with m and m + 1
two_more : (m : ℕ) → tabulate (λ x. x) (suc (suc m)) ≡ tabulate (λ x. x) m ++ (m ∷ suc m ∷ [])
two_more m =
    tabulate-push (λ x. x) (suc m) ∙ ap (λ z. z ++ suc m ∷ []) (tabulate-push (λ x. x) m)
    ∙ append_assoc (tabulate (λ x. x) m) (m ∷ []) (suc m ∷ [])

-- the words of even weight among the first 2k words are the first k words, each followed by its parity
even_words-from : (n k : ℕ) → filter (λ x. weight (suc n) x % 2 == 0) (tabulate (λ x. x) (k * 2)) ≡ with_parity n (tabulate (λ x. x) k)
even_words-from n zero = refl
even_words-from n (suc k) =
    let is_even : ℕ → Bool = λ x. weight (suc n) x % 2 == 0 in
    let twice : suc k * 2 ≡ suc (suc (k * 2)) = omega arith in
    let last : k * 2 ≡ followed_by 1 k 0 = omega arith in
    let next : suc (k * 2) ≡ followed_by 1 k 1 = omega arith in
    ap (λ m. filter is_even (tabulate (λ x. x) m)) twice
    ∙ ap (filter is_even) (two_more (k * 2))
    ∙ filter-append is_even (tabulate (λ x. x) (k * 2)) (k * 2 ∷ suc (k * 2) ∷ [])
    ∙ ap₂ (λ (a b : List ℕ). a ++ b) (even_words-from n k) (ap₂ (λ (a b : ℕ). filter is_even (a ∷ b ∷ [])) last next ∙ one_of_two n k)
    ∙ sym (map_push (λ x. followed_by 1 x (weight n x % 2)) (tabulate (λ x. x) k) k)
    ∙ ap (with_parity n) (sym (tabulate-push (λ x. x) k))

-- the words of even weight of length n + 1 are all words of length n, each followed by its parity
pub even_words-suc : (n : ℕ) → even_words (n + 1) ≡ with_parity n (words_of_length n)
even_words-suc n =
    ap even_words (add-one n) ∙ ap (λ m. filter (λ x. weight (suc n) x % 2 == 0) (tabulate (λ x. x) m)) (pow-suc 2 n)
    ∙ even_words-from n (2 ^ n)

-- so half of all words have even weight
pub length-even_words : (n : ℕ) → 1 ≤ n → length (even_words n) ≡ 2 ^ (n - 1)
length-even_words zero some = absurd (omega arith)
length-even_words (suc n) some =
    ap (λ m. length (even_words m)) (sym (add-one n)) ∙ ap length (even_words-suc n)
    ∙ length-map (words_of_length n) (λ x. followed_by 1 x (weight n x % 2)) ∙ length-tabulate (λ x. x) (2 ^ n)
    ∙ ap (λ m. 2 ^ m) (let less : n ≡ suc n - 1 = omega arith in less)

-- they are the value of a code
pub sound-even_words : (n : ℕ) → 1 ≤ n → n ≤ MAX_N → IsSoundCode (record { n = n; d = 2; w = None; words = even_words n })
sound-even_words n some few =
    let half = length-even_words n some in
    let positive = pow_pos (n - 1) in
    record {
      length_in_range = (some, few);
      distance_in_range = (omega arith, omega arith);
      some = omega arith;
      ascending = even_words-ascending n;
      code = IsCode-even_words n;
    }

-- one more number in the search for those that pass
pub filter-more_yes : (p : ℕ → Bool) (k : ℕ) → p k ≡ true → filter p (tabulate (λ x. x) (k + 1)) ≡ filter p (tabulate (λ x. x) k) ++ k ∷ []
filter-more_yes p k passes =
    ap (λ m. filter p (tabulate (λ x. x) m)) (add-one k)
    ∙ ap (filter p) (tabulate-push (λ x. x) k)
    ∙ filter-append p (tabulate (λ x. x) k) (k ∷ [])
    ∙ ap (λ b. filter p (tabulate (λ x. x) k) ++ cond b (k ∷ []) []) passes

pub filter-more_no : (p : ℕ → Bool) (k : ℕ) → p k ≡ false → filter p (tabulate (λ x. x) (k + 1)) ≡ filter p (tabulate (λ x. x) k)
filter-more_no p k fails =
    ap (λ m. filter p (tabulate (λ x. x) m)) (add-one k)
    ∙ ap (filter p) (tabulate-push (λ x. x) k)
    ∙ filter-append p (tabulate (λ x. x) k) (k ∷ [])
    ∙ ap (λ b. filter p (tabulate (λ x. x) k) ++ cond b (k ∷ []) []) fails
    ∙ append-nil (filter p (tabulate (λ x. x) k))

-- and for those of even weight
pub even_words-more_yes : (n k : ℕ) → weight n k % 2 ≡ 0
    → filter (λ x. weight n x % 2 == 0) (tabulate (λ x. x) (k + 1)) ≡ filter (λ x. weight n x % 2 == 0) (tabulate (λ x. x) k) ++ k ∷ []
even_words-more_yes n k even = filter-more_yes (λ x. weight n x % 2 == 0) k (eq-eqb (weight n k % 2) 0 even)

pub even_words-more_no : (n k : ℕ) → weight n k % 2 ≢ 0
    → filter (λ x. weight n x % 2 == 0) (tabulate (λ x. x) (k + 1)) ≡ filter (λ x. weight n x % 2 == 0) (tabulate (λ x. x) k)
even_words-more_no n k odd = filter-more_no (λ x. weight n x % 2 == 0) k (ne_eqb (weight n k % 2) 0 odd)
