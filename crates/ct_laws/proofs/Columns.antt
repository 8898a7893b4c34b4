-- The columns of the table are ranges of lengths.
use Rattle.std.proofs.Common.{◌≡◌, ℕ, zero, suc, ◌+◌, ◌-◌, ◌%◌, ◌<◌, ◌≤◌, max, Bool, true, false, cond, List, [], ◌∷◌, ◌++◌, map, filter, Option, Some, None, refl, ap, ◌∙◌, arith}
use Rattle.std.specs.List.{range_with_len}
use Rattle.std.proofs.lemmas.List.{map-append}
use Rattle.std.proofs.lemmas.List.Elements.{filter-append}
use Rattle.ct_words.specs.declared.limits.TheConstants.{MAX_N}
use Rattle.ct_words.specs.declared.entry.Entry.{Entry}
use Rattle.ct_words.specs.Entry.{IsEntry, is_entry, unrestricted, constant_weight}
use Rattle.ct_words.proofs.EntryLemmas.{entry_limits, entry_from_limits}
use Rattle.ct_words.specs.TableEntries.{column}

-- the entries of some lengths, one after another, that are in the table
abbrev column_of : (ℕ → Entry) → ℕ → ℕ → List Entry
column_of f a k = filter is_entry (map f (range_with_len a k))

refused : (b : Bool) → (b ≡ true → ⊥) → b ≡ false
refused true h = absurd (h refl)
refused false h = refl

-- where none of them is, there is none
none_of : (f : ℕ → Entry) (a k : ℕ) → ((n : ℕ) → a ≤ n → n < a + k → IsEntry (f n) → ⊥) → column_of f a k ≡ []
none_of f a zero out = refl
none_of f a (suc k) out =
    let first = refused (is_entry (f a)) (out a (omega arith) (omega arith)) in
    let rest = none_of f (a + 1) k (λ n from to. out n (omega arith) (omega arith)) in
    ap (λ b. cond b (f a ∷ column_of f (a + 1) k) (column_of f (a + 1) k)) first ∙ rest

-- where all of them are, these are all
all_of : (f : ℕ → Entry) (a k : ℕ) → ((n : ℕ) → a ≤ n → n < a + k → IsEntry (f n)) → column_of f a k ≡ map f (range_with_len a k)
all_of f a zero here = refl
all_of f a (suc k) here =
    let rest = all_of f (a + 1) k (λ n from to. here n (omega arith) (omega arith)) in
    ap (λ b. cond b (f a ∷ column_of f (a + 1) k) (column_of f (a + 1) k)) (here a (omega arith) (omega arith)) ∙ ap (λ es. f a ∷ es) rest

-- some lengths and then others
two_ranges : (a j b k n : ℕ) → a + j ≡ b → j + k ≡ n → range_with_len a n ≡ range_with_len a j ++ range_with_len b k
two_ranges a zero b k n start long =
    let same : a ≡ b = omega arith in
    let len : n ≡ k = omega arith in
    ap (λ m. range_with_len a m) len ∙ ap (λ m. range_with_len m k) same
two_ranges a (suc j) b k n start long =
    let len : n ≡ suc (j + k) = omega arith in
    ap (λ m. range_with_len a m) len ∙ ap (λ ms. a ∷ ms) (two_ranges (a + 1) j b k (j + k) (omega arith) refl)

-- where the first of them are not in the table and the others are, these others
later_of : (f : ℕ → Entry) (a j b k n : ℕ) → a + j ≡ b → j + k ≡ n → ((i : ℕ) → i < b → IsEntry (f i) → ⊥) → ((i : ℕ) → b ≤ i → i < b + k → IsEntry (f i))
    → column_of f a n ≡ map f (range_with_len b k)
later_of f a j b k n start long out here =
    let early = none_of f a j (λ i from to. out i (omega arith)) in
    ap (λ ms. filter is_entry (map f ms)) (two_ranges a j b k n start long) ∙ ap (filter is_entry) (map-append f (range_with_len a j) (range_with_len b k))
    ∙ filter-append is_entry (map f (range_with_len a j)) (map f (range_with_len b k)) ∙ ap (λ es. es ++ column_of f b k) early ∙ all_of f b k here

-- a column without weight has all lengths
pub column_without_weight : (d : ℕ) → 3 ≤ d → d ≤ MAX_N → column d None ≡ map (λ n. unrestricted n d) (range_with_len 1 MAX_N)
unfolding column
column_without_weight d far near = all_of (λ n. unrestricted n d) 1 MAX_N (λ n from to. entry_from_limits (unrestricted n d) from (omega arith) far near tt)

-- a column with weight has the lengths that are not below the weight
pub column_with_weight : (d w : ℕ) → 3 ≤ d → d ≤ MAX_N → d % 2 ≡ 0 → w ≤ MAX_N
    → column d (Some w) ≡ map (λ n. constant_weight n d w) (range_with_len (max 1 w) (MAX_N + 1 - max 1 w))
unfolding column
column_with_weight d w far near even light =
    later_of (λ n. constant_weight n d w) 1 (max 1 w - 1) (max 1 w) (MAX_N + 1 - max 1 w) MAX_N (omega arith) (omega arith)
    (λ n below is. let limits = entry_limits (constant_weight n d w) is in let from = limits.length_from in let fits = limits.weight.2 in omega arith)
    (λ n from to. entry_from_limits (constant_weight n d w) (omega arith) (omega arith) far near (even, omega arith, omega arith))

-- and there are no others
pub no_column : (d : ℕ) (w : Option ℕ) → ((n : ℕ) → IsEntry (record { n = n; d = d; w = w }) → ⊥) → column d w ≡ []
unfolding column
no_column d w out = none_of (λ n. record { n = n; d = d; w = w }) 1 MAX_N (λ n from to. out n)

pub no_near_column : (d : ℕ) (w : Option ℕ) → d < 3 → column d w ≡ []
no_near_column d w near = no_column d w (λ n is. let limits = (entry_limits (record { n = n; d = d; w = w }) is).distance_from in omega arith)

pub no_far_column : (d : ℕ) (w : Option ℕ) → MAX_N < d → column d w ≡ []
no_far_column d w far = no_column d w (λ n is. let limits = (entry_limits (record { n = n; d = d; w = w }) is).distance_to in omega arith)

pub no_odd_column : (d w : ℕ) → d % 2 ≡ 1 → column d (Some w) ≡ []
no_odd_column d w odd = no_column d (Some w) (λ n is. let even = (entry_limits (constant_weight n d w) is).weight.0 in omega arith)

pub no_heavy_column : (d w : ℕ) → MAX_N < w → column d (Some w) ≡ []
no_heavy_column d w heavy = no_column d (Some w)
    (λ n is. let limits = entry_limits (constant_weight n d w) is in let short = limits.length_to in let fits = limits.weight.2 in omega arith)
