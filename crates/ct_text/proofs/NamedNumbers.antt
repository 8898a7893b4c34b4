-- The numbers that words write, from the words at their places.
use Rattle.std.proofs.Common.{◌≡◌, ℕ, ◌<◌, ◌≤◌, List, [], ◌∷◌, length, map, get_or, Option, Some, None, ap, ◌∙◌, arith}
use Rattle.std.specs.Borrow.{Bor}
use Rattle.ct_text.specs.Number.{number_of}
use Rattle.ct_text.specs.EntryNumbers.{entry_numbers_of, numbers_from, weight_from}
use Rattle.ct_text.specs.TableNumbers.{table_numbers_of, table_numbers_from}

-- two words that name an entry
pub entry-two : (words : List (Bor (List ℕ))) (x y : Bor (List ℕ)) (a b : List ℕ) (w : Option ℕ) → 2 ≤ length words → length words < 3
    → a ≡ (get_or words 0 x).now → b ≡ (get_or words 1 y).now → w ≡ None
    → numbers_from (number_of a) (number_of b) (Some w) ≡ entry_numbers_of (map (λ word. word.now) words)
entry-two [] x y a b w low high a-is b-is w-is = absurd (omega arith)
entry-two (u ∷ []) x y a b w low high a-is b-is w-is = absurd (omega arith)
entry-two (u ∷ v ∷ []) x y a b w low high a-is b-is w-is = λ i. numbers_from (number_of (a-is i)) (number_of (b-is i)) (Some (w-is i))
entry-two (u ∷ v ∷ t ∷ ts) x y a b w low high a-is b-is w-is = absurd (omega arith)

-- three words that do
pub entry-three : (words : List (Bor (List ℕ))) (x y z : Bor (List ℕ)) (a b : List ℕ) (w : Option ℕ) (k : ℕ) → 3 ≤ length words → length words < 4
    → a ≡ (get_or words 0 x).now → b ≡ (get_or words 1 y).now → w ≡ Some k → Some k ≡ number_of (get_or words 2 z).now
    → numbers_from (number_of a) (number_of b) (Some w) ≡ entry_numbers_of (map (λ word. word.now) words)
entry-three [] x y z a b w k low high a-is b-is w-is k-is = absurd (omega arith)
entry-three (u ∷ []) x y z a b w k low high a-is b-is w-is k-is = absurd (omega arith)
entry-three (u ∷ v ∷ []) x y z a b w k low high a-is b-is w-is k-is = absurd (omega arith)
entry-three (u ∷ v ∷ t ∷ []) x y z a b w k low high a-is b-is w-is k-is =
    (λ i. numbers_from (number_of (a-is i)) (number_of (b-is i)) (Some (w-is i)))
    ∙ ap (λ o. numbers_from (number_of u.now) (number_of v.now) (weight_from o)) k-is
entry-three (u ∷ v ∷ t ∷ s ∷ ts) x y z a b w k low high a-is b-is w-is k-is = absurd (omega arith)

-- one word that names a part of the table
pub table-one : (words : List (Bor (List ℕ))) (x : Bor (List ℕ)) (a : List ℕ) (w : Option ℕ) → 1 ≤ length words → length words < 2
    → a ≡ (get_or words 0 x).now → w ≡ None → table_numbers_from (number_of a) (Some w) ≡ table_numbers_of (map (λ word. word.now) words)
table-one [] x a w low high a-is w-is = absurd (omega arith)
table-one (u ∷ []) x a w low high a-is w-is = λ i. table_numbers_from (number_of (a-is i)) (Some (w-is i))
table-one (u ∷ v ∷ vs) x a w low high a-is w-is = absurd (omega arith)

-- two words that do
pub table-two : (words : List (Bor (List ℕ))) (x y : Bor (List ℕ)) (a : List ℕ) (w : Option ℕ) (k : ℕ) → 2 ≤ length words → length words < 3
    → a ≡ (get_or words 0 x).now → w ≡ Some k → Some k ≡ number_of (get_or words 1 y).now
    → table_numbers_from (number_of a) (Some w) ≡ table_numbers_of (map (λ word. word.now) words)
table-two [] x y a w k low high a-is w-is k-is = absurd (omega arith)
table-two (u ∷ []) x y a w k low high a-is w-is k-is = absurd (omega arith)
table-two (u ∷ v ∷ []) x y a w k low high a-is w-is k-is =
    (λ i. table_numbers_from (number_of (a-is i)) (Some (w-is i))) ∙ ap (λ o. table_numbers_from (number_of u.now) (weight_from o)) k-is
table-two (u ∷ v ∷ t ∷ ts) x y a w k low high a-is w-is k-is = absurd (omega arith)
