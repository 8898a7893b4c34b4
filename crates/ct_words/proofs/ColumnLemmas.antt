-- Columns of the table, entry by entry, and several of them.
use Rattle.std.proofs.Common.{◌≡◌, ℕ, ◌+◌, ◌-◌, ◌≤◌, cond, List, [], ◌∷◌, ◌++◌, map, filter, flat_map, Option, sym, ap, ◌∙◌, arith, append-nil}
use Rattle.std.specs.List.{range_with_len}
use Rattle.std.proofs.lemmas.Grind.{flat_map-append}
use Rattle.std.proofs.lemmas.List.Folds.{flat_map-map}
use Rattle.std.proofs.lemmas.List.FromFn.{filter_of_map_range_with_len_more, map-range_with_len_more}
use Rattle.ct_words.specs.declared.entry.Entry.{Entry}
use Rattle.ct_words.specs.Entry.{is_entry}

-- the entry of a distance, a weight, if one is given, and a length
abbrev pub entry_at : ℕ → Option ℕ → ℕ → Entry
entry_at d w n = record { n = n; d = d; w = w }

-- the entries of a column whose lengths are at most k
abbrev pub column_to : ℕ → Option ℕ → ℕ → List Entry
column_to d w k = filter is_entry (map (entry_at d w) (range_with_len 1 k))

-- the entry of the next length, where the table has it
pub column_to-more : (d : ℕ) (w : Option ℕ) (n : ℕ) → 1 ≤ n
    → column_to d w (n + 1 - 1) ≡ column_to d w (n - 1) ++ cond (is_entry (entry_at d w n)) (entry_at d w n ∷ []) []
column_to-more d w n some =
    let more : n + 1 - 1 ≡ n - 1 + 1 = omega arith in
    ap (column_to d w) more ∙ filter_of_map_range_with_len_more is_entry (entry_at d w) 1 (n - 1) n (omega arith)

-- a list for each number of a range, and for one more
pub flat_map_range-more : {X : Type 0} (f : ℕ → List X) (a n j : ℕ) → a + n ≡ j
    → flat_map f (range_with_len a (n + 1)) ≡ flat_map f (range_with_len a n) ++ f j
flat_map_range-more f a n j here =
    let itself = λ (k : ℕ). k in
    let more = ap (flat_map f) (map-range_with_len_more itself a n j here) in
    sym (flat_map-map f itself (range_with_len a (n + 1))) ∙ more ∙ flat_map-append f (map itself (range_with_len a n)) (j ∷ [])
    ∙ ap (λ ys. ys ++ (f j ++ [])) (flat_map-map f itself (range_with_len a n))
    ∙ ap (λ ys. flat_map f (range_with_len a n) ++ ys) (append-nil (f j))
