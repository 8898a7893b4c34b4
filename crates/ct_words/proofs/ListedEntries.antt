-- The entries that are listed are those of the table, each once.
use Rattle.std.proofs.Common.{◌≡◌, ◌≢◌, ℕ, zero, suc, ◌+◌, ◌-◌, ◌*◌, ◌<◌, nat_lt, ◌&&◌, Bool, true, List, [], ◌∷◌, length, map, flat_map, Option, Some, None, refl, ap, subst, arith, ltb-true}
use Rattle.std.specs.Prelude.{All, AllPairs, Contains}
use Rattle.std.specs.List.{list_all, range_with_len}
use Rattle.std.proofs.lemmas.Bool.{and_parts}
use Rattle.std.proofs.lemmas.List.Elements.{Contains-append_left, Contains-append_right, All-contains, All-nil, All-cons}
use Rattle.ct_words.specs.declared.limits.TheConstants.{MAX_N}
use Rattle.ct_words.proofs.Counting.Words.{Contains-map}
use Rattle.ct_words.specs.declared.entry.Entry.{Entry}
use Rattle.ct_words.specs.Entry.{IsEntry, is_entry}
use Rattle.ct_words.specs.TableEntries.{column, columns_of_weight, table_entries}
use Rattle.ct_words.proofs.EntryLemmas.{WeightFits, Limits, entry_limits}
use Rattle.ct_words.proofs.InLists.{Contains-range_with_len, Contains-flat_map, Contains-filter}
use Rattle.ct_words.proofs.ColumnLemmas.{entry_at}

-- an entry stands in its column
in_column : (e : Entry) → IsEntry e → Contains (column e.d e.w) e
unfolding column
in_column e entry =
    let limits = entry_limits e entry in
    let lengths = Contains-range_with_len 1 MAX_N e.n limits.length_from (omega (arith, limits.length_to)) in
    Contains-filter is_entry (map (entry_at e.d e.w) (range_with_len 1 MAX_N)) e entry
    (Contains-map (entry_at e.d e.w) (range_with_len 1 MAX_N) e.n lengths)

-- and so among the columns of its weight
in_columns : (e : Entry) → IsEntry e → Contains (columns_of_weight e.w) e
unfolding columns_of_weight
in_columns e entry =
    let limits = entry_limits e entry in
    let distances = Contains-range_with_len 3 (MAX_N - 2) e.d limits.distance_from (omega (arith, limits.distance_to)) in
    Contains-flat_map (λ d. column d e.w) (range_with_len 3 (MAX_N - 2)) e.d e distances (in_column e entry)

-- and so among those of all weights
in_weights : (e : Entry) (w : Option ℕ) → Limits e → e.w ≡ w → Contains (columns_of_weight w) e → Contains table_entries e
unfolding table_entries
in_weights e None limits same there =
    Contains-append_left (columns_of_weight None) (flat_map (λ w. columns_of_weight (Some w)) (range_with_len 0 (MAX_N + 1))) e there
in_weights e (Some w) limits same there =
    let fits = subst (WeightFits e) same limits.weight in
    let weights = Contains-range_with_len 0 (MAX_N + 1) w (omega arith) (omega (arith, fits.2, limits.length_to)) in
    Contains-append_right (columns_of_weight None) (flat_map (λ k. columns_of_weight (Some k)) (range_with_len 0 (MAX_N + 1))) e
    (Contains-flat_map (λ k. columns_of_weight (Some k)) (range_with_len 0 (MAX_N + 1)) w e weights there)

-- each entry of the table is listed
pub listed : (e : Entry) → IsEntry e → Contains table_entries e
listed e entry = in_weights e e.w (entry_limits e entry) refl (in_columns e entry)

pub count : length table_entries ≡ 7770
unfolding table_entries columns_of_weight column
count = refl

all_pass : list_all is_entry table_entries ≡ true
unfolding table_entries columns_of_weight column
all_pass = refl

each_passes : (es : List Entry) → list_all is_entry es ≡ true → All IsEntry es
each_passes [] h = All-nil IsEntry
each_passes (e ∷ es) h = let parts = and_parts (is_entry e) (list_all is_entry es) h in All-cons IsEntry e es parts.0 (each_passes es parts.1)

pub all_listed : All IsEntry table_entries
all_listed = each_passes table_entries all_pass

pub all_entries : (e : Entry) → Contains table_entries e → IsEntry e
all_entries e there = All-contains IsEntry table_entries e all_listed there

-- a number that rises from entry to entry
weight_rank : Option ℕ → ℕ
weight_rank None = 0
weight_rank (Some w) = suc w

rank : Entry → ℕ
rank e = (weight_rank e.w * suc MAX_N + e.d) * suc MAX_N + e.n

rises : ℕ → List Entry → Bool
rises low [] = true
rises low (e ∷ es) = nat_lt low (rank e) && rises (rank e) es

all_rise : rises 0 table_entries ≡ true
unfolding table_entries columns_of_weight column rises rank weight_rank
all_rise = refl

above : (low : ℕ) (es : List Entry) → rises low es ≡ true → All (λ e. low < rank e) es
unfolding rises
above low [] h = All-nil (λ (e : Entry). low < rank e)
above low (e ∷ es) h =
    let parts = and_parts (nat_lt low (rank e)) (rises (rank e) es) h in
    let first = ltb-true low (rank e) parts.0 in
    let rest = above (rank e) es parts.1 in
    All-cons (λ (f : Entry). low < rank f) e es first (λ k d below. omega (arith, first, rest k d below))

different : (low : ℕ) (es : List Entry) → rises low es ≡ true → AllPairs (λ e f. e ≢ f) es
unfolding rises
different low [] h = λ i j d below within. absurd (omega arith)
different low (e ∷ es) h =
    let parts = and_parts (nat_lt low (rank e)) (rises (rank e) es) h in
    pairs (above (rank e) es parts.1) (different (rank e) es parts.1)
  where
    pairs : All (λ f. rank e < rank f) es → AllPairs (λ e f. e ≢ f) es → AllPairs (λ e f. e ≢ f) (e ∷ es)
    pairs later rest zero zero d below within = absurd (omega arith)
    pairs later rest zero (suc j) d below within = λ same. let more = later j d (omega arith) in let equal = ap rank same in omega (arith, more, equal)
    pairs later rest (suc i) zero d below within = absurd (omega arith)
    pairs later rest (suc i) (suc j) d below within = rest i j d (omega arith) (omega arith)

pub once : AllPairs (λ e f. e ≢ f) table_entries
once = different 0 table_entries all_rise
