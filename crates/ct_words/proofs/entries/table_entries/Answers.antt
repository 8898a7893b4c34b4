use Rattle.std.proofs.Common.{◌≡◌, ℕ, ◌+◌, List, ◌++◌, All, Some, None, flat_map, ap, sym, subst, ◌∙◌, append_assoc, arith}
use Rattle.std.specs.List.{range_with_len}
use Rattle.ct_words.specs.declared.limits.TheConstants.{MAX_N}
use Rattle.ct_words.specs.declared.entry.Entry.{Entry}
use Rattle.ct_words.specs.Entry.{IsEntry}
use Rattle.ct_words.specs.TableEntries.{columns_of_weight, table_entries}
use Rattle.ct_words.proofs.ColumnLemmas.{flat_map_range-more}
use Rattle.ct_words.proofs.ListedEntries.{all_listed}
use Rattle.ct_words.proofs.entries.table_entries.Goals as goal

pub loop-w-preserved : goal.loop-w-preserved
loop-w-preserved c =
    let f : ℕ → List Entry = λ w. columns_of_weight (Some w) in
    let w = c.loop-w.w in
    c.in_ok-put_columns-2.ensures ∙ ap (λ (es : List Entry). es ++ f w) c.loop-w.invariant
    ∙ append_assoc (columns_of_weight None) (flat_map f (range_with_len 0 w)) (f w)
    ∙ ap (λ (es : List Entry). columns_of_weight None ++ es) (sym (flat_map_range-more f 0 w w (omega arith)))

whole : (n : ℕ) (entries : List Entry) → n ≡ MAX_N + 1 → entries ≡ columns_of_weight None ++ flat_map (λ (w : ℕ). columns_of_weight (Some w)) (range_with_len 0 n) → entries ≡ table_entries
unfolding table_entries
whole n entries last is = is ∙ ap (λ (k : ℕ). columns_of_weight None ++ flat_map (λ (w : ℕ). columns_of_weight (Some w)) (range_with_len 0 k)) last

pub returns-clause-listed : goal.returns-clause-listed
returns-clause-listed c = whole c.loop-w.w c.loop-w.entries.items (omega arith) c.loop-w.invariant

pub returns-clause-in_table : goal.returns-clause-in_table
returns-clause-in_table c =
    subst (All IsEntry) (sym (whole c.loop-w.w c.loop-w.entries.items (omega arith) c.loop-w.invariant)) all_listed
