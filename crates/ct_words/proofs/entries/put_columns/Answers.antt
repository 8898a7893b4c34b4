use Rattle.std.proofs.Common.{◌≡◌, ℕ, ◌+◌, ◌-◌, List, ◌++◌, flat_map, ap, sym, ◌∙◌, append_assoc, arith}
use Rattle.std.specs.List.{range_with_len}
use Rattle.ct_words.specs.declared.limits.TheConstants.{MAX_N}
use Rattle.ct_words.specs.declared.entry.Entry.{Entry}
use Rattle.ct_words.specs.TableEntries.{column, columns_of_weight}
use Rattle.ct_words.proofs.ColumnLemmas.{flat_map_range-more}
use Rattle.ct_words.proofs.entries.put_columns.Goals as goal

pub loop-d-preserved : goal.loop-d-preserved
loop-d-preserved c =
    let before = c.args.entries.now.items in
    let f : ℕ → List Entry = λ d. column d c.args.w in
    let n = c.loop-d.d - 3 in
    let next : c.loop-d.d + 1 - 3 ≡ n + 1 = omega (arith, c.loop-d.auto.d) in
    let more = ap (λ (k : ℕ). flat_map f (range_with_len 3 k)) next ∙ flat_map_range-more f 3 n c.loop-d.d (omega (arith, c.loop-d.auto.d)) in
    c.in_ok-put_column.ensures ∙ ap (λ (es : List Entry). es ++ f c.loop-d.d) c.loop-d.invariant
    ∙ append_assoc before (flat_map f (range_with_len 3 n)) (f c.loop-d.d) ∙ ap (λ (es : List Entry). before ++ es) (sym more)

pub returns : goal.returns
unfolding columns_of_weight
returns c =
    let whole : c.loop-d.d - 3 ≡ MAX_N - 2 = omega arith in
    c.loop-d.invariant
    ∙ ap (λ (k : ℕ). c.args.entries.now.items ++ flat_map (λ (d : ℕ). column d c.args.w) (range_with_len 3 k)) whole
