use Rattle.std.proofs.Common.{◌≡◌, ℕ, ◌-◌, Bool, cond, List, [], ◌∷◌, ◌++◌, ap, sym, ◌∙◌, append_assoc, append-nil, arith}
use Rattle.ct_words.specs.declared.limits.TheConstants.{MAX_N}
use Rattle.ct_words.specs.declared.entry.Entry.{Entry}
use Rattle.ct_words.specs.TableEntries.{column}
use Rattle.ct_words.proofs.ColumnLemmas.{entry_at, column_to, column_to-more}
use Rattle.ct_words.proofs.entries.put_column.Goals as goal
use Rattle.ct_words.proofs.entries.put_column.Goals.{then-in_table+in_ok-push, else-in_table}

pub loop-n-preserved : goal.loop-n-preserved
loop-n-preserved c =
    let before = c.args.entries.now.items in
    let here = column_to c.args.d c.args.w (c.loop-n.n - 1) in
    let e = entry_at c.args.d c.args.w c.loop-n.n in
    let more = column_to-more c.args.d c.args.w c.loop-n.n c.loop-n.auto.n in
    elim c.if-in_table.branch [
      | then-in_table+in_ok-push w ↦
          let one = more ∙ ap (λ (b : Bool). here ++ cond b (e ∷ []) []) (sym c.in_table.ensures ∙ w.if-in_table.true) in
          rw w.entries-is
          (w.in_ok-push.ensures.items ∙ ap (λ (es : List Entry). es ++ e ∷ []) c.loop-n.invariant ∙ append_assoc before here (e ∷ [])
          ∙ ap (λ (es : List Entry). before ++ es) (sym one))
      | else-in_table w ↦
          let none = more ∙ ap (λ (b : Bool). here ++ cond b (e ∷ []) []) (sym c.in_table.ensures ∙ w.if-in_table.false) ∙ append-nil here in
          rw w.entries-is (c.loop-n.invariant ∙ ap (λ (es : List Entry). before ++ es) (sym none))
    ]

pub returns : goal.returns
unfolding column
returns c =
    let whole : c.loop-n.n - 1 ≡ MAX_N = omega arith in
    c.loop-n.invariant ∙ ap (λ (k : ℕ). c.args.entries.now.items ++ column_to c.args.d c.args.w k) whole
