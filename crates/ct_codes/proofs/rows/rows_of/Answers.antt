use Rattle.std.proofs.Common.{◌++◌, List, ℕ, length, take, drop, subst, sym, ap, ◌∙◌}
use Rattle.std.proofs.Math.Seq.{take-append_seam}
use Rattle.ct_codes.specs.Inside.Rows.{AreRows}
use Rattle.ct_codes.proofs.rows.rows_of.Goals as goal

pub returns : goal.returns
returns c =
    let rows = c.write_rows.new.rows in
    let old = drop (length rows) c.in_ok-rows.rows.items in
    let written = ap (λ size. take size (rows ++ old)) (sym (c.write_rows.auto.rows ∙ c.deref_mut.ensures.len)) ∙ take-append_seam rows old in
    subst (λ (rs : List ℕ). AreRows rs c.args.block.now) (sym written) c.write_rows.ensures
