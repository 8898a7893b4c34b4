use Rattle.std.proofs.Common.{◌≡◌, ◌==◌, ℕ, true, false, List, [], ◌∷◌, length, pos, Result, Ok, Err, refl, sym, ap, ◌∙◌, arith}
use Rattle.std.specs.Prelude.{OnOk}
use Rattle.std.proofs.lemmas.Bool.{eqb-true, false≢true}
use Rattle.std.proofs.lemmas.Result.{on_ok_weaker}
use Rattle.toml.specs.Data.{Data, Members, string, integer}
use Rattle.toml.specs.View.{table_view}
use Rattle.ct_fields.specs.Forms.{list_data}
use Rattle.ct_fields.specs.Written.{put, put_cites}
use Rattle.ct_fields.specs.declared.field.FieldName.TheVariants as name
use Rattle.ct_fields.proofs.writing.put_cites.Goals as goal

-- what holds, holds where a call succeeds
where_ok : {T E P : Type 0} (r : Result T E) → P → OnOk r P
where_ok (Ok x) p = p
where_ok (Err e) p = tt

-- the table without cites, and with some
no_cites : (cites : List (List ℕ)) (ms : Members) → true ≡ (length cites == 0) → ms ≡ put_cites cites ms
no_cites [] ms none = refl
no_cites (cite ∷ cites) ms none = absurd (omega (arith, eqb-true (length (cite ∷ cites)) 0 (sym none)))

some_cites : (cites : List (List ℕ)) (ms : Members) → false ≡ (length cites == 0)
    → put name.Cites (list_data string cites) (put name.Format (integer (pos 2)) ms) ≡ put_cites cites ms
some_cites [] ms some = absurd (false≢true some)
some_cites (cite ∷ cites) ms some = refl

pub returns-then-is_empty-clause-table : goal.returns-then-is_empty-clause-table
returns-then-is_empty-clause-table c = no_cites c.args.cites.now (table_view c.args.table.now) c.if-is_empty.ensures

pub returns-clause-table : goal.returns-clause-table
returns-clause-table c =
    let old = table_view c.args.table.now in
    let first = c.in_ok-put.ensures ∙ ap (λ (d : Data). put name.Format d old) c.from.ensures in
    let some = some_cites c.args.cites.now old c.if-is_empty.ensures in
    on_ok_weaker c.put-2.result (λ done. done ∙ (λ i. put name.Cites (c.in_ok-value.ensures.value i) (first i)) ∙ some) c.put-2.ensures

pub returns-clause-cites : goal.returns-clause-cites
returns-clause-cites c = where_ok c.put-2.result c.in_ok-value.ensures.cites
