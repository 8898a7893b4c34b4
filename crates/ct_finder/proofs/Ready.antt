-- A pivot leaves a tableau that is ready for the next.
use Rattle.std.proofs.Common.{◌≡◌, ℕ, ◌<◌, length, map, get_or, [], sym, ap, ◌∙◌, arith, subst}
use Rattle.std.proofs.lemmas.List.{length-map, length-set}
use Rattle.ct_finder.specs.Pivot.{pivoted_row, pivoted}
use Rattle.ct_finder.specs.Sum.{HasWidth}
use Rattle.ct_finder.proofs.TurnedTableaus.{width-pivoted}
use Rattle.ct_finder.specs.declared.tableau.Tableau.{Tableau}
use Rattle.ct_finder.specs.Ready.{seen, IsReady}

pub ready-pivoted : (t u : Tableau) (e place : ℕ) → IsReady t → place < length t.rows.items → seen u ≡ pivoted e place (seen t) → length u.pivot ≡ length t.pivot
    → IsReady u × (length u.cost ≡ length t.cost)
ready-pivoted t u e place ready within is pivot =
    let width = subst (HasWidth (length t.cost)) (sym is) (width-pivoted (length t.cost) e place (seen t) within ready.width) in
    let basics = ap (λ s. length s.basics) is ∙ length-set t.basics.items place e in
    let rows = ap (λ s. length s.rows) is ∙ length-set (map (pivoted_row e (get_or t.rows.items place [])) t.rows.items) place (get_or t.rows.items place [])
    ∙ length-map t.rows.items (pivoted_row e (get_or t.rows.items place [])) in
    let cost : length u.cost ≡ length t.cost = width.cost in
    let count = ready.count in
    let room = ready.pivot in
    let some = ready.some in (
      record {
        width = subst (λ w. HasWidth w (seen u)) (sym cost) width;
        count = basics ∙ count ∙ sym rows;
        pivot = pivot ∙ room ∙ sym cost;
        some = omega arith;
      },
      cost,
    )
