use Rattle.ct_finder.specs.Sum.{opening_row}
use Rattle.ct_finder.specs.Inside.Rows.{rows_to}
use Rattle.std.proofs.Common.{◌≡◌, ℕ, List, [], ◌∷◌, ◌++◌, map, sym, ap, ap₂, ◌∙◌, subst}
use Rattle.std.specs.Prelude.{ℤ, pos, neg_ℤ}
use Rattle.std.proofs.lemmas.Int.{to_z-of_z}
use mir.Syntax.{w64}
use Rattle.ct_finder.specs.Column.{columns}
use Rattle.ct_finder.specs.Narrow.{AreNarrow}
use Rattle.ct_finder.proofs.OpeningLemmas.{unit, opening_row-pieces, narrow-opening_row}
use Rattle.ct_finder.proofs.opening.opening_row.Goals as goal

-- the entries that are put one after the other are those of the row
row_is : (number : ℕ → ℕ → ℤ) (range : List ℕ) (degree k count : ℕ) {first second third whole : List ℤ} {last : ℤ} → first ≡ pos 0 ∷ []
    → second ≡ first ++ map (λ i. neg_ℤ (number k i)) range → third ≡ second ++ map (unit k) (rows_to count) → count ≡ degree
    → whole ≡ third ++ last ∷ [] → last ≡ number k 0 → whole ≡ opening_row number (columns range degree) k
row_is number range degree k count a b c d e f =
    e ∙ ap₂ (λ xs x. xs ++ x ∷ [])
    (c ∙ ap₂ (λ xs n. xs ++ map (unit k) (rows_to n)) (b ∙ ap (λ xs. xs ++ map (λ i. neg_ℤ (number k i)) range) a) d) f
    ∙ sym (opening_row-pieces number range degree k)

pub from_vec-requires : goal.from_vec-requires
from_vec-requires g c =
    let s = c.args.scheme.now in
    let number = g.S.Scheme.number s in
    let degree = g.S.Scheme.degree s in
    let range = c.args.range.now in
    subst AreNarrow
    (sym (row_is number range degree c.args.k c.degree-2.result (c.in_ok-push.ensures.items ∙ ap (λ (xs : List ℤ). xs ++ pos 0 ∷ []) c.in_ok-entries.ensures.items)
    c.in_ok-push_numbers.ensures c.in_ok-push_unit.ensures c.degree-2.ensures c.in_ok-push-2.ensures.items
    (to_z-of_z w64 c.number.result (record { sfits = c.number.type_inv }) ∙ c.number.ensures.value)))
    (narrow-opening_row number range degree c.args.k (λ i l. g.met.S.Scheme.small s c.args.k i c.requires.row l) c.requires.range)

pub returns : goal.returns
returns g c =
    let s = c.args.scheme.now in
    c.from_vec.ensures
    ∙ row_is (g.S.Scheme.number s) c.args.range.now (g.S.Scheme.degree s) c.args.k c.degree-2.result
    (c.in_ok-push.ensures.items ∙ ap (λ (xs : List ℤ). xs ++ pos 0 ∷ []) c.in_ok-entries.ensures.items)
    c.in_ok-push_numbers.ensures c.in_ok-push_unit.ensures c.degree-2.ensures c.in_ok-push-2.ensures.items
    (to_z-of_z w64 c.number.result (record { sfits = c.number.type_inv }) ∙ c.number.ensures.value)

pub push_numbers-requires-clause-range : goal.push_numbers-requires-clause-range
push_numbers-requires-clause-range g c = c.requires.range
