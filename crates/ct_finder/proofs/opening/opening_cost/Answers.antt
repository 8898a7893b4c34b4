use Rattle.std.proofs.Common.{◌≡◌, ℕ, ◌+◌, List, [], ◌∷◌, ◌++◌, map, replicate, length, sym, ap, subst, ◌∙◌}
use Rattle.std.specs.Prelude.{ℤ, pos, negsuc}
use Rattle.ct_finder.specs.Column.{columns, cost_entry}
use Rattle.ct_finder.specs.Narrow.{AreNarrow}
use Rattle.ct_finder.proofs.OpeningLemmas.{cost-pieces, narrow-cost}
use Rattle.ct_finder.proofs.opening.opening_cost.Goals as goal

-- the entries that are put one after the other are those of the row
row_is : (range : List ℕ) (degree : ℕ) (first second third whole : List ℤ) → first ≡ [] → second ≡ first ++ pos 1 ∷ []
    → third ≡ second ++ replicate (length range) (negsuc 0) → whole ≡ third ++ replicate (degree + 1) (pos 0)
    → whole ≡ map cost_entry (columns range degree)
row_is range degree first second third whole a b c d =
    d ∙ ap (λ xs. xs ++ replicate (degree + 1) (pos 0)) (c ∙ ap (λ xs. xs ++ replicate (length range) (negsuc 0)) (b ∙ ap (λ xs. xs ++ pos 1 ∷ []) a))
    ∙ sym (cost-pieces range degree)

pub returns : goal.returns
returns c =
    c.from_vec.ensures
    ∙ row_is c.args.range.now c.args.degree c.in_ok-entries.entries.items c.push.new.self.items c.push_repeated.new.entries.items
    c.push_repeated-2.new.entries.items c.in_ok-entries.ensures.items c.in_ok-push.ensures.items c.in_ok-push_repeated.ensures
    c.in_ok-push_repeated-2.ensures

pub from_vec-requires : goal.from_vec-requires
from_vec-requires c =
    subst AreNarrow
    (sym (row_is c.args.range.now c.args.degree c.in_ok-entries.entries.items c.push.new.self.items c.push_repeated.new.entries.items
    c.push_repeated-2.new.entries.items c.in_ok-entries.ensures.items c.in_ok-push.ensures.items c.in_ok-push_repeated.ensures
    c.in_ok-push_repeated-2.ensures))
    (narrow-cost c.args.range.now c.args.degree)
