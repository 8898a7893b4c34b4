use Rattle.std.proofs.Common.{◌≡◌, ◌∙◌, ◌||◌, ℕ, Bool, true, false, List, [], ◌∷◌, ap, refl, sym}
use Rattle.std.specs.List.{list_any}
use Rattle.ct_kind.specs.declared.evidence.Evidence.{Evidence}
use Rattle.ct_partition_files.specs.ProductKind.{Ids, ids_of}
use Rattle.ct_files.specs.PartNames.{has_name}
use Rattle.ct_files.specs.ByKind.{ids_of_parts}
use Rattle.ct_files.proofs.named_parts.has_part.Goals as goal

-- the ids of pairs
pairs_any : (test : List ℕ → Bool) (pairs : List Ids) → list_any (λ (p : Ids). test p.0 || test p.1) pairs ≡ list_any test (ids_of pairs)
pairs_any test [] = refl
pairs_any test (p ∷ ps) = at (test p.0) (test p.1) (pairs_any test ps) where
  at : (a b : Bool) → list_any (λ (q : Ids). test q.0 || test q.1) ps ≡ list_any test (ids_of ps)
      → ((a || b) || list_any (λ (q : Ids). test q.0 || test q.1) ps) ≡ (a || (b || list_any test (ids_of ps)))
  at true b same = refl
  at false b same = ap (λ (r : Bool). b || r) same

pub returns-in-Product : goal.returns-in-Product
returns-in-Product c =
    c.has_of_pairs.ensures
    ∙ ap (λ (pairs : List Ids). list_any (λ (pair : Ids). has_name c.args.names.now pair.0 || has_name c.args.names.now pair.1) pairs) c.as_slice.ensures
    ∙ pairs_any (has_name c.args.names.now) c.in-Product.pairs
    ∙ ap (λ (e : Evidence). list_any (has_name c.args.names.now) (ids_of_parts e)) (sym c.in-Product.is)
