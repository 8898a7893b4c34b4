use Rattle.std.proofs.Common.{◌≡◌, ◌↔◌, ℕ, false, not, nat_eq, List, [], ◌∷◌, length, refl, arith}
use Rattle.std.proofs.lemmas.Bool.{eqb-true, not-false}
use Rattle.ct_partition_files.specs.ProductKind.{ids_of}
use Rattle.ct_files.proofs.named_parts.has_parts.Goals as goal

-- pairs name no id just where there is none of them
no_pairs : (pairs : List (List ℕ × List ℕ)) → (not (nat_eq (length pairs) 0) ≡ false) ↔ (ids_of pairs ≡ [])
no_pairs [] = (λ h. refl, λ h. refl)
no_pairs (p ∷ pairs) =
    (λ h. absurd (let none = eqb-true (length (p ∷ pairs)) 0 (not-false (nat_eq (length (p ∷ pairs)) 0) h) in omega arith), λ h. absurd cc)

pub returns-in-Product : goal.returns-in-Product
returns-in-Product c = rw (c.in-Product.is, c.is_empty.ensures, c.as_slice.ensures) (no_pairs _)
