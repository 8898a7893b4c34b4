-- Where the lines that a line names have moved, one place after the other.
use Rattle.std.proofs.Common.{◌≡◌, ℕ, ◌+◌, ◌<◌, ◌≤◌, List, [], ◌∷◌, ◌++◌, length, drop, get_or, Option, Some, None, option_map, false, refl, sym, ap, ◌∙◌, append_assoc, append-nil}
use Rattle.std.specs.Prelude.{if◌then◌else◌}
use Rattle.std.proofs.lemmas.List.{at_drop_more, at_drop_all}
use Rattle.ct_rules.specs.Derivation.{LineValue}
use Rattle.ct_rules.specs.Removal.{Places, names_one}
use Rattle.ct_rules.specs.Rule.{named_place}
use Rattle.ct_table.specs.Inside.Walk.{moved_place, and_places, moved_places, moved_to, moved_line}

-- a place before the others, after some
after_place : (places : List ℕ) (q : ℕ) (o : Option (List ℕ))
    → option_map (λ more. places ++ more) (and_places (Some q) o) ≡ option_map (λ more. (places ++ q ∷ []) ++ more) o
after_place places q None = refl
after_place places q (Some more) = ap Some (sym (append_assoc places (q ∷ []) more))

-- the places that are left begin with the one at i
from_here : (base : ℕ) (moved : List (Option ℕ)) (from : List ℕ) (i : ℕ) (o : Option ℕ) → i < length from
    → o ≡ moved_place base moved (get_or from i 0)
    → moved_places base moved (drop i from) ≡ and_places o (moved_places base moved (drop (i + 1) from))
from_here base moved from i o within at =
    at_drop_more (moved_places base moved) from i 0 within
    ∙ ap (λ (p : Option ℕ). and_places p (moved_places base moved (drop (i + 1) from))) (sym at)

-- one more place to which a line has moved
pub one_more_moved : (base : ℕ) (moved : List (Option ℕ)) (from : List ℕ) (i q : ℕ) (places more_places : List ℕ) (all : Option (List ℕ))
    → i < length from → Some q ≡ moved_place base moved (get_or from i 0) → more_places ≡ places ++ q ∷ []
    → all ≡ option_map (λ more. places ++ more) (moved_places base moved (drop i from))
    → all ≡ option_map (λ more. more_places ++ more) (moved_places base moved (drop (i + 1) from))
one_more_moved base moved from i q places more_places all within at is before =
    before ∙ ap (option_map (λ (more : List ℕ). places ++ more)) (from_here base moved from i (Some q) within at)
    ∙ after_place places q (moved_places base moved (drop (i + 1) from))
    ∙ ap (λ (ps : List ℕ). option_map (λ (more : List ℕ). ps ++ more) (moved_places base moved (drop (i + 1) from))) (sym is)

-- one that stayed behind
pub one_unmoved : (base : ℕ) (moved : List (Option ℕ)) (from : List ℕ) (i : ℕ) (places : List ℕ) (all : Option (List ℕ))
    → i < length from → None ≡ moved_place base moved (get_or from i 0)
    → all ≡ option_map (λ more. places ++ more) (moved_places base moved (drop i from)) → None ≡ all
one_unmoved base moved from i places all within at before =
    sym (before ∙ ap (option_map (λ (more : List ℕ). places ++ more)) (from_here base moved from i None within at))

-- and all of them
pub all_moved : (base : ℕ) (moved : List (Option ℕ)) (from : List ℕ) (i : ℕ) (places : List ℕ) (all : Option (List ℕ)) → length from ≤ i
    → all ≡ option_map (λ more. places ++ more) (moved_places base moved (drop i from)) → Some places ≡ all
all_moved base moved from i places all past before =
    sym (before ∙ at_drop_all (λ ps. option_map (λ (more : List ℕ). places ++ more) (moved_places base moved ps)) from i past
    ∙ ap Some (append-nil places))

-- so the line moves
pub line_moves : (base : ℕ) (gone : Places) (moved : List (Option ℕ)) (l : LineValue) (from : List ℕ)
    → false ≡ names_one gone (named_place l.rule) → Some from ≡ moved_places base moved l.from
    → Some (moved_to l from) ≡ moved_line base gone moved l
line_moves base gone moved l from names places =
    ap (option_map (moved_to l)) places
    ∙ ap (λ b. if b then None else option_map (moved_to l) (moved_places base moved l.from)) names
