-- Duals of entries without weight, with numbers of words that parity excludes by them or does not.
use Rattle.std.specs.Prelude.{ℕ, ℤ, true, false, [], ◌∷◌, pos}
use Rattle.ct_words.specs.Entry.{unrestricted}
use Rattle.ct_duals.specs.declared.dual.Dual.{Dual}
use Rattle.ct_rule_parts.specs.Support.{OddValue}

-- for A(9,4): even distances alone, f = 3 + K_1 + K_2, which is 48 at 0, and 16 allowed at the distance 8
abbrev pub nine_four : Dual
nine_four = record { entry = unrestricted 9 4; even = true; c = pos 3 ∷ pos 1 ∷ pos 1 ∷ []; y = (8, pos 16) ∷ [] }

-- for A(5,3): f is 1 everywhere, and 1, 2 and 1 are allowed at the distances 3, 4 and 5; the last two are of the group
abbrev pub five_three : Dual
five_three = record { entry = unrestricted 5 3; even = false; c = pos 1 ∷ []; y = (3, pos 1) ∷ (4, pos 2) ∷ (5, pos 1) ∷ [] }

-- a dual with its f(0), and so many words
abbrev pub odd_by : Dual → ℤ → ℕ → OddValue
odd_by dual at_zero m = record { accepted = record { dual = dual; at_zero = at_zero }; m = m }
