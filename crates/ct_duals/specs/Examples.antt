-- Duals whose bounds are known, and such that do not stand.
use Rattle.std.specs.Prelude.{true, false, [], ◌∷◌, pos}
use Rattle.ct_words.specs.Entry.{unrestricted, constant_weight}
use Rattle.ct_duals.specs.declared.dual.Dual.{Dual}

-- for A(13,6): even distances alone, f = 5 + K_1 + K_2, and 16 and 48 allowed at the distances 10 and 12
abbrev pub thirteen_six : Dual
thirteen_six = record {
  entry = unrestricted 13 6;
  even = true;
  c = pos 5 ∷ pos 1 ∷ pos 1 ∷ [];
  y = (10, pos 16) ∷ (12, pos 48) ∷ [];
}

-- for A(8,4,4): f = 48 + 21 J_1 + 4 J_2
abbrev pub eight_four_four : Dual
eight_four_four = record { entry = constant_weight 8 4 4; even = false; c = pos 48 ∷ pos 21 ∷ pos 4 ∷ []; y = [] }

-- for A(8,4,4): f = 8 + J_1, and 8 allowed at the index 2
abbrev pub eight_local : Dual
eight_local = record { entry = constant_weight 8 4 4; even = false; c = pos 8 ∷ pos 1 ∷ []; y = (2, pos 8) ∷ [] }

-- for A(8,4,4): f is 1 everywhere, and 1 is allowed at each index that words of a code may have
abbrev pub ones_local : Dual
ones_local = record { entry = constant_weight 8 4 4; even = false; c = pos 1 ∷ []; y = (2, pos 1) ∷ (3, pos 1) ∷ (4, pos 1) ∷ [] }

-- of the entry (5,3): f is 1 everywhere, and nothing is allowed
abbrev pub one_everywhere : Dual
one_everywhere = record { entry = unrestricted 5 3; even = false; c = pos 1 ∷ []; y = [] }

-- of the entry (5,4): f = 1 + K_1 + K_2 is 0 at the distance 4, and 6 at 5, where nothing is allowed
abbrev pub above_at_last : Dual
above_at_last = record { entry = unrestricted 5 4; even = false; c = pos 1 ∷ pos 1 ∷ pos 1 ∷ []; y = [] }
