-- Duals of entries with weight, beside bounds of the doubly constant codes about a word (Johnson 1972; Agrell, Vardy and Zeger 2000).
use Rattle.std.specs.Prelude.{ℕ, ◌-◌, min, List, [], ◌∷◌, map}
use Rattle.ct_words.specs.declared.entry.Entry.{Entry}
use Rattle.ct_duals.specs.declared.dual.Dual.{Dual}
use Rattle.ct_duals.specs.Bound.{AcceptedValue, positive}
use Rattle.ct_duals.specs.Local.{local_bound}
use Rattle.ct_doubly.specs.Doubly.{doubly}
use Rattle.ct_rule_parts.specs.Parts.{weight_of}

-- at the index i: the bound of the doubly constant codes about a word that words of a code of the entry at the index are
abbrev pub doubly_at : Entry → ℕ → ℕ
doubly_at e i = doubly (weight_of e) i (e.n - weight_of e) i e.d

-- at each index where the dual allows more than 0
abbrev pub doubly_uppers : Dual → List ℕ
doubly_uppers d = map (λ p. doubly_at d.entry p.0) (positive d.y)

-- the lesser of both numbers at each place, as far as both lists go
abbrev pub lesser : List ℕ → List ℕ → List ℕ
lesser [] vs = []
lesser (u ∷ us) [] = []
lesser (u ∷ us) (v ∷ vs) = min u v ∷ lesser us vs

-- the local bound of the dual, at each index from the lesser of the upper bound of A(n,d,2i) and the bound of the doubly constant codes
abbrev pub local_value : AcceptedValue → List ℕ → ℕ
local_value a uppers = local_bound a.dual a.at_zero (lesser uppers (doubly_uppers a.dual))
