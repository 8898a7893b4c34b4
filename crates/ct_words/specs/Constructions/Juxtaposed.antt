-- Two codes put together word by word (MacWilliams and Sloane, chapter 2, section 3: codes pasted side by side).
use Rattle.std.specs.Prelude.{ℕ, ◌+◌, List, map, Option, Some, None}
use Rattle.std.specs.List.{zip}
use Rattle.ct_words.specs.Constructions.Joined.{followed_by}

-- the i-th word of the first list followed by the i-th of the second, whose words have length m, as long as there are both
abbrev pub juxtaposed : ℕ → List ℕ → List ℕ → List ℕ
juxtaposed m xs ys = map (λ p. followed_by m p.0 p.1) (zip xs ys)

-- the sum of two weights, where both are given
abbrev pub added_weights : Option ℕ → Option ℕ → Option ℕ
added_weights None w = None
added_weights (Some v) None = None
added_weights (Some v) (Some w) = Some (v + w)
