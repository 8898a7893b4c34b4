-- Texts that grow at their ends.
use Rattle.std.specs.Prelude.{◌≡◌, ℕ, List, ◌++◌}

-- a text grew at its end, maybe by nothing: what it was stands at its front
abbrev pub Grows : List ℕ → List ℕ → Type 0
Grows before after = (more : List ℕ) × (after ≡ before ++ more)
