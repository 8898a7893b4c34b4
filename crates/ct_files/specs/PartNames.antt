-- The names of pieces in a set.
use Rattle.std.specs.Prelude.{ℕ, Bool, List}
use Rattle.std.specs.Borrow.{Bor}
use Rattle.std.specs.HashSet.{HashSet, keys}
use Rattle.std.specs.List.{list_any}
use Rattle.std.specs.Str.{bytes_eq}

-- whether an id is one of the names
abbrev pub has_name : {S : Type 0} → HashSet (Bor (List ℕ)) S → List ℕ → Bool
has_name names id = list_any (λ name. bytes_eq id name.now) (keys names)
