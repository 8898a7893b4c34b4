-- Numbers put into ascending order, and codes whose words are.
use Rattle.std.specs.Prelude.{ℕ, nat_le, if◌then◌else◌, List, [], ◌∷◌}
use Rattle.ct_words.specs.declared.entry.Entry.{Entry}
use Rattle.ct_words.specs.Code.{CodeValue}

-- the number, put before the first that is not below it
abbrev pub inserted : ℕ → List ℕ → List ℕ
inserted x [] = x ∷ []
inserted x (y ∷ ys) = if nat_le x y then x ∷ y ∷ ys else y ∷ inserted x ys

-- the numbers of the list in ascending order, each as often as it stands there
unfoldable pub ascending : List ℕ → List ℕ
ascending [] = []
ascending (x ∷ xs) = inserted x (ascending xs)

-- the code of the entry with these words, in ascending order
abbrev pub code_at : Entry → List ℕ → CodeValue
code_at e words = record { n = e.n; d = e.d; w = e.w; words = ascending words }
