-- Lines of a session, and the words of a line.
use Rattle.std.specs.Prelude.{ℕ, ◌==◌, not, List, length, filter}
use Rattle.std.specs.List.{slice_split}
use Rattle.std.specs.Str.Lines.{strip_carriage_return}

-- the words of a line: its parts between spaces (32) that are not empty; one carriage return at its end does not count
unfoldable pub words_of : List ℕ → List (List ℕ)
words_of line = filter (λ word. not (length word == 0)) (slice_split (λ b. b == 32) (strip_carriage_return line))
