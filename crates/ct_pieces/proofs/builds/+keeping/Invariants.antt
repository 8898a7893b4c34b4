use Rattle.std.proofs.Common.{ℕ, ◌+◌, ◌*◌, Option, Some, None}
use Rattle.ct_pieces.proofs.builds.+keeping.Given as goal

-- what is made for a place rests on places before it
abbrev pub depth : Option ℕ → ℕ
depth None = 0
depth (Some place) = 3 * place + 3

abbrev pub decreases-keep_code : goal.decreases-keep_code
decreases-keep_code l = 3 * l.place + 2

abbrev pub decreases-make_code : goal.decreases-make_code
decreases-make_code l = 3 * l.place + 1

abbrev pub decreases-keep_found : goal.decreases-keep_found
decreases-keep_found l = depth l.place
