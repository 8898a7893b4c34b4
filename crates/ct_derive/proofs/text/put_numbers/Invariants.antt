use Rattle.std.proofs.Common.{◌≡◌, ◌++◌, drop}
use Rattle.std.specs.List.{flat_map}
use Rattle.ct_text.specs.Number.{spaced}
use Rattle.ct_derive.specs.Check.{numbers_at}
use Rattle.ct_derive.proofs.text.put_numbers.Given as goal

-- with the numbers that are left, the text is whole
abbrev pub invariant-loop-place : goal.invariant-loop-place
invariant-loop-place l = l.fn.text.items ++ flat_map spaced (numbers_at l.from) ≡ l.text.items ++ flat_map spaced (numbers_at (drop l.place-index l.from))
