use Rattle.std.proofs.Common.{◌≡◌, ◌<◌, ◌^◌, take}
use Rattle.ct_text.specs.Number.{decimal_value}
use Rattle.ct_text.proofs.number.parse_number.Given as goal

abbrev pub invariant-loop-b : goal.invariant-loop-b
invariant-loop-b l = (l.value ≡ decimal_value (take l.b-index l.text)) × (l.value < 2 ^ 64)
