use Rattle.std.proofs.Common.{◌≡◌, ◌++◌, List, length, take, drop}
use Rattle.ct_rules.specs.Derivation.{LineValue}
use Rattle.ct_list.specs.Inside.Kept.{AreCodesFor, AreKept, named_by}
use Rattle.ct_list.proofs.kept.take_codes.Given as goal

abbrev pub invariant-loop-k : goal.invariant-loop-k
invariant-loop-k l =
    (length l.kept.items ≡ length l.initial.kept.items)
    × ((lines : List LineValue) → AreKept lines l.initial.kept.items (l.fn.from ++ named_by l.fn.rest)
    → AreKept lines l.kept.items (drop l.k l.fn.from ++ named_by l.fn.rest) × AreCodesFor lines (take l.k l.fn.from) l.codes.items)
