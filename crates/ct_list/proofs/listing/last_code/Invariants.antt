use Rattle.std.proofs.Common.{◌≡◌, length, drop}
use Rattle.ct_list.specs.Inside.Kept.{AreKept, named_by}
use Rattle.ct_list.proofs.listing.last_code.Given as goal

abbrev pub invariant-loop-place : goal.invariant-loop-place
invariant-loop-place l =
    (length l.kept.items ≡ l.place) × AreKept l.fn.lines l.kept.items (named_by (drop l.place l.fn.lines)) × (l.ledger ≡ l.fn.ledger)
