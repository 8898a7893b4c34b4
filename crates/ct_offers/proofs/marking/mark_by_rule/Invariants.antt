use Rattle.std.proofs.Common.{◌≡◌, ℕ, ◌<◌, Some}
use Rattle.std.specs.Prelude.{slice_get}
use Rattle.ct_words.specs.declared.entry.Entry.{Entry}
use Rattle.ct_rule_parts.specs.Entries.{listed}
use Rattle.ct_offers.specs.Inside.Marking.{KeepsMarks, IsTestedAt}
use Rattle.ct_offers.proofs.marking.mark_by_rule.Given as goal

-- what was marked still is, and the entries so far were tested
abbrev pub invariant-loop-k : goal.invariant-loop-k
invariant-loop-k l = KeepsMarks l.fn.work l.work
    × ((k : ℕ) (e : Entry) → k < l.k → slice_get (listed l.dependents) k ≡ Some e → IsTestedAt l.supports l.bounds l.work l.rule e)
