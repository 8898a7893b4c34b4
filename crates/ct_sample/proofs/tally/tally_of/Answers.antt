use Rattle.std.proofs.Common.{◌+◌, ◌*◌, ◌^◌, ◌<◌, ◌≤◌, ℕ, take, take_all, None, sym, ap, ◌∙◌, arith}
use Rattle.std.proofs.lemmas.List.{take_more}
use Rattle.ct_words.specs.declared.entry.Entry.{Entry}
use Rattle.ct_sample.specs.Summary.{tally_of}
use Rattle.ct_sample.proofs.tally.tally_of.Goals as goal

-- one entry more
one_more : (i t s : ℕ) → t ≤ i → s ≤ t + 1 → s ≤ i + 1
one_more i t s before now = omega arith

bound_more : (i t s : ℕ) → t ≤ i * 2 ^ 32 → s < t + 2 ^ 32 → s ≤ (i + 1) * 2 ^ 32
bound_more i t s before now = omega arith

pub loop-entry-preserved : goal.loop-entry-preserved
loop-entry-preserved c =
    let i = c.loop-entry.entry-index in
    let old = c.loop-entry.tally in
    let new = c.with_entry-tally.result in
    let known = c.with_entry-tally.ensures in
    let was = c.loop-entry.invariant in
    let other : Entry = record { n = 0; d = 0; w = None } in (
      λ best are.
          known.tally best (take i c.args.entries.now) are (was.0 best are)
          ∙ ap (tally_of best) (sym (take_more c.args.entries.now c.loop-entry.entry-index other c.loop-entry-test.true)),
      one_more i old.equal new.equal was.1 known.equal,
      bound_more i old.lower new.lower was.2 known.lower,
      bound_more i old.upper new.upper was.3 known.upper,
    )

pub returns : goal.returns
returns c = λ best are.
    c.loop-entry.invariant.0 best are ∙ ap (tally_of best) (take_all c.loop-entry.entry-index c.args.entries.now c.loop-entry-test.false)
