use Rattle.std.proofs.Common.{◌≡◌, ◌+◌, ◌*◌, ap, arith}
use Rattle.ct_words.specs.Entry.{constant_weight}
use Rattle.ct_words.proofs.EntryLemmas.{entry_from_limits}
use Rattle.ct_slots.specs.Number.{even_distances}
use Rattle.ct_slots.proofs.NumberLemmas.{slot_number-bound}
use Rattle.ct_kept.proofs.StartLemmas.{IsStarted-same, row_number}
use Rattle.ct_kept.proofs.kept.Kept.put_with_weight.Goals as goal

pub loop-k-init : goal.loop-k-init
loop-k-init c = IsStarted-same c.args.self.now c.args.first (c.args.first + 0 * (c.args.n + 1)) (omega arith) c.requires.before

pub put_weights-requires-clause-first : goal.put_weights-requires-clause-first
put_weights-requires-clause-first c =
    let first = c.requires.first in
    let at = row_number c.args.side c.args.n c.loop-k.k in
    omega arith

pub put_weights-requires-clause-bound : goal.put_weights-requires-clause-bound
put_weights-requires-clause-bound c =
    let n = c.args.n in
    let k = c.loop-k.k in
    let first = c.requires.first in
    let at = row_number c.args.side n k in
    let entry =
    entry_from_limits (constant_weight n (4 + 2 * k) 0) c.requires.from c.requires.to (omega arith) (omega arith)
    (omega arith, omega arith, omega arith) in
    let below = slot_number-bound (c.args.side, constant_weight n (4 + 2 * k) 0) entry in
    omega arith

pub loop-k-preserved : goal.loop-k-preserved
loop-k-preserved c =
    let n = c.args.n in
    let k = c.loop-k.k in
    IsStarted-same c.put_weights.new.self (c.args.first + k * (n + 1) + (n + 1)) (c.args.first + (k + 1) * (n + 1)) (omega arith)
    c.in_ok-put_weights.ensures

pub returns : goal.returns
returns c =
    let all : c.loop-k.k ≡ even_distances = omega arith in
    let product = ap (λ z. z * (c.args.n + 1)) all in
    IsStarted-same c.loop-k.self (c.args.first + c.loop-k.k * (c.args.n + 1)) (c.args.first + even_distances * (c.args.n + 1)) (omega arith)
    c.loop-k.invariant

pub put_weights-requires-clause-from : goal.put_weights-requires-clause-from
put_weights-requires-clause-from c = c.requires.from

pub put_weights-requires-clause-classes : goal.put_weights-requires-clause-classes
put_weights-requires-clause-classes c = c.requires.classes

pub put_weights-requires-clause-before : goal.put_weights-requires-clause-before
put_weights-requires-clause-before c = c.loop-k.invariant
