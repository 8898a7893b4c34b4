use Rattle.std.proofs.Common.{◌≡◌, ◌+◌, ◌-◌, subst, sym, ap, ◌∙◌, arith}
use Rattle.ct_words.specs.Entry.{unrestricted}
use Rattle.ct_words.proofs.EntryLemmas.{entry_from_limits}
use Rattle.ct_kept.specs.Kept.{KeptValue}
use Rattle.ct_kept.specs.Inside.Started.{IsStarted}
use Rattle.ct_slots.specs.Number.{distances, slot_number}
use Rattle.ct_slots.proofs.NumberLemmas.{slot_number-bound}
use Rattle.ct_kept.proofs.StartLemmas.{IsStarted-next, IsStarted-same, distance_number}
use Rattle.ct_kept.proofs.kept.Kept.put_distances.Goals as goal

pub loop-d-init : goal.loop-d-init
loop-d-init c = (omega arith, IsStarted-same c.args.self.now c.args.first (c.args.first + (3 - 3)) (omega arith) c.requires.before)

pub ground_line-requires : goal.ground_line-requires
ground_line-requires c =
    entry_from_limits (unrestricted c.args.n c.loop-d.d) c.requires.from c.requires.to c.loop-d.invariant.0 (omega arith) tt

pub put_at-requires-clause-number : goal.put_at-requires-clause-number
put_at-requires-clause-number c =
    let n = c.args.n in
    let d = c.loop-d.d in
    let first = c.requires.first in
    let at = distance_number c.args.side n d c.loop-d.invariant.0 in
    let number : c.args.first + (d - 3) ≡ slot_number (c.args.side, unrestricted n d) = omega arith in
    number ∙ ap slot_number (sym c.ground_line.ensures.slot)

pub put_at-requires-clause-bound : goal.put_at-requires-clause-bound
put_at-requires-clause-bound c =
    let n = c.args.n in
    let d = c.loop-d.d in
    let first = c.requires.first in
    let at = distance_number c.args.side n d c.loop-d.invariant.0 in
    let entry = entry_from_limits (unrestricted n d) c.requires.from c.requires.to c.loop-d.invariant.0 (omega arith) tt in
    let below = slot_number-bound (c.args.side, unrestricted n d) entry in
    omega arith

pub loop-d-preserved : goal.loop-d-preserved
loop-d-preserved c =
    let side = c.args.side in
    let n = c.args.n in
    let d = c.loop-d.d in
    let number = c.args.first + (d - 3) in
    let first = c.requires.first in
    let far = c.loop-d.invariant.0 in
    let at = distance_number side n d far in
    let is : slot_number (side, unrestricted n d) ≡ number = omega arith in
    let entry = entry_from_limits (unrestricted n d) c.requires.from c.requires.to far (omega arith) tt in
    let next : number + 1 ≡ c.args.first + (d + 1 - 3) = omega arith in (
      omega arith,
      subst (λ (k : KeptValue). IsStarted (c.args.first + (d + 1 - 3)) k) (sym c.in_ok-put_at.ensures.put)
          (IsStarted-same _ (number + 1) (c.args.first + (d + 1 - 3)) next
          (IsStarted-next number c.loop-d.self (side, unrestricted n d) c.ground_line.result entry is c.ground_line.ensures c.loop-d.invariant.1)),
    )

pub returns : goal.returns
returns c =
    let from = c.loop-d.invariant.0 in
    let last : c.args.first + (c.loop-d.d - 3) ≡ c.args.first + distances = omega arith in
    IsStarted-same c.loop-d.self (c.args.first + (c.loop-d.d - 3)) (c.args.first + distances) last c.loop-d.invariant.1
