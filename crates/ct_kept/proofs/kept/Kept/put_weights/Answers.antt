use Rattle.std.proofs.Common.{◌≡◌, ◌+◌, subst, sym, ap, ◌∙◌, arith}
use Rattle.ct_words.specs.Entry.{constant_weight}
use Rattle.ct_words.proofs.EntryLemmas.{entry_from_limits}
use Rattle.ct_kept.specs.Kept.{KeptValue}
use Rattle.ct_kept.specs.Inside.Started.{IsStarted}
use Rattle.ct_slots.specs.Number.{slot_number}
use Rattle.ct_slots.proofs.NumberLemmas.{slot_number-bound}
use Rattle.ct_kept.proofs.StartLemmas.{IsStarted-next, IsStarted-same, weight_number}
use Rattle.ct_kept.proofs.kept.Kept.put_weights.Goals as goal

pub loop-w-init : goal.loop-w-init
loop-w-init c = IsStarted-same c.args.self.now c.args.first (c.args.first + 0) (omega arith) c.requires.before

pub ground_line_with_weight-requires-clause-entry : goal.ground_line_with_weight-requires-clause-entry
ground_line_with_weight-requires-clause-entry c =
    entry_from_limits (constant_weight c.args.n c.args.d c.loop-w.w) c.requires.from c.requires.to (omega (arith, c.requires.far)) c.requires.near
    (c.requires.even, c.requires.far, omega arith)

pub put_at-requires-clause-number : goal.put_at-requires-clause-number
put_at-requires-clause-number c =
    let first = c.requires.first in
    let at = weight_number c.args.side c.args.n c.args.d c.loop-w.w in
    let number : c.args.first + c.loop-w.w ≡ slot_number (c.args.side, constant_weight c.args.n c.args.d c.loop-w.w) = omega arith in
    number ∙ ap slot_number (sym c.ground_line_with_weight.ensures.slot)

pub put_at-requires-clause-bound : goal.put_at-requires-clause-bound
put_at-requires-clause-bound c =
    let first = c.requires.first in
    let at = weight_number c.args.side c.args.n c.args.d c.loop-w.w in
    let entry =
    entry_from_limits (constant_weight c.args.n c.args.d c.loop-w.w) c.requires.from c.requires.to (omega (arith, c.requires.far)) c.requires.near
    (c.requires.even, c.requires.far, omega arith) in
    let below = slot_number-bound (c.args.side, constant_weight c.args.n c.args.d c.loop-w.w) entry in
    omega arith

pub loop-w-preserved : goal.loop-w-preserved
loop-w-preserved c =
    let side = c.args.side in
    let n = c.args.n in
    let d = c.args.d in
    let w = c.loop-w.w in
    let number = c.args.first + w in
    let first = c.requires.first in
    let at = weight_number side n d w in
    let is : slot_number (side, constant_weight n d w) ≡ number = omega arith in
    let entry =
    entry_from_limits (constant_weight n d w) c.requires.from c.requires.to (omega (arith, c.requires.far)) c.requires.near
    (c.requires.even, c.requires.far, omega arith) in
    let next : number + 1 ≡ c.args.first + (w + 1) = omega arith in
    subst (λ (k : KeptValue). IsStarted (c.args.first + (w + 1)) k) (sym c.in_ok-put_at.ensures.put)
    (IsStarted-same _ (number + 1) (c.args.first + (w + 1)) next
    (IsStarted-next number c.loop-w.self (side, constant_weight n d w) c.ground_line_with_weight.result entry is
    c.ground_line_with_weight.ensures c.loop-w.invariant))

pub returns : goal.returns
returns c =
    let last : c.args.first + c.loop-w.w ≡ c.args.first + (c.args.n + 1) = omega arith in
    IsStarted-same c.loop-w.self (c.args.first + c.loop-w.w) (c.args.first + (c.args.n + 1)) last c.loop-w.invariant
