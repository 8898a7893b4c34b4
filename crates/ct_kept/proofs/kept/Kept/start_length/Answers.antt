use Rattle.std.proofs.Common.{◌≡◌, ◌+◌, ◌-◌, ◌*◌, OnOk, sym, subst, ◌∙◌, arith}
use Rattle.ct_words.specs.declared.claim.Side.TheVariants.{Lower, Upper}
use Rattle.ct_kept.specs.Inside.Started.{IsStarted}
use Rattle.ct_slots.specs.Number.{distances, entries_to, side_number, side_size}
use Rattle.ct_kept.proofs.StartLemmas.{IsStarted-same, first_number, weights_number, all_numbers}
use Rattle.ct_kept.proofs.kept.Kept.start_length.Goals as goal

-- the sides are two
other_side : Lower ≡ Upper → ⊥
other_side e = cc

pub put_distances-requires-clause-before : goal.put_distances-requires-clause-before
put_distances-requires-clause-before c =
    let number = c.slot_number-plain.ensures.number in
    let first = first_number c.args.side c.args.n in
    IsStarted-same c.args.self.now (side_number c.args.side * side_size + entries_to (c.args.n - 1)) c.slot_number-plain.result (omega arith)
    c.requires.before

pub put_with_weight-requires-clause-before : goal.put_with_weight-requires-clause-before
put_with_weight-requires-clause-before c =
    let plain = c.slot_number-plain.ensures.number in
    let weighted = c.slot_number-weighted.ensures.number in
    let next = weights_number c.args.side c.args.n in
    IsStarted-same c.put_distances.new.self (c.slot_number-plain.result + distances) c.slot_number-weighted.result (omega arith)
    c.in_ok-put_distances.ensures

pub put_with_weight-requires-in-Upper-clause-before : goal.put_with_weight-requires-in-Upper-clause-before
put_with_weight-requires-in-Upper-clause-before c =
    let plain = c.slot_number-plain.ensures.number in
    let weighted = c.slot_number-weighted.ensures.number in
    let next = weights_number c.args.side c.args.n in
    IsStarted-same c.put_distances.new.self (c.slot_number-plain.result + distances) c.slot_number-weighted.result (omega arith)
    c.in_ok-put_distances.ensures

pub returns-in-Lower : goal.returns-in-Lower
returns-in-Lower c =
    subst (λ k. OnOk c.put_with_weight.result (IsStarted k c.put_with_weight.new.self))
    (all_numbers c.args.side c.args.n c.slot_number-weighted.result c.requires.from c.slot_number-weighted.ensures.number)
    c.put_with_weight.ensures

pub returns-in-Upper : goal.returns-in-Upper
returns-in-Upper c =
    subst (λ k. OnOk c.put_with_weight-in-Upper.result (IsStarted k c.put_with_weight-in-Upper.new.self))
    (all_numbers c.args.side c.args.n c.slot_number-weighted.result c.requires.from c.slot_number-weighted.ensures.number)
    c.put_with_weight-in-Upper.ensures

pub put_with_weight-requires-clause-from : goal.put_with_weight-requires-clause-from
put_with_weight-requires-clause-from c = c.requires.from

pub put_with_weight-requires-clause-to : goal.put_with_weight-requires-clause-to
put_with_weight-requires-clause-to c = c.requires.to

pub put_with_weight-requires-clause-bound : goal.put_with_weight-requires-clause-bound
put_with_weight-requires-clause-bound c = c.slot_number-weighted.ensures.bound

pub put_with_weight-requires-clause-first : goal.put_with_weight-requires-clause-first
put_with_weight-requires-clause-first c = c.slot_number-weighted.ensures.number

pub put_with_weight-requires-in-Upper-clause-from : goal.put_with_weight-requires-in-Upper-clause-from
put_with_weight-requires-in-Upper-clause-from c = c.requires.from

pub put_with_weight-requires-in-Upper-clause-to : goal.put_with_weight-requires-in-Upper-clause-to
put_with_weight-requires-in-Upper-clause-to c = c.requires.to

pub put_with_weight-requires-in-Upper-clause-bound : goal.put_with_weight-requires-in-Upper-clause-bound
put_with_weight-requires-in-Upper-clause-bound c = c.slot_number-weighted.ensures.bound

pub put_with_weight-requires-in-Upper-clause-first : goal.put_with_weight-requires-in-Upper-clause-first
put_with_weight-requires-in-Upper-clause-first c = c.slot_number-weighted.ensures.number

pub put_with_weight-requires-in-Upper-clause-classes : goal.put_with_weight-requires-in-Upper-clause-classes
put_with_weight-requires-in-Upper-clause-classes c = λ lower. absurd (other_side (sym lower ∙ c.in-Upper.is))

pub largest_sum_classes-requires : goal.largest_sum_classes-requires
largest_sum_classes-requires c = (c.requires.from, c.requires.to)
