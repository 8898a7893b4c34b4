-- After three rounds the first place of the table, where nothing is taken out, has the bound.
use Rattle.std.proofs.Common.{◌≡◌, ℕ, ◌≤◌, List, get_or, refl, sym, ap, subst, ◌∙◌, arith, add-one}
use Rattle.ct_doubly.specs.declared.parts.Parts.{Parts}
use Rattle.ct_doubly.specs.Doubly.{doubly_after, doubly}
use Rattle.ct_doubly.specs.Inside.Tables.{IsTable}
use Rattle.ct_doubly.proofs.Tables.{at_place}
use Rattle.ct_doubly.proofs.DoublyTrue.{doubly-true, one-le-doubly, doubly-le}
use Rattle.ct_doubly.proofs.rounds.doubly.Goals as goal

abbrev parts_of : ℕ → ℕ → ℕ → ℕ → Parts
parts_of n1 w1 n2 w2 = record { n1 = n1; w1 = w1; n2 = n2; w2 = w2 }

first_place : (s n1 w1 n2 w2 d : ℕ) (table : List ℕ) → s ≡ 3 → IsTable s (parts_of n1 w1 n2 w2) d table → get_or table 0 0 ≡ doubly n1 w1 n2 w2 d
first_place s n1 w1 n2 w2 d table three is =
    at_place s d (parts_of n1 w1 n2 w2) table 0 is (omega arith) 0 0 0 0 refl (omega arith) (omega arith) (omega arith) (omega arith) (omega arith)
    n1 w1 n2 w2 (omega arith) (omega arith) (omega arith) (omega arith)
    ∙ ap (λ (r : ℕ). doubly_after r n1 w1 n2 w2 d) three

-- what the code gives
value : (c : goal.After-loop-round) → get_or c.loop-round.table 0 0 ≡ doubly c.args.n1 c.args.w1 c.args.n2 c.args.w2 c.args.d
value c =
    first_place c.loop-round._round c.args.n1 c.args.w1 c.args.n2 c.args.w2 c.args.d c.loop-round.table (omega arith) c.loop-round.invariant.bounds

pub loop-round-preserved : goal.loop-round-preserved
loop-round-preserved c = record {
  bounds =
      subst (λ s. IsTable s (parts_of c.args.n1 c.args.w1 c.args.n2 c.args.w2) c.args.d c.shortened_bounds-table.result)
      (sym (add-one c.loop-round._round))
      (c.shortened_bounds-table.ensures.value c.loop-round._round c.args.d c.loop-round.invariant.bounds);
  low = c.shortened_bounds-table.ensures.low;
}

pub returns-clause-value : goal.returns-clause-value
returns-clause-value c = value c

pub returns-clause-range : goal.returns-clause-range
returns-clause-range c =
    let n1 = c.args.n1 in
    let w1 = c.args.w1 in
    let n2 = c.args.n2 in
    let w2 = c.args.w2 in
    rw (value c) (one-le-doubly n1 w1 n2 w2 c.args.d c.requires.first c.requires.last, doubly-le n1 w1 n2 w2 c.args.d)

pub returns-clause-sound : goal.returns-clause-sound
returns-clause-sound c =
    let distance = c.requires.distance in
    let some : 1 ≤ c.args.d = omega (arith, distance.0) in
    rw (value c)
    (doubly-true c.args.n1 c.args.w1 c.args.n2 c.args.w2 c.args.d c.requires.first c.requires.last c.requires.length.1 some c.requires.even)
