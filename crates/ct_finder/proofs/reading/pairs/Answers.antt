-- One index more.
use Rattle.std.proofs.Common.{◌++◌, [], ◌∷◌, get_or, ap, ◌∙◌, List, ℕ, arith}
use Rattle.std.specs.Prelude.{filter, ℤ, pos, int_lt}
use Rattle.ct_finder.specs.Ready.{seen}
use Rattle.ct_finder.proofs.ReadingLemmas.{number-below, pairs-more, pairs-all}
use Rattle.ct_finder.proofs.reading.pairs.Goals as goal

pub push_number-requires : goal.push_number-requires
push_number-requires c = record {
  narrow = number-below c.args.range.now (seen c.args.tableau.now) c.args.q c.loop-j.j c.number_at.result c.loop-j-test.true c.requires.narrow c.number_at.ensures.value;
}

pub loop-j-preserved : goal.loop-j-preserved
loop-j-preserved c =
    let range = c.args.range.now in
    let j = c.loop-j.j in
    c.in_ok-push_number.ensures
    ∙ ap (λ (xs : List (ℕ × ℤ)). xs ++ filter (λ (u : ℕ × ℤ). int_lt (pos 0) u.1) ((get_or range j 0, pos c.number_at.result) ∷ [])) c.loop-j.invariant
    ∙ pairs-more range (seen c.args.tableau.now) c.args.q j c.number_at.result c.loop-j-test.true c.requires.scale c.number_at.ensures.value

pub returns : goal.returns
returns c = c.loop-j.invariant ∙ pairs-all c.args.range.now (seen c.args.tableau.now) c.loop-j.j (omega (arith, c.loop-j-test.false))
