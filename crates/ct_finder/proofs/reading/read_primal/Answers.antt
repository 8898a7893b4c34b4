-- The parts that are read make the primal, or its first number that is too large.
use Rattle.std.proofs.Common.{ap, ◌∙◌, arith}
use Rattle.std.specs.Prelude.{ℤ}
use Rattle.std.proofs.lemmas.Int.{to_z_pos}
use mir.Syntax.{w64, w128}
use Rattle.ct_finder.specs.Ready.{seen}
use Rattle.ct_finder.specs.declared.reading.Reading.TheVariants.{Primal, Wide}
use Rattle.ct_finder.proofs.ReadingLemmas.{reading-scale, reading-number, reading-primal}
use Rattle.ct_finder.proofs.reading.read_primal.Goals as goal

pub returns-in-Err : goal.returns-in-Err
returns-in-Err c =
    let small = c.in-Err.ensures.small in
    ap Wide (to_z_pos w128 c.in-Err.number (omega (arith, small)))
    ∙ reading-scale c.args.entry c.args.even c.args.range.now (seen c.args.tableau.now) c.in-Err.number c.in-Err.ensures.fault

pub returns-in-Some : goal.returns-in-Some
returns-in-Some c =
    let small = c.in-Some.ensures.small_of in
    ap Wide (to_z_pos w128 c.in-Some.number (omega (arith, small)))
    ∙ reading-number c.args.entry c.args.even c.args.range.now (seen c.args.tableau.now) c.in-Ok.q c.in-Some.number c.in-Ok.ensures.fault c.in-Ok.ensures.value c.in-Some.ensures.value

pub returns : goal.returns
returns c =
    let small = c.in-Ok.ensures.some.1 in
    ap (λ (q : ℤ). Primal (record { entry = c.args.entry; even = c.args.even; q = q; a = c.in_ok-a.a.items })) (to_z_pos w64 c.in-Ok.q (omega (arith, small)))
    ∙ reading-primal c.args.entry c.args.even c.args.range.now (seen c.args.tableau.now) c.in-Ok.q c.in_ok-a.a.items c.in-Ok.ensures.fault c.in-Ok.ensures.value
    c.in_default.ensures.value c.in_ok-a.ensures

pub pairs-requires-clause-basic : goal.pairs-requires-clause-basic
pairs-requires-clause-basic c = c.requires.basic

pub large_number-requires-clause-basic : goal.large_number-requires-clause-basic
large_number-requires-clause-basic c = c.requires.basic
