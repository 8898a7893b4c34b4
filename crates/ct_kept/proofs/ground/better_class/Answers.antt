use Rattle.std.proofs.Common.{◌<◌, arith}
use Rattle.ct_kept.proofs.GroundLemmas.{without_class, found_class, found_within, found_gives}
use Rattle.ct_kept.proofs.ground.better_class.Goals as goal

pub returns-in_default-clause-within : goal.returns-in_default-clause-within
returns-in_default-clause-within c = λ k. without_class c.args.entry c.class_from.result k c.args.best.value c.class_from.ensures c.in_default.is

pub returns-then-class-best-clause-within : goal.returns-then-class-best-clause-within
returns-then-class-best-clause-within c = λ k.
    found_within c.args.entry c.in-Some.class k c.args.best.value
    (found_class c.args.entry c.class_from.result c.in-Some.class c.class_from.ensures c.in-Some.is) c.if-class-best.true

pub returns-clause-given : goal.returns-clause-given
returns-clause-given c =
    let more : c.args.best.value < c.in-Some.class.size = omega (arith, c.if-class-best.false) in
    found_gives c.args.entry c.in-Some.class c.args.best.value c.requires.entry
    (found_class c.args.entry c.class_from.result c.in-Some.class c.class_from.ensures c.in-Some.is) more

pub returns-clause-within : goal.returns-clause-within
returns-clause-within c = λ k.
    found_within c.args.entry c.in-Some.class k c.in-Some.class.size
    (found_class c.args.entry c.class_from.result c.in-Some.class c.class_from.ensures c.in-Some.is) (omega arith)
