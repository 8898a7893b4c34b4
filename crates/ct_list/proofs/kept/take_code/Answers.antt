use Rattle.std.proofs.Common.{◌∙◌, Some, ap, sym}
use Rattle.ct_list.proofs.KeptCodes.{read_kept, not_none, copied}
use Rattle.ct_list.proofs.kept.take_code.Goals as goal

pub unreachable-requires : goal.unreachable-requires
unreachable-requires c =
    not_none c.args.kept.now.items c.args.place c.requires.0 c.index.result.now c.requires.1 c.index.ensures c.in_default.is

pub returns-then-is_needed-clause-code : goal.returns-then-is_needed-clause-code
returns-then-is_needed-clause-code c =
    let kept = c.args.kept.now.items in
    let place = c.args.place in
    copied kept place c.in-Some.code c.try_copy.result
    (read_kept kept place c.requires.0 c.index.result.now c.requires.1 c.index.ensures ∙ ap Some c.in-Some.is) c.try_copy.ensures

pub unreachable-requires-in_default-take : goal.unreachable-requires-in_default-take
unreachable-requires-in_default-take c =
    not_none c.args.kept.now.items c.args.place c.requires.0 c.index_mut.result.now c.requires.1 c.index_mut.ensures.value
    (sym c.take.ensures.value ∙ c.in_default-take.is)

pub returns-clause-code : goal.returns-clause-code
returns-clause-code c =
    read_kept c.args.kept.now.items c.args.place c.requires.0 c.index_mut.result.now c.requires.1 c.index_mut.ensures.value
    ∙ ap Some (sym c.take.ensures.value ∙ c.in-Some-take.is)
