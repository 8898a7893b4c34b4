use Rattle.std.proofs.Common.{◌∙◌}
use Rattle.ct_duals.specs.Check.{dual_fault}
use Rattle.ct_words.specs.Numbers.{numbers_of}
use Rattle.ct_rule_parts.specs.declared.support.Support.TheVariants.{Local}
use Rattle.ct_dual_files.proofs.GivenDuals.{given_by}
use Rattle.ct_dual_files.proofs.dual_kind.check_local.Goals as goal

pub returns-clause-support : goal.returns-clause-support
returns-clause-support c =
    let d = c.args.dual.now in
    given_by Local d c.in_ok-new.field-0 (dual_fault (numbers_of d.entry) d) (c.in_ok-new.ensures ∙ c.in_ok-dual.ensures.kept)
    c.in_ok-dual.ensures.accepted
