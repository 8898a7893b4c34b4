use Rattle.ct_duals.specs.Check.{dual_fault}
use Rattle.ct_words.specs.Numbers.{numbers_of}
use Rattle.ct_rule_parts.specs.declared.support.Support.TheVariants.{Bound}
use Rattle.ct_dual_files.proofs.GivenDuals.{given_by}
use Rattle.ct_dual_files.proofs.dual_kind.check.Goals as goal

pub returns-clause-support : goal.returns-clause-support
returns-clause-support c =
    let d = c.args.dual.now in
    given_by Bound d c.in_ok-dual.dual (dual_fault (numbers_of d.entry) d) c.in_ok-dual.ensures.kept c.in_ok-dual.ensures.accepted
