use Rattle.std.proofs.Common.{◌<◌, None, length, sym, ◌∙◌, arith}
use Rattle.std.proofs.lemmas.Option.{none-some, slice_get-get_or}
use Rattle.std.proofs.lemmas.Result.{IfOk-from_err}
use Rattle.ct_rule_parts.specs.Entries.{listed}
use Rattle.ct_words.specs.declared.entry.Entry.{Entry}
use Rattle.ct_offers.specs.Inside.Marking.{IsTestedFrom}
use Rattle.ct_offers.proofs.MarkingLemmas.{keeps-trans, tested_and_one, tested_from}
use Rattle.ct_offers.proofs.marking.mark_by_rule.Goals as goal

pub loop-k-preserved : goal.loop-k-preserved
loop-k-preserved c =
    let keeps = c.in_ok-test.ensures.kept in (
      keeps-trans c.args.work.now c.loop-k.work c.test.new.work c.loop-k.invariant.0 keeps,
      tested_and_one c.args.supports.now c.args.bounds.now c.loop-k.work c.test.new.work c.args.rule
          (listed c.rested_on_by-dependents.result) c.loop-k.k c.in-Some.dependent keeps (sym c.get.ensures ∙ c.in-Some.is)
          c.in_ok-test.ensures.tested c.loop-k.invariant.1,
    )

pub returns-clause-tested : goal.returns-clause-tested
returns-clause-tested c =
    tested_from c.args.supports.now c.args.bounds.now c.loop-k.work c.args.rule c.args.entry c.loop-k.k
    (listed c.rested_on_by-dependents.result) c.rested_on_by-dependents.ensures (omega (arith, c.loop-k-test.false, c.len-k-end.ensures))
    c.loop-k.invariant.1

pub returns-clause-kept : goal.returns-clause-kept
returns-clause-kept c = c.loop-k.invariant.0

pub test-requires : goal.test-requires
test-requires c = record { stand = c.requires.stand; true_bounds = c.requires.true_bounds }

pub loop-k-init : goal.loop-k-init
loop-k-init c = (λ t entry marked. marked, λ k e below at. absurd (omega arith))

-- there is an entry at each place below their number
pub returns-in_default : goal.returns-in_default
returns-in_default c =
    let es = listed c.rested_on_by-dependents.result in
    let none : Entry = record { n = 0; d = 0; w = None } in
    let inside : c.loop-k.k < length es = omega (arith, c.loop-k-test.true, c.len-k-end.ensures) in
    absurd (none-some _ (sym c.in_default.is ∙ c.get.ensures ∙ slice_get-get_or es c.loop-k.k none inside))

pub returns-in_err-test : goal.returns-in_err-test
returns-in_err-test c = record {
  tested =
      IfOk-from_err c.from_residual.result
      (λ _. IsTestedFrom c.args.supports.now c.args.bounds.now c.test.new.work c.args.entry c.args.rule) c.from_residual.ensures.0;
  kept = keeps-trans c.args.work.now c.loop-k.work c.test.new.work c.loop-k.invariant.0 c.in_err-test.ensures.kept;
}
