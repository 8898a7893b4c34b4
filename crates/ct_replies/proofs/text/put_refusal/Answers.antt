use Rattle.std.proofs.Common.{refl, ◌∙◌}
use Rattle.std.specs.Prelude.{codes}
use Rattle.ct_text.proofs.GrowingTexts.{Grows-if}
use Rattle.ct_replies.proofs.Puts.{Grows-none, puts-once}
use Rattle.ct_replies.proofs.text.put_refusal.Goals as goal

pub returns-in-CutOff-clause-ok : goal.returns-in-CutOff-clause-ok
returns-in-CutOff-clause-ok c =
    rw c.in-CutOff.is
    (puts-once c.extend_from_slice.result c.args.text.now.items (codes "cut") _ _ refl c.extend_from_slice.ensures.items)

pub returns-in-CutOff-clause-grown : goal.returns-in-CutOff-clause-grown
returns-in-CutOff-clause-grown c = Grows-if _ _ _ _ c.extend_from_slice.ensures.items

pub returns-in-NoCommand-clause-ok : goal.returns-in-NoCommand-clause-ok
returns-in-NoCommand-clause-ok c =
    rw c.in-NoCommand.is
    (puts-once c.extend_from_slice-in-NoCommand.result c.args.text.now.items (codes "command") _ _ refl c.extend_from_slice-in-NoCommand.ensures.items)

pub returns-in-NoCommand-clause-grown : goal.returns-in-NoCommand-clause-grown
returns-in-NoCommand-clause-grown c = Grows-if _ _ _ _ c.extend_from_slice-in-NoCommand.ensures.items

pub returns-in-NoEntry-clause-ok : goal.returns-in-NoEntry-clause-ok
returns-in-NoEntry-clause-ok c =
    rw c.in-NoEntry.is
    (puts-once c.extend_from_slice-in-NoEntry.result c.args.text.now.items (codes "entry") _ _ refl c.extend_from_slice-in-NoEntry.ensures.items)

pub returns-in-NoEntry-clause-grown : goal.returns-in-NoEntry-clause-grown
returns-in-NoEntry-clause-grown c = Grows-if _ _ _ _ c.extend_from_slice-in-NoEntry.ensures.items

pub returns-in_ok-submit_refusal-in-Submission-clause-ok : goal.returns-in_ok-submit_refusal-in-Submission-clause-ok
returns-in_ok-submit_refusal-in-Submission-clause-ok c =
    let same = c.deref.ensures.value ∙ c.in_ok-submit_refusal-in-Submission.ensures in
    rw c.in-Submission.is
    (puts-once c.extend_from_slice-in-Submission.result c.args.text.now.items c.deref.result.now _
    c.extend_from_slice-in-Submission.new.self.items same c.extend_from_slice-in-Submission.ensures.items)

pub returns-in_ok-submit_refusal-in-Submission-clause-grown : goal.returns-in_ok-submit_refusal-in-Submission-clause-grown
returns-in_ok-submit_refusal-in-Submission-clause-grown c = Grows-if _ _ _ _ c.extend_from_slice-in-Submission.ensures.items

pub returns-in_err-submit_refusal-in-Submission-clause-grown : goal.returns-in_err-submit_refusal-in-Submission-clause-grown
returns-in_err-submit_refusal-in-Submission-clause-grown c = Grows-none _ _ refl

pub returns-in_ok-withdraw_refusal-in-Withdrawal-clause-ok : goal.returns-in_ok-withdraw_refusal-in-Withdrawal-clause-ok
returns-in_ok-withdraw_refusal-in-Withdrawal-clause-ok c =
    let same = c.deref-in-Withdrawal.ensures.value ∙ c.in_ok-withdraw_refusal-in-Withdrawal.ensures in
    rw c.in-Withdrawal.is
    (puts-once c.extend_from_slice-in-Withdrawal.result c.args.text.now.items c.deref-in-Withdrawal.result.now _
    c.extend_from_slice-in-Withdrawal.new.self.items same c.extend_from_slice-in-Withdrawal.ensures.items)

pub returns-in_ok-withdraw_refusal-in-Withdrawal-clause-grown : goal.returns-in_ok-withdraw_refusal-in-Withdrawal-clause-grown
returns-in_ok-withdraw_refusal-in-Withdrawal-clause-grown c = Grows-if _ _ _ _ c.extend_from_slice-in-Withdrawal.ensures.items

pub returns-in_err-withdraw_refusal-in-Withdrawal-clause-grown : goal.returns-in_err-withdraw_refusal-in-Withdrawal-clause-grown
returns-in_err-withdraw_refusal-in-Withdrawal-clause-grown c = Grows-none _ _ refl
