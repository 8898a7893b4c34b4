-- The sums of a sample are sums of true bounds.
use Rattle.std.proofs.Common.{◌≡◌, ℕ, List, ◌++◌, ap, ◌∙◌}
use Rattle.std.specs.Prelude.{codes}
use Rattle.ct_words.specs.declared.entry.Entry.{Entry}
use Rattle.ct_words.specs.declared.claim.Side.{Side}
use Rattle.ct_words.specs.declared.claim.Side.TheVariants.{Lower, Upper}
use Rattle.ct_words.specs.Claim.{IsTrueClaim}
use Rattle.ct_words.specs.Entry.{IsEntry}
use Rattle.ct_piece.specs.Supports.{supports_of}
use Rattle.ct_rule_parts.specs.Slot.{claim_at}
use Rattle.ct_rules.proofs.BestValues.{best_is_true}
use Rattle.ct_sample.specs.Run.{run_to}
use Rattle.ct_sample.specs.Summary.{IsSampleOutput, named_line}
use Rattle.ct_sample.specs.Truth.{AreTrueSums}
use Rattle.ct_sample.specs.declared.tally.Tally.{Tally}
use Rattle.ct_sample.proofs.Running.{running}

-- the sums of best bounds are sums of true ones
pub sums_are_true : (number : ℕ) (output : List ℕ) → IsSampleOutput number output → AreTrueSums output
sums_are_true number output h =
    let s = h.summary in
    let best = h.sums.best in
    let stand = (running number number).stand in
    let truth : (side : Side) (e : Entry) → IsEntry e → IsTrueClaim (claim_at (side, e) (best (side, e))) =
    λ side e entry. best_is_true (supports_of (run_to number number).pieces) (side, e) (best (side, e)) stand (h.sums.are_best (side, e) entry)
    in
    let before = named_line (codes "commands") s.commands ++ named_line (codes "accepted") s.accepted ++ named_line (codes "withdrawn") s.withdrawn
    ++ named_line (codes "standing") s.standing ++ named_line (codes "equal") s.tally.equal in
    record {
      lower = λ e. best (Lower, e);
      upper = λ e. best (Upper, e);
      attained = λ e entry. (truth Lower e entry).truth;
      limited = λ e entry. (truth Upper e entry).truth;
      before = before;
      spelled = h.text ∙ ap (λ (t : Tally). before ++ named_line (codes "lower") t.lower ++ named_line (codes "upper") t.upper) h.sums.tally;
    }
