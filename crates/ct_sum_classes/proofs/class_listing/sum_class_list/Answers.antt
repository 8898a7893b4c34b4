use Rattle.std.proofs.Common.{List, Some, sym, subst}
use Rattle.std.specs.Prelude.{ℕ}
use Rattle.ct_words.specs.Code.{IsSoundCode}
use Rattle.ct_sum_classes.proofs.SumClasses.{sound-sum_class}
use Rattle.ct_sum_classes.proofs.class_listing.sum_class_list.Goals as goal

pub from_sorted-requires : goal.from_sorted-requires
from_sorted-requires c = record {
  code = subst (λ (ws : List ℕ). IsSoundCode (record { n = c.args.n; d = 4; w = Some c.args.w; words = ws })) (sym c.in_ok-words.ensures)
      (sound-sum_class c.args.n c.args.w c.args.r c.requires.length.0 c.requires.length.1 c.requires.some);
}
