use Rattle.std.proofs.Common.{Bool, true, List, ap, ◌∙◌}
use Rattle.std.specs.Prelude.{slice_set}
use Rattle.ct_rules.specs.Removal.{marked}
use Rattle.ct_table.proofs.ExchangeLemmas.{marked-only}
use Rattle.ct_table.proofs.exchanging.only.Goals as goal

pub returns : goal.returns
returns c =
    ap (λ (marks : List Bool). marked (slice_set marks c.args.place true)) (c.in_ok-gone.ensures.items_if_clones_equal (λ y same. same))
    ∙ marked-only c.args.count c.args.place c.requires
