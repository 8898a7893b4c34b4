use Rattle.std.proofs.Common.{◌≡◌}
use Rattle.ct_rules.specs.Removal.{marked}
use Rattle.ct_table.specs.Inside.Exchanged.{exchanged}
use Rattle.ct_table.proofs.ExchangeLemmas.{over}
use Rattle.ct_table.proofs.exchanging.exchange.Given as goal

-- the items so far are exchanged
abbrev pub invariant-loop-place : goal.invariant-loop-place
invariant-loop-place l = (l.supports ≡ over l.place (exchanged (marked l.gone) l.fn.supports l.fn.others) l.fn.supports)
    × (l.others ≡ over l.place (exchanged (marked l.gone) l.fn.others l.fn.supports) l.fn.others)
