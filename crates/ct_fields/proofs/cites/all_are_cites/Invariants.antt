-- Those that are left decide for all values.
use Rattle.std.proofs.Common.{◌≡◌, drop, is_some}
use Rattle.toml.specs.View.{items_view}
use Rattle.ct_fields.specs.Forms.{all_of}
use Rattle.ct_fields.specs.Cites.{cite_in}
use Rattle.ct_fields.proofs.cites.all_are_cites.Given as goal

abbrev pub invariant-loop-value : goal.invariant-loop-value
invariant-loop-value l = is_some (all_of cite_in (items_view (drop l.value-index l.values))) ≡ is_some (all_of cite_in (items_view l.values))
