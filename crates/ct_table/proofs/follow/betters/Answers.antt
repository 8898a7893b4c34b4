use Rattle.std.proofs.Common.{◌≡◌, ℕ, List, false, slice_get, subst}
use Rattle.ct_slots.specs.Number.{bound_of}
use Rattle.ct_offers.specs.Offers.{IsWithin}
use Rattle.ct_offers.specs.Inside.Pulled.{given_rule}
use Rattle.ct_table.proofs.follow.betters.Goals as goal

pub returns : goal.returns
returns c =
    subst (λ (bounds : List ℕ). c.is_bettered.result ≡ false → IsWithin c.args.supports.now (bound_of bounds) (c.args.side, c.args.entry)
    (bound_of bounds (c.args.side, c.args.entry)) (given_rule (slice_get c.args.supports.now c.args.place) (c.args.side, c.args.entry) c.args.place)) c.bounds.ensures c.is_bettered.ensures
