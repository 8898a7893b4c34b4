use Rattle.std.proofs.Common.{subst, sym}
use Rattle.ct_words.specs.declared.claim.Side.TheVariants.{Lower, Upper}
use Rattle.ct_slots.specs.Number.{bound_of}
use Rattle.ct_offers.specs.Offers.{IsLimit}
use Rattle.ct_offers.proofs.LimitLemmas.{limit_below, limit_above, limit_on}
use Rattle.ct_offers.proofs.pulling.limit_of.Goals as goal

pub returns-in-Lower : goal.returns-in-Lower
returns-in-Lower c = λ supports stand good.
    let f = bound_of c.args.bounds.now in
    limit_on supports f c.args.side Lower c.args.entry c.bound.result c.in-Lower.is
    (subst (IsLimit supports f (Lower, c.args.entry)) (sym c.bound.ensures)
    (limit_below supports f c.args.entry stand good c.requires))

pub returns-in-Upper : goal.returns-in-Upper
returns-in-Upper c = λ supports stand good.
    let f = bound_of c.args.bounds.now in
    limit_on supports f c.args.side Upper c.args.entry c.bound-in-Upper.result c.in-Upper.is
    (subst (IsLimit supports f (Upper, c.args.entry)) (sym c.bound-in-Upper.ensures)
    (limit_above supports f c.args.entry stand good c.requires))
