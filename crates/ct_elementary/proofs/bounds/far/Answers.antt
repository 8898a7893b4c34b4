-- Two words differ at no more than n places.
use Rattle.ct_words.proofs.DigitCodes.{bound_from_spread}
use Rattle.ct_elementary.proofs.FarWords.{spread_far}
use Rattle.ct_elementary.proofs.bounds.far.Goals as goal

pub returns-then-n-d-clause-sound : goal.returns-then-n-d-clause-sound
returns-then-n-d-clause-sound c = bound_from_spread c.args.n c.args.d 1 (spread_far c.args.n c.args.d c.if-n-d.true)
