-- The words with a zero and those with a one at the first place.
use Rattle.std.proofs.Common.{◌-◌, ◌+◌, arith}
use Rattle.std.specs.Prelude.{Some}
use Rattle.ct_words.proofs.DigitCodes.{bound_from_weight, weight_bound_from_codes}
use Rattle.ct_johnson.proofs.Capped.{capped_bound}
use Rattle.ct_johnson.proofs.OnePlace.{weight_bound-halves}
use Rattle.ct_johnson.proofs.places.split.Goals as goal

pub returns-clause-sound : goal.returns-clause-sound
returns-clause-sound c = λ n d w short h some less zeros ones.
    let u = c.args.u0 in
    let v = c.args.u1 in
    let list_bound =
    weight_bound-halves n d w u v (omega arith) some
    (weight_bound_from_codes (n - 1) d w u h zeros) (weight_bound_from_codes (n - 1) d (w - 1) v h ones) in
    rw (c.capped.ensures, c.from.ensures, c.from-2.ensures) (capped_bound n d (u + v) (Some w) short (bound_from_weight n d w (u + v) list_bound))
