-- The words with a one at each place.
use Rattle.std.proofs.Common.{◌-◌, ◌*◌, ◌/◌, arith}
use Rattle.std.specs.Prelude.{Some}
use Rattle.ct_words.proofs.DigitCodes.{bound_from_weight, weight_bound_from_codes}
use Rattle.ct_johnson.proofs.Capped.{capped_bound}
use Rattle.ct_johnson.proofs.OnePlace.{weight_bound-one}
use Rattle.ct_johnson.proofs.places.drop_one.Goals as goal

pub returns-clause-sound : goal.returns-clause-sound
returns-clause-sound c = λ d h premise.
    let n = c.args.n in
    let w = c.args.w in
    let u = c.args.u in
    let list_bound = weight_bound-one n d w u (omega arith) (omega arith) (weight_bound_from_codes (n - 1) d (w - 1) u h premise) in
    rw (c.capped.ensures, c.from.ensures, c.from-2.ensures, c.from-3.ensures) (capped_bound n d (n * u / w) (Some w) (omega arith) (bound_from_weight n d w (n * u / w) list_bound))
