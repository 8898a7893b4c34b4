use Rattle.std.proofs.Common.{◌<◌, arith}
use Rattle.ct_words.proofs.Constructions.ReadLemmas.{without_digit-is}
use Rattle.ct_build.proofs.places.without_digit.Goals as goal

pub returns : goal.returns
returns c =
    let short : c.args.low < 31 = let within = c.requires in omega (arith, within) in
    without_digit-is c.args.low c.args.word short c.ranges.word.fits
