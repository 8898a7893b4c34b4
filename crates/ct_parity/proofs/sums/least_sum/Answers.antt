-- There are at most as many words of a weight as words.
use Rattle.std.proofs.Common.{◌≤◌, ◌^◌, arith}
use Rattle.std.proofs.Math.Nat.{pow-le-pow_right}
use Rattle.ct_words.specs.declared.limits.TheConstants.{MAX_N}
use Rattle.ct_words.proofs.Counting.Binomials.{choose-le}
use Rattle.ct_parity.proofs.sums.least_sum.Goals as goal

pub returns-clause-small : goal.returns-clause-small
returns-clause-small c =
    let few = choose-le c.args.n c.args.k in
    let value = c.binomial.ensures in
    let power : 2 ^ c.args.n ≤ 2 ^ MAX_N = pow-le-pow_right (omega arith) c.requires.length in
    omega (arith, few, value, power)
