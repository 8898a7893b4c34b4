use Rattle.std.proofs.Common.{◌≤◌, ◌^◌, length, ap, arith, lit≤}
use Rattle.std.proofs.Math.Nat.{pow-le-pow_right}
use Rattle.ct_words.specs.declared.limits.TheConstants.{MAX_BOUND}
use Rattle.ct_words.proofs.CheckLemmas.{code_size-le}
use Rattle.ct_build_files.proofs.build_kind.size_of.Goals as goal

pub overflow_cast-result : goal.overflow_cast-result
overflow_cast-result c =
    let size = code_size-le _ _ _ _ c.words.ensures.sound.code in
    let cap : 2 ^ c.args.code.now.n ≤ MAX_BOUND = pow-le-pow_right (lit≤ tt) c.words.ensures.sound.length_in_range.1 in
    let same = ap length c.words.ensures.value in
    omega (arith, size, cap, same)
