use Rattle.std.proofs.Common.{ltb, arith, w8}
use Rattle.std.proofs.lemmas.Simd.{bitmask_splat}
use Rattle.ct_codes.proofs.rows.lanes_below.Goals as goal

pub returns : goal.returns
returns c = bitmask_splat w8 ltb c.args.lanes 64 c.args.limit c.requires (omega arith)
