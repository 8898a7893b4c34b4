-- The sides of bounds that are shown.
use Rattle.std.specs.Prelude.{ℕ}
use Rattle.ct_words.specs.declared.claim.Side.{Side}
use Rattle.ct_words.specs.declared.claim.Side.TheVariants.{Lower, Upper}
use Rattle.ct_replies.specs.declared.reply.Bounds.{Bounds}

-- the bound on a side
abbrev pub bound_on : Side → Bounds → ℕ
bound_on Lower b = b.lower
bound_on Upper b = b.upper
