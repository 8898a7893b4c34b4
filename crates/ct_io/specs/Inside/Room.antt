-- Space for what is gathered for a sink.
use Rattle.std.specs.Prelude.{◌≤◌, ℕ, length, Vec, vec_capacity}
use Rattle.std.specs.declared.alloc.Global.{Global}
use Rattle.ct_io.specs.declared.TheConstants.{MAX_GATHERED}

-- MAX_GATHERED bytes at most are gathered, and there is space for so many
abbrev pub HasRoom : Vec ℕ Global → Type 0
HasRoom gathered = (length gathered.items ≤ MAX_GATHERED) × (MAX_GATHERED ≤ vec_capacity gathered)
