-- What a table claims of an entry, and when it is true.
use Rattle.std.specs.Prelude.{◌≤◌, ℕ}
use Rattle.ct_words.specs.declared.limits.TheConstants.{MAX_BOUND}
use Rattle.ct_words.specs.declared.entry.Entry.{Entry}
use Rattle.ct_words.specs.declared.claim.Side.{Side}
use Rattle.ct_words.specs.declared.claim.Side.TheVariants.{Lower, Upper}
use Rattle.ct_words.specs.declared.claim.Claim.{Claim}
use Rattle.ct_words.specs.Entry.{IsEntry}
use Rattle.ct_words.specs.Code.{IsTrueLower, IsTrueUpper}

-- a bound of this side is true of an entry
abbrev pub IsTrueOn : Side → Entry → ℕ → Type 0
IsTrueOn Lower e v = IsTrueLower e v
IsTrueOn Upper e v = IsTrueUpper e v

-- a claim that is true: it speaks of an entry of the table, its value is from 1 to MAX_BOUND, and of a lower bound some code of the entry has
-- exactly this many words, of an upper bound no code of it has more
pub record IsTrueClaim (c : Claim) : Type 0 where
  pub entry : IsEntry c.entry
  pub range : (1 ≤ c.value) × (c.value ≤ MAX_BOUND)
  pub truth : IsTrueOn c.side c.entry c.value
