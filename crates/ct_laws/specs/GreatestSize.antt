-- A(n,d) and A(n,d,w) themselves.
use Rattle.std.specs.Prelude.{ℕ}
use Rattle.ct_words.specs.declared.entry.Entry.{Entry}
use Rattle.ct_words.specs.Code.{IsTrueLower, IsTrueUpper}

-- m is A(n,d), or A(n,d,w), of the entry: some code of it has m words, and none has more (MacWilliams and Sloane, chapter 1, section 1;
-- Brouwer, Shearer, Sloane and Smith 1990)
pub record IsGreatestSize (e : Entry) (m : ℕ) : Type 0 where
  pub reached : IsTrueLower e m
  pub greatest : IsTrueUpper e m
